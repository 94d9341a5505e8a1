-- What a core knows of the work under a ticket is what holds of it beside each machine that the core stands for.
use Rattle.std.proofs.Common.{◌≡◌, ℕ, ◌<◌, List, length, get_or, Option, sym, subst}
use Rattle.mw_model.specs.declared.shapes.Shape.TheVariants as shape
use Rattle.mw_model.specs.Pictures.{Picture}
use Rattle.mw_model.specs.Values.{Value, shape_of_picture}
use Rattle.mw_model.specs.Machine.{Machine}
use Rattle.mw_model.specs.Tasks.{nothing_planned}
use Rattle.mw_core_laws.specs.mw_model_laws.MachineLaws.{IsSound, WithinLimits}
use Rattle.mw_core_laws.specs.mw_plan.PlansOf.{CanBeMade, planes_read}
use Rattle.mw_core_laws.specs.mw_core_planes.Levels.{Level, level_of}
use Rattle.mw_core_laws.specs.mw_core_progress.ProgressView.{ProgressView, IsWhole}
use Rattle.mw_core_laws.specs.Works.{IsPlanned}
use Rattle.mw_core_tasks.specs.Planning.{IsAllowed, IsPlannedAt}
use Rattle.mw_core_tasks.proofs.AllowedLemmas.{made-allowed}
use Rattle.mw_core_tasks.proofs.InputLemmas.{reads-image}

pub level-is : (f : Picture) (l : Level) (w h : ℕ) → shape_of_picture f ≡ shape.Image l.kind w h l.maxval → l ≡ level_of f
level-is f l w h e =
    let k : f.kind ≡ l.kind = cc in
    let m : f.maxval ≡ l.maxval = cc in
    λ i. record { kind = sym k i; maxval = sym m i }

-- what the core knows of the work is what is planned
pub planned-at : (m : Machine) (t : ℕ) (u : ProgressView) → IsSound m → t < length m.table.names → IsPlannedAt m.table t u → IsWhole u → IsPlanned m t u
planned-at m t u s within at whole =
    let reads = reads-image m t u s within at.input in
    let f = reads.picture in
    let i = at.input.image in
    let p = u.progress in
    let Limits : Option Value → Type 0 = WithinLimits in
    let level = level-is f u.input u.tiling.width u.tiling.height reads.shape in
    let Allowed : Level → Type 0 = λ l. IsAllowed p.plan l in
    let TileResult : List Picture → Type 0 = λ fs. (k : ℕ) → k < length p.plan → CanBeMade (get_or p.plan k nothing_planned).step (planes_read p.plan fs p.width p.height k) in
    record {
      image = f;
      images = reads.images;
      limits = subst Limits reads.value (s.limits i reads.within);
      input = level;
      made = subst TileResult (sym reads.images) (λ k l. made-allowed p.plan f p.width p.height k whole.workable.sources (subst Allowed level at.allowed) l);
      last = at.last;
    }
