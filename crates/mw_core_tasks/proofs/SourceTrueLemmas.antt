-- What is kept of the sources of a task is what they are by the definitions.
use Rattle.std.proofs.Common.{◌≡◌, ℕ, zero, suc, ◌<◌, true, false, List, [], ◌∷◌, ◌++◌, map, length, get_or, Option, Some, refl, sym, ap, ◌∙◌, subst, arith}
use Rattle.std.specs.List.{AllByRecursion}
use Rattle.mw_model.specs.declared.shapes.Kind.{Kind}
use Rattle.mw_model.specs.declared.shapes.Shape.TheVariants as shape
use Rattle.mw_model.specs.declared.calls.Outcome.TheVariants as outcome
use Rattle.mw_model.specs.Pictures.{Picture}
use Rattle.mw_model.specs.Values.{Value, ImageValue, image_of, value_at, option_list, shape_of_picture}
use Rattle.mw_model.specs.Refusals.{Table, outcome_at, submission_at}
use Rattle.mw_model.specs.Machine.{Machine, values}
use Rattle.mw_model.specs.Plans.{Source, FromInput, FromStep, IsSourceAt, images_of, is_sum, no_picture, plane_of_source}
use Rattle.mw_model.specs.Tasks.{nothing_planned, planned_of, sources_of, step_number}
use Rattle.mw_model.specs.Stands.{CoreView, StandsFor, inputs_of, inputs_there, input_values, true_planes}
use Rattle.mw_core_laws.specs.mw_step_task.Sources.{HasFrame}
use Rattle.mw_core_laws.specs.mw_tile_planes.Tiles.{IsPlaneOf}
use Rattle.mw_core_laws.specs.mw_core_progress.ProgressView.{ProgressView, IsWhole, IsPlaneSource, plane_at}
use Rattle.mw_core_laws.proofs.KeptInputs.{kept_inputs}
use Rattle.mw_core_tasks.specs.SourceWindows.{IsInputOfTicket, AreSources}
use Rattle.mw_core_tasks.proofs.InputLemmas.{reads-image}
use Rattle.mw_core_laws.proofs.StandsLemmas.{stands-sound}
use Rattle.mw_core_laws.proofs.TaskLemmas.{kept-images}

heads : (f g : ℕ → Option Value) (x : ℕ) (xs : List ℕ) → map f (x ∷ xs) ≡ map g (x ∷ xs) → f x ≡ g x
heads f g x xs e = cc

-- the image that a ticket reads is kept, once its inputs are there
pub kept-first : (c : CoreView) (m : Machine) (t : ℕ) (u : ProgressView) → StandsFor c m → t < length c.table.names → outcome_at c.table.outcomes t ≡ outcome.Pending → inputs_there m.table t ≡ true
    → (r : IsInputOfTicket c.table t u) → value_at c.kept r.image ≡ value_at (values m) r.image
kept-first c m t u s within pending there r =
    let inputs = (submission_at c.table.submissions t).inputs in
    let more = option_list inputs.b ++ option_list inputs.c in
    let Values : Option ℕ → Type 0 = λ a. map (value_at c.kept) (option_list a ++ option_list inputs.b ++ option_list inputs.c) ≡ map (value_at (values m)) (option_list a ++ option_list inputs.b ++ option_list inputs.c) in
    let Same : Table → Type 0 = λ w. kept_inputs c.table c.kept t ≡ input_values (record m { table = w }) t in
    let same : map (value_at c.kept) (option_list inputs.a ++ option_list inputs.b ++ option_list inputs.c) ≡ map (value_at (values m)) (option_list inputs.a ++ option_list inputs.b ++ option_list inputs.c)
    = kept-images c m t s within pending there ∙ ap (λ (w : Table). map (value_at (values m)) (inputs_of w t)) (sym s.table) in
    heads (value_at c.kept) (value_at (values m)) r.image more (subst Values r.first same)

-- ---- sources

sources-are : (u : ProgressView) (f : Picture) (made : List Picture) (k : ℕ) → HasFrame u.tiling.width u.tiling.height f → k < length u.progress.plan
    → ((j : ℕ) → j < length u.progress.plan → is_sum (get_or u.progress.plan j nothing_planned).step ≡ false → IsPlaneOf (plane_at u j) (get_or made j no_picture))
    → (ss : List Source) → AllByRecursion (IsSourceAt 1 k) ss → AllByRecursion (IsPlaneSource u.progress.plan) ss → AreSources (Some f) u ss (map (plane_of_source (f ∷ []) made) ss)
sources-are u f made k frame within planes [] before apart = tt
sources-are u f made k frame within planes (FromInput zero ∷ ss) before apart = ((refl, frame), sources-are u f made k frame within planes ss before.1 apart.1)
sources-are u f made k frame within planes (FromInput (suc j) ∷ ss) before apart = absurd (omega (arith, before.0))
sources-are u f made k frame within planes (FromStep j ∷ ss) before apart = (planes j (omega (arith, before.0, within)) apart.0, sources-are u f made k frame within planes ss before.1 apart.1)

frame-of : (f : Picture) (k : Kind) (w h m : ℕ) → shape_of_picture f ≡ shape.Image k w h m → HasFrame w h f
frame-of f k w h m e = record { width = cc; height = cc }

-- the image that a ticket reads, on both sides
pub record ReadsKept (c : CoreView) (m : Machine) (t : ℕ) (u : ProgressView) (image : ℕ) : Type 0 where
  pub picture : Picture
  pub kept : image_of (value_at c.kept image) ≡ Some picture
  pub images : images_of (input_values m t) ≡ picture ∷ []
  pub shape : shape_of_picture picture ≡ shape.Image u.input.kind u.tiling.width u.tiling.height u.input.maxval
  pub frame : HasFrame u.tiling.width u.tiling.height picture

pub reads-kept : (c : CoreView) (m : Machine) (t : ℕ) (u : ProgressView) → StandsFor c m → t < length c.table.names → outcome_at c.table.outcomes t ≡ outcome.Pending → inputs_there m.table t ≡ true
    → (r : IsInputOfTicket c.table t u) → ReadsKept c m t u r.image
reads-kept c m t u s within pending there r =
    let Named : Table → Type 0 = λ w. t < length w.names in
    let Reads : Table → Type 0 = λ w. (q : IsInputOfTicket w t u) × (q.image ≡ r.image) in
    let told = subst Reads s.table (r, refl) in
    let found = reads-image m t u (stands-sound c m s) (subst Named s.table within) told.0 in
    let value : value_at (values m) r.image ≡ Some (ImageValue found.picture) = ap (value_at (values m)) (sym told.1) ∙ found.value in
    record {
      picture = found.picture;
      kept = ap image_of (kept-first c m t u s within pending there r ∙ value);
      images = found.images;
      shape = found.shape;
      frame = frame-of found.picture u.input.kind u.tiling.width u.tiling.height u.input.maxval found.shape;
    }

-- the sources of each task are those by the definitions, where the planes are
pub sources-true : (c : CoreView) (m : Machine) (t : ℕ) (u : ProgressView) (n image : ℕ) → ReadsKept c m t u image → IsWhole u → step_number u.progress n < length u.progress.plan
    → ((j : ℕ) → j < length u.progress.plan → is_sum (get_or u.progress.plan j nothing_planned).step ≡ false → IsPlaneOf (plane_at u j) (get_or (true_planes m t u.progress) j no_picture))
    → AreSources (image_of (value_at c.kept image)) u (planned_of u.progress n).sources (sources_of u.progress (images_of (input_values m t)) (true_planes m t u.progress) n)
sources-true c m t u n image reads whole within planes =
    let f = reads.picture in
    let made = true_planes m t u.progress in
    let k = step_number u.progress n in
    let Kept : Option Picture → Type 0 = λ x. AreSources x u (planned_of u.progress n).sources (map (plane_of_source (images_of (input_values m t)) made) (planned_of u.progress n).sources) in
    let Images : List Picture → Type 0 = λ fs. AreSources (Some f) u (planned_of u.progress n).sources (map (plane_of_source fs made) (planned_of u.progress n).sources) in
    subst Kept (sym reads.kept) (subst Images (sym reads.images) (sources-are u f made k reads.frame within planes (planned_of u.progress n).sources (whole.workable.sources k) (whole.workable.planes k)))
