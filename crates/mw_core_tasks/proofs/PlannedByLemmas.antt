-- The plan of an accepted command, off what is looked up of its inputs.
use Rattle.std.proofs.Common.{◌≡◌, ℕ, ◌-◌, ◌<◌, true, false, get_or, List, length, Option, Some, None, Result, Ok, Err, IfOk, sym, ap, ◌∙◌, subst}
use Rattle.std.specs.List.{AllByRecursion}
use Rattle.mw_model.specs.declared.names.Name.{Name}
use Rattle.mw_model.specs.declared.operations.Op.{Op}
use Rattle.mw_model.specs.declared.calls.Call.TheVariants as call
use Rattle.mw_model.specs.declared.shapes.Kind.{Kind}
use Rattle.mw_model.specs.declared.shapes.Shape.{Shape}
use Rattle.mw_model.specs.declared.shapes.Shape.TheVariants as shape
use Rattle.mw_model.specs.declared.submissions.Submission.{Submission}
use Rattle.mw_model.specs.Values.{Value, tickets}
use Rattle.mw_model.specs.Refusals.{Table, inputs_wanted, is_image, refusal, shape_at}
use Rattle.mw_model.specs.Machine.{inputs_from, run_submission}
use Rattle.mw_model.specs.Plans.{Plan, is_sum}
use Rattle.mw_model.specs.Tasks.{Progress, nothing_planned}
use Rattle.mw_grid.specs.Grids.{Tiling, tiling}
use Rattle.mw_core_laws.specs.mw_plan.declared.inputs.Input.{Input}
use Rattle.mw_core_laws.specs.mw_plan.declared.inputs.Input.TheVariants as input
use Rattle.mw_core_laws.specs.mw_plan.Asked.{fault_in, shape_made}
use Rattle.mw_core_laws.specs.mw_plan.PlansOf.{IsPlanOf}
use Rattle.mw_core_laws.specs.mw_plan.Tables.{AreInputsOf, IsInputAt, IsInputOf}
use Rattle.mw_core_laws.specs.mw_core_planes.Levels.{Level}
use Rattle.mw_core_laws.specs.mw_core_progress.ProgressView.{IsWhole, IsWorkable, ProgressView, fresh}
use Rattle.mw_core_laws.specs.Limits.{ShapesFit}
use Rattle.mw_core_tasks.specs.Sides.{IsSideFor}
use Rattle.mw_core_tasks.specs.SourceWindows.{IsInput}
use Rattle.mw_core_tasks.specs.Planning.{IsAllowed, IsLookedUp, IsPlannedBy, level_of_shape}
use Rattle.mw_core_tasks.proofs.PlanningLemmas.{IsElementAt, accepted-takes, each-ticket, first-there, fits-looked-up, image-told, shape-made-of}
use Rattle.mw_core_tasks.proofs.WorkableLemmas.{workable}

-- ---- what is looked up

-- An accepted command whose first input is an image of this shape, and what is looked up of its inputs.
pub record LooksUp (w : Table) (kept : List (Option Value)) (n : Name) (o : Op) (e : Submission) (t : ℕ) (s : Shape) (a b c : Input) : Type 0 where
  pub accepted : refusal w kept (call.Run n o) ≡ None
  pub submission : e ≡ run_submission w o
  pub below : AllByRecursion (λ i. i < length w.names) (tickets e.inputs)
  pub fits : ShapesFit w
  pub ticket : e.inputs.a ≡ Some t
  pub shape : shape_at w.submissions t ≡ s
  pub first : IsLookedUp w kept e.inputs.a a
  pub second : IsLookedUp w kept e.inputs.b b
  pub third : IsLookedUp w kept e.inputs.c c

pub are-inputs : (w : Table) (kept : List (Option Value)) (n : Name) (o : Op) (e : Submission) (t : ℕ) (s : Shape) (a b c : Input) → LooksUp w kept n o e t s a b c → AreInputsOf w kept (inputs_from w (inputs_wanted o)) a b c
are-inputs w kept n o e t s a b c l =
    let P : Submission → Type 0 = λ d. AreInputsOf w kept d.inputs a b c in
    subst P l.submission (record { first = l.first.told; second = l.second.told; third = l.third.told })

-- an accepted command without a fault, whose first input is told to be an image of this shape
pub looks-up : (w : Table) (kept : List (Option Value)) (n : Name) (o : Op) (e : Submission) (s : Shape) (a b c : Input) → refusal w kept (call.Run n o) ≡ None → e ≡ run_submission w o → AllByRecursion (λ i. i < length w.names) (tickets e.inputs)
    → ShapesFit w → IsLookedUp w kept e.inputs.a a → IsLookedUp w kept e.inputs.b b → IsLookedUp w kept e.inputs.c c → a ≡ input.Image s → (t : ℕ) × LooksUp w kept n o e t s a b c
looks-up w kept n o e s a b c accepted submission below fits first second third is =
    let takes = accepted-takes w kept n o accepted in
    let ticket : e.inputs.a ≡ Some takes.image = ap (λ (d : Submission). d.inputs.a) submission ∙ takes.first in
    let P : Option ℕ → Type 0 = λ x. IsInputOf w kept x a in
    let Q : Input → Type 0 = λ i. IsInputAt w kept takes.image i in
    let told : IsInputAt w kept takes.image (input.Image s) = subst Q is (subst P ticket first.told) in (
      takes.image,
      record {
        accepted = accepted;
        submission = submission;
        below = below;
        fits = fits;
        ticket = ticket;
        shape = told.0;
        first = first;
        second = second;
        third = third;
      },
    )

image-first : (w : Table) (kept : List (Option Value)) (n : Name) (o : Op) (e : Submission) (t : ℕ) (s : Shape) (a b c : Input) → LooksUp w kept n o e t s a b c → fault_in o a b c ≡ None → a ≡ input.Image s
image-first w kept n o e t s a b c l none =
    let P : Option ℕ → Type 0 = λ x. IsInputOf w kept x a in
    image-told w kept t a s (subst P l.ticket l.first.told) (first-there o a b c none) l.shape

-- ---- the plan

-- it can be worked off
pub plan-works : (w : Table) (kept : List (Option Value)) (n : Name) (o : Op) (e : Submission) (t : ℕ) (s : Shape) (a b c : Input) (plan : Plan) → LooksUp w kept n o e t s a b c → fault_in o a b c ≡ None → IsPlanOf o a b c plan
    → IsWorkable plan (level_of_shape s) × IsAllowed plan (level_of_shape s)
plan-works w kept n o e t s a b c plan l none planned =
    let each = each-ticket (λ i. i < length w.names) e.inputs l.below in
    workable o a b c plan s planned (image-first w kept n o e t s a b c l none)
    (fits-looked-up w kept e.inputs.a a l.fits each.first l.first, (fits-looked-up w kept e.inputs.b b l.fits each.second l.second, (fits-looked-up w kept e.inputs.c c l.fits each.third l.third, tt)))

shape-told : (w : Table) (kept : List (Option Value)) (n : Name) (o : Op) (e : Submission) (t : ℕ) (s : Shape) (a b c : Input) → LooksUp w kept n o e t s a b c → fault_in o a b c ≡ None → e.shape ≡ shape_made o a
shape-told w kept n o e t s a b c l none =
    ap (λ (d : Submission). d.shape) l.submission
    ∙ shape-made-of w o a t s (sym (ap (λ (d : Submission). d.inputs.a) l.submission) ∙ l.ticket) l.shape (image-first w kept n o e t s a b c l none)

-- ---- the work

-- Work of this plan, as it is made: on tiles of a frame of this shape, and nothing of it is started.
pub record IsMadeOf (plan : Plan) (kind : Kind) (width height maxval side : ℕ) (u : ProgressView) : Type 0 where
  pub input : u.input ≡ record { kind = kind; maxval = maxval }
  pub tiling : u.tiling ≡ tiling width height side
  pub progress : u.progress ≡ fresh plan u.input u.tiling
  pub whole : IsWhole u

reads-first : (w : Table) (kept : List (Option Value)) (n : Name) (o : Op) (e : Submission) (t : ℕ) (kind : Kind) (width height maxval side : ℕ) (a b c : Input) (plan : Plan) (u : ProgressView)
    → LooksUp w kept n o e t (shape.Image kind width height maxval) a b c → IsMadeOf plan kind width height maxval side u → IsInput w e u
reads-first w kept n o e t kind width height maxval side a b c plan u l made =
    let takes = accepted-takes w kept n o l.accepted in
    let P : Submission → Type 0 = λ d. IsElementAt w d.inputs.b in
    let Q : Submission → Type 0 = λ d. IsElementAt w d.inputs.c in
    record {
      image = t;
      first = l.ticket;
      shape = l.shape ∙ ap (λ (x : Level). shape.Image x.kind width height x.maxval) (sym made.input) ∙ ap (λ (g : Tiling). shape.Image u.input.kind g.width g.height u.input.maxval) (sym made.tiling);
      second = subst P (sym l.submission) takes.second;
      third = subst Q (sym l.submission) takes.third;
    }

pub planned-by : (w : Table) (kept : List (Option Value)) (n : Name) (o : Op) (e : Submission) (t : ℕ) (kind : Kind) (width height maxval asked side : ℕ) (a b c : Input) (plan : Plan) (u : ProgressView)
    → LooksUp w kept n o e t (shape.Image kind width height maxval) a b c → fault_in o a b c ≡ None → IsPlanOf o a b c plan → IsSideFor asked side → IsMadeOf plan kind width height maxval side u → IsPlannedBy w kept o e asked u
planned-by w kept n o e t kind width height maxval asked side a b c plan u l none planned fits made =
    let s = shape.Image kind width height maxval in
    let same : plan ≡ u.progress.plan = sym (ap (λ (p : Progress). p.plan) made.progress) in
    let works = plan-works w kept n o e t s a b c plan l none planned in
    let shaped = shape-told w kept n o e t s a b c l none in
    let last : is_image e.shape ≡ true → is_sum (get_or plan (length plan - 1) nothing_planned).step ≡ false = λ drawn. planned.last (ap is_image (sym shaped) ∙ drawn) in
    let Fresh : Plan → Type 0 = λ p. u.progress ≡ fresh p u.input u.tiling in
    let Allowed : Level → Type 0 = λ x. IsAllowed plan x in
    let On : Plan → Type 0 = λ p. IsAllowed p u.input × (is_image e.shape ≡ true → is_sum (get_or p (length p - 1) nothing_planned).step ≡ false) in
    let on = subst On same (subst Allowed (sym made.input) works.1, last) in
    record {
      a = a;
      b = b;
      c = c;
      run = record { inputs = are-inputs w kept n o e t s a b c l; plan_of = subst (IsPlanOf o a b c) same planned };
      progress = subst Fresh same made.progress;
      on = record { input = reads-first w kept n o e t kind width height maxval side a b c plan u l made; allowed = on.0; last = on.1 };
      tiles = subst (IsSideFor asked) (sym (ap (λ (g : Tiling). g.side) made.tiling)) fits;
      whole = made.whole;
    }

-- so it is with the work, where memory was there for it
pub planned-made : {E : Type 0} (r : Result ProgressView E) (w : Table) (kept : List (Option Value)) (n : Name) (o : Op) (e : Submission) (t : ℕ) (kind : Kind) (width height maxval asked side : ℕ) (a b c : Input) (plan : Plan) (g : Tiling)
    → LooksUp w kept n o e t (shape.Image kind width height maxval) a b c → fault_in o a b c ≡ None → IsPlanOf o a b c plan → IsSideFor asked side → g ≡ tiling width height side
    → IfOk r (λ u. u.progress ≡ fresh plan u.input g) → IfOk r (λ u. u.input ≡ record { kind = kind; maxval = maxval }) → IfOk r (λ u. u.tiling ≡ g) → IfOk r IsWhole → IfOk r (IsPlannedBy w kept o e asked)
planned-made (Err x) w kept n o e t kind width height maxval asked side a b c plan g l none planned fits is progress input tiled whole = tt
planned-made (Ok u) w kept n o e t kind width height maxval asked side a b c plan g l none planned fits is progress input tiled whole =
    let Fresh : Tiling → Type 0 = λ x. u.progress ≡ fresh plan u.input x in
    planned-by w kept n o e t kind width height maxval asked side a b c plan u l none planned fits
    (record { input = input; tiling = tiled ∙ is; progress = subst Fresh (sym tiled) progress; whole = whole })
