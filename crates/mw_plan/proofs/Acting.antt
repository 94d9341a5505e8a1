-- What the steps of flat operators do.
use Rattle.std.proofs.Common.{◌≡◌, ℕ, List, cond, nat_le, refl, ap, subst, sym, ◌∙◌}
use Rattle.mw_model.specs.declared.shapes.Kind.TheVariants as kind
use Rattle.mw_model.specs.declared.offsets.Offset.{Offset}
use Rattle.mw_model.specs.declared.offsets.OffsetBox.{OffsetBox}
use Rattle.mw_model.specs.Rectangles.{box_offsets}
use Rattle.mw_model.specs.PlanSteps as step
use Rattle.mw_model.specs.PlanSteps.{PlanStep}
use Rattle.mw_model.specs.Flat.{reflected, rank, threshold}
use Rattle.mw_step_task.specs.mw_element.Figures.{FillsBox}
use Rattle.mw_model_laws.proofs.Composed.{CoverSame, erosion_same, dilation_same}
use Rattle.mw_step_task.proofs.Cut.{plane_of_one}
use Rattle.mw_plan.specs.declared.extremum.ExtremumKind.{ExtremumKind}
use Rattle.mw_plan.specs.declared.extremum.ExtremumKind.TheVariants.{Least, Greatest}
use Rattle.mw_plan.specs.Steps.{ActsAs, by_offsets, by_box, sliding, turned_box}
use Rattle.mw_plan.proofs.Boxes.{box_same, turned_same}

pub acts_by_offsets : (x : ExtremumKind) (e : List Offset) → ActsAs (by_offsets x e) (sliding x e)
acts_by_offsets Least e = record { unsummed = refl; made = λ f. record { count = refl; kinds = tt }; plane = λ f. refl }
acts_by_offsets Greatest e = record { unsummed = refl; made = λ f. record { count = refl; kinds = tt }; plane = λ f. refl }

-- a box acts as each element that covers the same
acts_by_box : (x : ExtremumKind) (box : OffsetBox) (e : List Offset) → CoverSame (box_offsets box) e → ActsAs (by_box x box) (sliding x e)
acts_by_box Least box e same = record { unsummed = refl; made = λ f. record { count = refl; kinds = tt }; plane = λ f. erosion_same (box_offsets box) e f same }
acts_by_box Greatest box e same = record { unsummed = refl; made = λ f. record { count = refl; kinds = tt }; plane = λ f. dilation_same (box_offsets box) e f same }

pub acts_by_full_box : (x : ExtremumKind) (box : OffsetBox) (e : List Offset) → FillsBox box e → ActsAs (by_box x box) (sliding x e)
acts_by_full_box x box e fills = acts_by_box x box e (box_same box e fills)

pub acts_by_turned_box : (x : ExtremumKind) (box : OffsetBox) (e : List Offset) → FillsBox box e → ActsAs (by_box x (turned_box box)) (sliding x (reflected e))
acts_by_turned_box x box e fills = acts_by_box x (turned_box box) (reflected e) (turned_same box e fills)

pub acts_by_rank : (e : List Offset) (k : ℕ) → ActsAs (step.Rank e k) (rank e k)
acts_by_rank e k = record { unsummed = refl; made = λ f. record { count = refl; kinds = tt }; plane = λ f. refl }

pub acts_by_level : (k : ℕ) → ActsAs (step.AtLeast k) (threshold k)
acts_by_level k = record { unsummed = refl; made = λ f. record { count = refl; kinds = tt }; plane = λ f. plane_of_one kind.Bit 1 (λ n. cond (nat_le k n) 1 0) f }

-- what steps do that mean these, by equal lists of offsets
pub slides_by_offsets : (x : ExtremumKind) (s : PlanStep) (d e : List Offset) → s ≡ by_offsets x d → d ≡ e → ActsAs s (sliding x e)
slides_by_offsets x s d e is same = subst (λ (t : PlanStep). ActsAs t (sliding x e)) (sym (is ∙ ap (by_offsets x) same)) (acts_by_offsets x e)

pub slides_by_box : (x : ExtremumKind) (s : PlanStep) (box : OffsetBox) (d e : List Offset) → s ≡ by_box x box → FillsBox box d → d ≡ e → ActsAs s (sliding x e)
slides_by_box x s box d e is fills same =
    subst (λ (t : PlanStep). ActsAs t (sliding x e)) (sym is) (subst (λ (t : List Offset). ActsAs (by_box x box) (sliding x t)) same (acts_by_full_box x box d fills))

pub slides_by_turned_box : (x : ExtremumKind) (s : PlanStep) (box t : OffsetBox) (d e : List Offset) → s ≡ by_box x t → t ≡ turned_box box → FillsBox box d → d ≡ e → ActsAs s (sliding x (reflected e))
slides_by_turned_box x s box t d e is turned fills same =
    subst (λ (r : PlanStep). ActsAs r (sliding x (reflected e))) (sym (is ∙ ap (by_box x) turned))
    (subst (λ (r : List Offset). ActsAs (by_box x (turned_box box)) (sliding x (reflected r))) same (acts_by_turned_box x box d fills))
