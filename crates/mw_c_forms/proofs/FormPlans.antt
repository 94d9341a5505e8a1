-- What the plans of forms make.
use Rattle.std.proofs.Common.{◌≡◌, [], ◌∷◌, length, Option, Some, None, IfSome, refl, ap, sym, arith, ◌∙◌}
use Rattle.std.specs.Prelude.{slice_index_or}
use Rattle.mw_model.specs.Flat.{minus}
use Rattle.mw_model.specs.PlanSteps.{Minus}
use Rattle.mw_model.specs.Pictures.{Picture}
use Rattle.mw_model.specs.Plans.{Plan, Planned, plane_of}
use Rattle.mw_model.specs.Tasks.{nothing_planned}
use Rattle.mw_step_task.proofs.Cut.{plane_of_two}
use Rattle.mw_plan.specs.Steps.{last_plane}
use Rattle.mw_c_lent.specs.Rules.{rule_picture}
use Rattle.mw_c_forms.specs.declared.forms.Form.{Form}
use Rattle.mw_c_forms.specs.declared.forms.Form.TheVariants as form
use Rattle.mw_c_forms.specs.declared.forms.Rest.TheVariants as rest
use Rattle.mw_c_forms.specs.Forms.{IsForm, form_picture, form_steps}

-- the difference of two images of one frame
less_of : (f g : Picture) → g.width ≡ f.width → g.height ≡ f.height → plane_of Minus (f ∷ g ∷ []) f.width f.height ≡ minus f g
less_of f g width height = plane_of_two f g width height

pub form_means : (s : Form) (f : Picture) → last_plane (form_steps s) f ≡ form_picture s f
form_means (form.One r) f = refl
form_means (form.InTurn r s) f = refl
form_means (form.Residue rest.Taken r s) f = less_of f (rule_picture s (rule_picture r f)) refl refl
form_means (form.Residue rest.Added r s) f = less_of (rule_picture s (rule_picture r f)) f refl refl
form_means (form.Less r s) f = less_of (rule_picture r f) (rule_picture s f) refl refl

-- what is known of the form of a plan, if it has one
pub record FormOf (plan : Plan) (r : Option Form) : Type 0 where
  pub sound : IfSome r IsForm
  pub steps : IfSome r (λ s. plan ≡ form_steps s)
  pub means : IfSome r (λ s. (f : Picture) → last_plane plan f ≡ form_picture s f)

pub form_is : (plan steps : Plan) (r : Option Form) → plan ≡ steps → IfSome r (λ s. IsForm s × (steps ≡ form_steps s)) → FormOf plan r
form_is plan steps None same some = record { sound = tt; steps = tt; means = tt }
form_is plan steps (Some s) same some = record { sound = some.0; steps = same ∙ some.1; means = λ f. ap (λ (p : Plan). last_plane p f) (same ∙ some.1) ∙ form_means s f }

-- ---- the steps of a plan

pub two_steps : (plan : Plan) (a b : Planned) → length plan ≡ 2 → a ≡ slice_index_or plan 0 nothing_planned → b ≡ slice_index_or plan 1 nothing_planned → plan ≡ a ∷ b ∷ []
two_steps [] a b count first second = absurd (omega (arith, count))
two_steps (x ∷ []) a b count first second = absurd (omega (arith, count))
two_steps (x ∷ y ∷ []) a b count first second = ap (λ (t : Planned). t ∷ y ∷ []) (sym first) ∙ ap (λ (t : Planned). a ∷ t ∷ []) (sym second)
two_steps (x ∷ y ∷ z ∷ ps) a b count first second = absurd (omega (arith, count))

pub three_steps : (plan : Plan) (a b d : Planned) → length plan ≡ 3 → a ≡ slice_index_or plan 0 nothing_planned → b ≡ slice_index_or plan 1 nothing_planned → d ≡ slice_index_or plan 2 nothing_planned → plan ≡ a ∷ b ∷ d ∷ []
three_steps [] a b d count first second third = absurd (omega (arith, count))
three_steps (x ∷ []) a b d count first second third = absurd (omega (arith, count))
three_steps (x ∷ y ∷ []) a b d count first second third = absurd (omega (arith, count))
three_steps (x ∷ y ∷ z ∷ []) a b d count first second third = ap (λ (t : Planned). t ∷ y ∷ z ∷ []) (sym first) ∙ ap (λ (t : Planned). a ∷ t ∷ z ∷ []) (sym second) ∙ ap (λ (t : Planned). a ∷ b ∷ t ∷ []) (sym third)
three_steps (x ∷ y ∷ z ∷ w ∷ ps) a b d count first second third = absurd (omega (arith, count))
