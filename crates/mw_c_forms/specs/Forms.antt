-- Plans of few steps of one image, and what strips make of them.
use Rattle.std.specs.Prelude.{◌≡◌, true, [], ◌∷◌}
use Rattle.mw_model.specs.Flat.{minus}
use Rattle.mw_model.specs.Pictures.{Picture}
use Rattle.mw_model.specs.Plans.{FromInput, FromStep, Plan}
use Rattle.mw_plan.specs.Forms.{is_slide}
use Rattle.mw_plan.specs.Steps.{less, of_image, of_step}
use Rattle.mw_c_lent.specs.declared.rules.Rule.{Rule}
use Rattle.mw_c_lent.specs.Rules.{rule_picture, step_of}
use Rattle.mw_c_forms.specs.declared.forms.Form.{Form}
use Rattle.mw_c_forms.specs.declared.forms.Form.TheVariants as form
use Rattle.mw_c_forms.specs.declared.forms.Rest.{Rest}
use Rattle.mw_c_forms.specs.declared.forms.Rest.TheVariants as rest

-- the rule is an extremum or a rank
abbrev pub IsSlide : Rule → Type 0
IsSlide r = is_slide (step_of r) ≡ true

-- the steps of a form
abbrev pub form_steps : Form → Plan
form_steps (form.One r) = of_image (step_of r) ∷ []
form_steps (form.InTurn r s) = of_image (step_of r) ∷ of_step 0 (step_of s) ∷ []
form_steps (form.Residue rest.Taken r s) = of_image (step_of r) ∷ of_step 0 (step_of s) ∷ less (FromInput 0) (FromStep 1) ∷ []
form_steps (form.Residue rest.Added r s) = of_image (step_of r) ∷ of_step 0 (step_of s) ∷ less (FromStep 1) (FromInput 0) ∷ []
form_steps (form.Less r s) = of_image (step_of r) ∷ of_image (step_of s) ∷ less (FromStep 0) (FromStep 1) ∷ []

-- the image less the other, or turned
abbrev pub rest_picture : Rest → Picture → Picture → Picture
rest_picture rest.Taken f g = minus f g
rest_picture rest.Added f g = minus g f

-- what it makes of an image
abbrev pub form_picture : Form → Picture → Picture
form_picture (form.One r) f = rule_picture r f
form_picture (form.InTurn r s) f = rule_picture s (rule_picture r f)
form_picture (form.Residue x r s) f = rest_picture x f (rule_picture s (rule_picture r f))
form_picture (form.Less r s) f = minus (rule_picture r f) (rule_picture s f)

-- its rules keep the kind and the maxval of an image, where there are two
abbrev pub IsForm : Form → Type 0
IsForm (form.One r) = Unit {0}
IsForm (form.InTurn r s) = IsSlide r × IsSlide s
IsForm (form.Residue x r s) = IsSlide r × IsSlide s
IsForm (form.Less r s) = IsSlide r × IsSlide s
