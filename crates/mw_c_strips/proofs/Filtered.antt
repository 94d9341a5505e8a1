-- What extrema and ranks make of images, in turn and less one another.
use Rattle.std.proofs.Common.{◌≡◌, ℕ, ◌*◌, List, refl, ap, sym, subst, ◌∙◌}
use Rattle.mw_model.specs.Laws.{SameShape}
use Rattle.mw_model.specs.Pictures.{IsImage, Picture}
use Rattle.mw_c_arrays.specs.declared.sources.ArrayImage.{ArrayImage}
use Rattle.mw_c_arrays.specs.Sources.{IsArrayImage, array_sample_count, picture_in}
use Rattle.mw_c_arrays.proofs.SourceImages.{source_image, source_samples}
use Rattle.mw_c_lent.specs.declared.rules.Rule.{Rule}
use Rattle.mw_c_lent.specs.declared.rules.Rule.TheVariants as rules
use Rattle.mw_c_lent.specs.declared.composites.Composite.{Composite}
use Rattle.mw_c_lent.specs.declared.composites.Composite.TheVariants as composites
use Rattle.mw_c_lent.specs.Composites.{composite_picture}
use Rattle.mw_c_forms.specs.Forms.{IsSlide}
use Rattle.mw_c_layers.specs.Layers.{rule_picture}
use Rattle.mw_c_strips.specs.Refilled.{refilled}
use Rattle.mw_c_strips.specs.Rows.{EndAt}
use Rattle.mw_c_layers.proofs.OriginImages.{rule_image}

-- so many samples fill the sides
pub fills : (f : ArrayImage) → IsArrayImage f → array_sample_count f ≡ (picture_in f).height * (picture_in f).width
fills f is = sym (source_samples f) ∙ (source_image f is).picture.size

-- they keep the kind and the maxval
pub rule_shape : (r : Rule) (f : Picture) → IsSlide r → SameShape (rule_picture r f) f
rule_shape (rules.Least e) f is = record { kind = refl; width = refl; height = refl; maxval = refl }
rule_shape (rules.Greatest e) f is = record { kind = refl; width = refl; height = refl; maxval = refl }
rule_shape (rules.LeastBox b) f is = record { kind = refl; width = refl; height = refl; maxval = refl }
rule_shape (rules.GreatestBox b) f is = record { kind = refl; width = refl; height = refl; maxval = refl }
rule_shape (rules.Nth e k) f is = record { kind = refl; width = refl; height = refl; maxval = refl }
rule_shape (rules.AtLeast k) f is = absurd cc

pub in_turn_shape : (r s : Rule) (f g : Picture) → IsSlide r → IsSlide s → g ≡ rule_picture r f → SameShape (rule_picture s g) f
in_turn_shape r s f g first second is =
    let a = rule_shape r f first in
    let b = rule_shape s g second in
    record {
      kind = b.kind ∙ ap (λ (p : Picture). p.kind) is ∙ a.kind;
      width = b.width ∙ ap (λ (p : Picture). p.width) is ∙ a.width;
      height = b.height ∙ ap (λ (p : Picture). p.height) is ∙ a.height;
      maxval = b.maxval ∙ ap (λ (p : Picture). p.maxval) is ∙ a.maxval;
    }

pub less_alike : (r s : Rule) (f : Picture) → IsSlide r → IsSlide s → SameShape (rule_picture s f) (rule_picture r f)
less_alike r s f first second =
    let a = rule_shape r f first in
    let b = rule_shape s f second in
    record { kind = b.kind ∙ sym a.kind; width = b.width ∙ sym a.width; height = b.height ∙ sym a.height; maxval = b.maxval ∙ sym a.maxval }

-- so many rows of what two rules make are as many of the image
pub composite_ends : (x : Composite) (f : Picture) (first end count : ℕ) → EndAt first end count (composite_picture x f) → EndAt first end count f
composite_ends (composites.InTurn a b) f first end count is = record { some = is.some; within = is.within; samples = is.samples }
composite_ends (composites.Taken a b) f first end count is = record { some = is.some; within = is.within; samples = is.samples }
composite_ends (composites.Added a b) f first end count is = record { some = is.some; within = is.within; samples = is.samples }
composite_ends (composites.Less a b) f first end count is = record { some = is.some; within = is.within; samples = is.samples }

-- ---- planes between two steps

-- the image filled again with the samples of what a rule makes of it is that
refilled_whole : (r : Rule) (f : Picture) → IsSlide r → refilled f (rule_picture r f).samples ≡ rule_picture r f
refilled_whole (rules.Least e) f is = refl
refilled_whole (rules.Greatest e) f is = refl
refilled_whole (rules.LeastBox b) f is = refl
refilled_whole (rules.GreatestBox b) f is = refl
refilled_whole (rules.Nth e k) f is = refl
refilled_whole (rules.AtLeast k) f is = absurd cc

pub refilled_is : (r : Rule) (f : Picture) (samples : List ℕ) → IsSlide r → samples ≡ (rule_picture r f).samples → refilled f samples ≡ rule_picture r f
refilled_is r f samples is same = ap (refilled f) same ∙ refilled_whole r f is

-- and it is an image within the limits
pub refilled_image : (r : Rule) (f : Picture) (samples : List ℕ) → IsSlide r → IsImage f → samples ≡ (rule_picture r f).samples → IsImage (refilled f samples)
refilled_image r f samples is image same = subst IsImage (sym (refilled_is r f samples is same)) (rule_image r f image)

pub same_count : (f g : ArrayImage) (samples : List ℕ) → IsArrayImage f → IsArrayImage g → picture_in g ≡ refilled (picture_in f) samples → array_sample_count f ≡ array_sample_count g
same_count f g samples first second is =
    fills f first ∙ sym (fills g second ∙ ap (λ (h : Picture). h.height * h.width) is)
