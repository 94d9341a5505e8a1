-- What rules make of an image: at each place, and as an image.
use Rattle.std.proofs.Common.{◌≡◌, ℕ, ◌<◌, List, [], ◌∷◌, ap, sym, subst, ◌∙◌, cond, nat_le}
use Rattle.std.specs.Arc.{arc_value}
use Rattle.mw_model.specs.declared.offsets.Offset.{Offset}
use Rattle.mw_model.specs.declared.offsets.Rect.{Rect}
use Rattle.mw_model.specs.declared.shapes.Kind.TheVariants as kind
use Rattle.mw_model.specs.Flat.{greatest, least, under}
use Rattle.mw_model.specs.Pictures.{IsPicture, Picture, sample}
use Rattle.mw_model.specs.PlanSteps.{Dilate, DilateBox, Erode, ErodeBox, PlanStep, Rank, kind_of_step, maxval_of_step, ranked, step_at}
use Rattle.mw_model.specs.Plans.{plane_of, sight_of}
use Rattle.mw_model.specs.Rectangles.{box_offsets}
use Rattle.mw_model.specs.declared.offsets.OffsetBox.{OffsetBox}
use Rattle.mw_model.proofs.ImageLaws.{dilation_picture, erosion_picture, rank_picture, threshold_picture}
use Rattle.mw_model.proofs.ImagePlaces.{sample-drawn}
use Rattle.mw_step_task.proofs.Cut.{plane_of_one}
use Rattle.mw_c_lent.specs.declared.rules.Rule.{Rule}
use Rattle.mw_c_lent.specs.declared.rules.Rule.TheVariants as rules
use Rattle.mw_c_lent.specs.Rows.{IsStrip}
use Rattle.mw_c_lent.specs.Rules.{rule_picture}

pub step_there : (s : PlanStep) (f : Picture) (x y : ℕ) → x < f.width → y < f.height
    → sample (plane_of s (f ∷ []) f.width f.height) x y ≡ step_at s f.maxval (sight_of (f ∷ []) 0) (sight_of (f ∷ []) 1) (sight_of (f ∷ []) 2) x y
step_there s f x y across down =
    sample-drawn (kind_of_step s f.kind) f.width f.height (maxval_of_step s f.maxval) (λ u v. step_at s f.maxval (sight_of (f ∷ []) 0) (sight_of (f ∷ []) 1) (sight_of (f ∷ []) 2) u v) x y across down

pub least_there : (e es : List Offset) (f : Picture) (x y n : ℕ) → x < f.width → y < f.height → es ≡ e → n ≡ least f.maxval (under f es x y) → n ≡ sample (plane_of (Erode e) (f ∷ []) f.width f.height) x y
least_there e es f x y n across down same is = is ∙ ap (λ (t : List Offset). least f.maxval (under f t x y)) same ∙ sym (step_there (Erode e) f x y across down)

pub greatest_there : (e es : List Offset) (f : Picture) (x y n : ℕ) → x < f.width → y < f.height → es ≡ e → n ≡ greatest (under f es x y) → n ≡ sample (plane_of (Dilate e) (f ∷ []) f.width f.height) x y
greatest_there e es f x y n across down same is = is ∙ ap (λ (t : List Offset). greatest (under f t x y)) same ∙ sym (step_there (Dilate e) f x y across down)

pub least_box_there : (b : OffsetBox) (f : Picture) (x y n : ℕ) → x < f.width → y < f.height → n ≡ least f.maxval (under f (box_offsets b) x y) → n ≡ sample (plane_of (ErodeBox b) (f ∷ []) f.width f.height) x y
least_box_there b f x y n across down is = is ∙ sym (step_there (ErodeBox b) f x y across down)

pub greatest_box_there : (b : OffsetBox) (f : Picture) (x y n : ℕ) → x < f.width → y < f.height → n ≡ greatest (under f (box_offsets b) x y) → n ≡ sample (plane_of (DilateBox b) (f ∷ []) f.width f.height) x y
greatest_box_there b f x y n across down is = is ∙ sym (step_there (DilateBox b) f x y across down)

pub ranked_there : (e es : List Offset) (k : ℕ) (f : Picture) (x y n : ℕ) → x < f.width → y < f.height → es ≡ e → n ≡ ranked k (under f es x y) → n ≡ sample (plane_of (Rank e k) (f ∷ []) f.width f.height) x y
ranked_there e es k f x y n across down same is = is ∙ ap (λ (t : List Offset). ranked k (under f t x y)) same ∙ sym (step_there (Rank e k) f x y across down)

-- a strip of an image is one of what a rule makes of it
pub strip_above : (r : Rule) (f : Picture) (strip : Rect) → IsStrip strip f → IsStrip strip (rule_picture r f)
strip_above r f strip is = record { left = is.left; wide = is.wide; some = is.some; low = is.low }

pub rule_is_picture : (r : Rule) (f : Picture) → IsPicture f → IsPicture (rule_picture r f)
rule_is_picture (rules.Least e) f is = erosion_picture (arc_value e.now).offsets f
rule_is_picture (rules.Greatest e) f is = dilation_picture (arc_value e.now).offsets f is
rule_is_picture (rules.LeastBox b) f is = erosion_picture (box_offsets b) f
rule_is_picture (rules.GreatestBox b) f is = dilation_picture (box_offsets b) f is
rule_is_picture (rules.Nth e k) f is = rank_picture (arc_value e.now).offsets k f is
rule_is_picture (rules.AtLeast k) f is = subst (λ (g : Picture). IsPicture g) (sym (plane_of_one kind.Bit 1 (λ n. cond (nat_le k n) 1 0) f)) (threshold_picture k f)
