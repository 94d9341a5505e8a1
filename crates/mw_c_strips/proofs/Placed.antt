-- Rows of strips that kernels write where they are to stand.
use Rattle.std.proofs.Common.{◌≡◌, ℕ, ◌+◌, ◌*◌, List, map, length, ap, sym, subst, ◌∙◌}
use Rattle.mw_model.specs.declared.offsets.Rect.{Rect}
use Rattle.mw_model.specs.Pictures.{Picture, sample}
use Rattle.mw_model.specs.Tasks.{cells_in}
use Rattle.mw_c_arrays.specs.declared.sources.ArrayImage.{ArrayImage}
use Rattle.mw_c_arrays.specs.Sources.{IsArrayImage, picture_in}
use Rattle.mw_c_arrays.proofs.SourceImages.{source_image}
use Rattle.mw_c_lent.specs.declared.in_place.Middle.{Middle}
use Rattle.mw_c_lent.specs.declared.rules.Rule.{Rule}
use Rattle.mw_c_lent.specs.Rows.{EndAt, IsStrip, rows_from}
use Rattle.mw_c_lent.specs.Rules.{rule_picture}
use Rattle.mw_c_lent.proofs.Rows.{rows_end, strip_rows}
use Rattle.mw_c_lent.proofs.Steps.{rule_is_picture, strip_above}

-- the rows of a strip of an array
pub middle_end : (m : Middle) (f : ArrayImage) (r : Rect) (n : ℕ) → m.f ≡ f → m.from ≡ r.y → m.to ≡ r.y + r.height → IsStrip r (picture_in f) → n ≡ r.height * r.width → EndAt m.from m.to n (picture_in m.f)
middle_end m f r n image from to strip count = rw (image, from, to) (rows_end r (picture_in f) n strip count)

-- rows of an image that are those of a strip
cells_of_rows : {A : Type 0} (level : A → ℕ) (cells : List A) (g h : Picture) (r : Rect) (from n : ℕ) → map level cells ≡ rows_from from n g → g ≡ h → from ≡ r.y → IsStrip r h → length h.samples ≡ h.height * h.width → n ≡ r.height * r.width
    → map level cells ≡ cells_in r (sample h)
cells_of_rows level cells g h r from n is same top strip size count =
    is ∙ ap (λ (t : Picture). rows_from from n t) same ∙ ap (λ (y : ℕ). rows_from y n h) top ∙ sym (strip_rows h r n strip size count)

-- what a rule makes in a strip
pub middle_made : {A : Type 0} (level : A → ℕ) (cells : List A) (m : Middle) (rule : Rule) (f : ArrayImage) (r : Rect) (n : ℕ) → m.rule ≡ rule → m.f ≡ f → m.from ≡ r.y → IsArrayImage f → IsStrip r (picture_in f)
    → n ≡ r.height * r.width → map level cells ≡ rows_from m.from n (rule_picture m.rule (picture_in m.f)) → map level cells ≡ cells_in r (sample (rule_picture rule (picture_in f)))
middle_made level cells m rule f r n rule-is image from sound strip count is =
    cells_of_rows level cells (rule_picture m.rule (picture_in m.f)) (rule_picture rule (picture_in f)) r m.from n is
    (ap (λ (t : Rule). rule_picture t (picture_in m.f)) rule-is ∙ ap (λ (t : ArrayImage). rule_picture rule (picture_in t)) image) from
    (strip_above rule (picture_in f) r strip) (rule_is_picture rule (picture_in f) (source_image f sound).picture).size count
