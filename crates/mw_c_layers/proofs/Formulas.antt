-- The images of layers and formulas.
use Rattle.std.proofs.Common.{◌≡◌, ℕ, ◌+◌, ◌≤◌, List, [], ◌∷◌, refl, ap, sym, subst, arith, ◌∙◌}
use Rattle.mw_model.specs.declared.limits.TheConstants.{SIDE_LIMIT}
use Rattle.mw_model.specs.declared.offsets.Rect.{Rect}
use Rattle.mw_model.specs.Flat.{minus}
use Rattle.mw_model.specs.Laws.{SameShape}
use Rattle.mw_model.specs.Pictures.{IsPicture, Picture}
use Rattle.mw_model.specs.Rectangles.{rect}
use Rattle.mw_model.proofs.ImageLaws.{minus_picture}
use Rattle.mw_tile.specs.Windows.{SourceWindow, window_of}
use Rattle.mw_c_arrays.specs.Sources.{picture_in}
use Rattle.mw_c_arrays.proofs.SourceImages.{source_image}
use Rattle.mw_c_lent.proofs.Steps.{rule_is_picture}
use Rattle.mw_c_layers.specs.Origins.{IsOrigin, origin_picture}
use Rattle.mw_c_layers.proofs.OriginImages.{between_image, origin_image}
use Rattle.mw_c_layers.specs.declared.layers.Formula.{Formula}
use Rattle.mw_c_layers.specs.declared.layers.Formula.TheVariants.{One, Less}
use Rattle.mw_c_layers.specs.declared.layers.Layer.{Layer}
use Rattle.mw_c_layers.specs.declared.layers.Layer.TheVariants.{By, Itself, Twice}
use Rattle.mw_c_lent.specs.declared.rules.Rule.{Rule}
use Rattle.mw_c_layers.specs.Layers.{IsFormula, first_origin, formula_picture, layer_picture, origin_of, rule_picture}
use Rattle.mw_c_layers.specs.Parts.{IsStrip, part_of, whole_window}

-- the sides of an image
pub record HasSides (f : Picture) : Type 0 where
  pub wide : (1 ≤ f.width) × (f.width ≤ SIDE_LIMIT)
  pub high : (1 ≤ f.height) × (f.height ≤ SIDE_LIMIT)

pub layer_sides : (l : Layer) → IsOrigin (origin_of l) → HasSides (layer_picture l)
layer_sides (Itself f) is = let image = source_image f is in record { wide = image.width; high = image.height }
layer_sides (By r f) is = let image = origin_image f is in record { wide = image.width; high = image.height }
layer_sides (Twice r s f) is = let image = source_image f is in record { wide = image.width; high = image.height }

-- a strip of what a rule makes is one of what it looks at
pub strip_below : (r : Rule) (f : Picture) (strip : Rect) → IsStrip strip (rule_picture r f) → IsStrip strip f
strip_below r f strip is = record { left = is.left; wide = is.wide; some = is.some; low = is.low }

-- a strip of a difference is one of each of its two images
pub strip_first : (a b : Picture) (strip : Rect) → IsStrip strip (minus a b) → IsStrip strip a
strip_first a b strip is = record { left = is.left; wide = is.wide; some = is.some; low = is.low }

pub strip_second : (a b : Picture) (strip : Rect) → SameShape b a → IsStrip strip a → IsStrip strip b
strip_second a b strip alike is = record { left = is.left; wide = is.wide ∙ sym alike.width; some = is.some; low = subst (λ (n : ℕ). strip.y + strip.height ≤ n) (sym alike.height) is.low }

pub parts_alike : (a b p q : Picture) (r : Rect) → SameShape b a → p ≡ part_of a r → q ≡ part_of b r → SameShape q p
parts_alike a b p q r alike first second = record {
  kind = ap (λ (f : Picture). f.kind) second ∙ alike.kind ∙ sym (ap (λ (f : Picture). f.kind) first);
  width = ap (λ (f : Picture). f.width) second ∙ sym (ap (λ (f : Picture). f.width) first);
  height = ap (λ (f : Picture). f.height) second ∙ sym (ap (λ (f : Picture). f.height) first);
  maxval = ap (λ (f : Picture). f.maxval) second ∙ alike.maxval ∙ sym (ap (λ (f : Picture). f.maxval) first);
}

pub part_sides : (a p : Picture) (r : Rect) → IsStrip r a → HasSides a → p ≡ part_of a r → HasSides p
part_sides a p r strip sides is =
    let wide : p.width ≡ r.width = ap (λ (f : Picture). f.width) is in
    let high : p.height ≡ r.height = ap (λ (f : Picture). f.height) is in
    let over = strip.wide in
    let some = strip.some in
    let low = strip.low in
    let w = sides.wide in
    let h = sides.high in
    record { wide = (omega arith, omega arith); high = (omega arith, omega arith) }

-- whole windows of two images of one frame
pub two_windows : (a b : Picture) (r : Rect) (w v : SourceWindow) (ws : List SourceWindow) → SameShape b a → r ≡ rect 0 0 a.width a.height → w ≡ whole_window a → v ≡ whole_window b → ws ≡ w ∷ v ∷ []
    → ws ≡ window_of r a ∷ window_of r b ∷ []
two_windows a b r w v ws alike whole first second is =
    is
    ∙ ap (λ (x : SourceWindow). x ∷ v ∷ []) (first ∙ ap (λ (t : Rect). window_of t a) (sym whole))
    ∙ ap (λ (x : SourceWindow). window_of r a ∷ x ∷ []) (second ∙ ap (λ (m : ℕ). window_of (rect 0 0 m b.height) b) alike.width ∙ ap (λ (n : ℕ). window_of (rect 0 0 a.width n) b) alike.height ∙ ap (λ (t : Rect). window_of t b) (sym whole))

-- ---- they are images

pub layer_is_picture : (l : Layer) → IsOrigin (origin_of l) → IsPicture (layer_picture l)
layer_is_picture (Itself f) is = (source_image f is).picture
layer_is_picture (By r f) is = rule_is_picture r (origin_picture f) (origin_image f is).picture
layer_is_picture (Twice r s f) is = rule_is_picture r (rule_picture s (picture_in f)) (between_image s f is).picture

pub formula_is_picture : (x : Formula) → IsFormula x → IsPicture (formula_picture x)
formula_is_picture (One l) is = layer_is_picture l is
formula_is_picture (Less a b) is = minus_picture (layer_picture a) (layer_picture b) (layer_is_picture a is.0)

pub formula_sides : (x : Formula) → IsFormula x → HasSides (formula_picture x)
formula_sides (One l) is = layer_sides l is
formula_sides (Less a b) is = let sides = layer_sides a is.0 in record { wide = sides.wide; high = sides.high }

layer_frame : (l : Layer) → ((layer_picture l).width ≡ (origin_picture (origin_of l)).width) × ((layer_picture l).height ≡ (origin_picture (origin_of l)).height)
layer_frame (Itself f) = (refl, refl)
layer_frame (By r f) = (refl, refl)
layer_frame (Twice r s f) = (refl, refl)

-- their frame is that of the image that is looked at first
pub formula_frame : (x : Formula) → ((formula_picture x).width ≡ (origin_picture (first_origin x)).width) × ((formula_picture x).height ≡ (origin_picture (first_origin x)).height)
formula_frame (One l) = layer_frame l
formula_frame (Less a b) = layer_frame a
