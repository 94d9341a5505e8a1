-- Rows of images: the samples of a strip, and cells that begin with those of an image.
use Rattle.std.proofs.Common.{◌≡◌, ℕ, zero, suc, [], ◌∷◌, ◌+◌, ◌-◌, ◌*◌, List, map, length, take, drop, refl, ap, ◌∙◌}
use Rattle.std.specs.Prelude.{slice_range, All, nat_le, if◌then◌else◌}
use Rattle.std.proofs.lemmas.List.{length-map}
use Rattle.std.proofs.lemmas.List.Elements.{All-drop, All-take}
use Rattle.mw_model.specs.declared.offsets.Rect.{Rect}
use Rattle.mw_model.specs.declared.shapes.Kind.TheVariants as kind
use Rattle.mw_model.specs.Pictures.{Picture, picture, sample}
use Rattle.mw_c_arrays.specs.Arrays.{set_in_bytes}
use Rattle.mw_tile_pieces.proofs.TileCells.{length-cells_in}
use Rattle.mw_c_lent.proofs.Rows.{rows_are}
use Rattle.mw_c_layers.specs.Parts.{IsStrip, part_of}

map-take : {A B : Type 0} (g : A → B) (n : ℕ) (xs : List A) → map g (take n xs) ≡ take n (map g xs)
map-take g zero xs = refl
map-take g (suc n) [] = refl
map-take g (suc n) (x ∷ xs) = ap (λ (ys : List _). g x ∷ ys) (map-take g n xs)

map-drop : {A B : Type 0} (g : A → B) (n : ℕ) (xs : List A) → map g (drop n xs) ≡ drop n (map g xs)
map-drop g zero xs = refl
map-drop g (suc n) [] = refl
map-drop g (suc n) (x ∷ xs) = map-drop g n xs

map-range : {A B : Type 0} (g : A → B) (xs : List A) (a n : ℕ) → map g (slice_range xs a (a + n)) ≡ slice_range (map g xs) a (a + n)
map-range g xs a n = map-take g (a + n - a) (drop a xs) ∙ ap (λ (ys : List _). take (a + n - a) ys) (map-drop g a xs)

-- the rows of an image in levels of grey are its part
pub grey_rows : (f : Picture) (r : Rect) (cells : List ℕ) → IsStrip r f → length f.samples ≡ f.height * f.width → cells ≡ slice_range f.samples (r.y * r.width) (r.y * r.width + r.height * r.width)
    → picture f.kind r.width r.height f.maxval cells ≡ part_of f r
grey_rows f r cells strip size is = ap (λ (ns : List ℕ). picture f.kind r.width r.height f.maxval ns) (is ∙ rows_are f r strip size)

-- and those of the set of some bytes
pub set_rows : (w h : ℕ) (bytes cells : List ℕ) (r : Rect) → IsStrip r (set_in_bytes w h bytes) → length bytes ≡ h * w → cells ≡ slice_range bytes (r.y * r.width) (r.y * r.width + r.height * r.width)
    → set_in_bytes r.width r.height cells ≡ part_of (set_in_bytes w h bytes) r
set_rows w h bytes cells r strip size is =
    let one : ℕ → ℕ = λ s. if nat_le 1 s then 1 else 0 in
    ap (λ (ns : List ℕ). set_in_bytes r.width r.height ns) is
    ∙ ap (λ (ns : List ℕ). picture kind.Bit r.width r.height 1 ns) (map-range one bytes (r.y * r.width) (r.height * r.width) ∙ rows_are (set_in_bytes w h bytes) r strip (length-map bytes one ∙ size))

-- what holds of all samples holds of those of a strip
pub all_range : (P : ℕ → Type 0) (xs : List ℕ) (a b : ℕ) → All P xs → All P (slice_range xs a b)
all_range P xs a b all = All-take P (b - a) (drop a xs) (All-drop P a xs all)

-- what is made of a strip has a sample for each of its places, and the levels of the image
pub part_size : (f g : Picture) (r : Rect) → g ≡ part_of f r → length g.samples ≡ r.height * r.width
part_size f g r is = ap (λ (h : Picture). length h.samples) is ∙ length-cells_in r (sample f)

pub part_top : (f g : Picture) (r : Rect) → g ≡ part_of f r → g.maxval ≡ f.maxval
part_top f g r is = ap (λ (h : Picture). h.maxval) is
