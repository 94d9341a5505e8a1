-- Bytes are one element, or have one refusal.
use Rattle.std.proofs.Common.{◌≡◌, ℕ, ◌<◌, List, refl, sym, ap, subst, ◌∙◌, arith}
use Rattle.mw_model.specs.declared.codes.Code.{Code}
use Rattle.mw_model.specs.Rasters.{Raster}
use Rattle.mw_model.specs.Bitmaps.{IsBitmap, BitmapRefuses}
use Rattle.mw_model.specs.Elements.{Figure, IsFigure, IsElement, ElementRefuses, HoldsPlace, element_side, figure_of, offsets_of, no_bitmap, no_origin, no_pixel}
use Rattle.mw_netpbm_plain.proofs.Bitmaps.{one_bitmap, one_bitmap_refusal, refusal_or_bitmap}
use Rattle.mw_element.proofs.Found.{element_figure}

element_side-small : element_side < 4294967296
element_side-small = omega arith

pub same_bitmap : (bytes : List ℕ) (f g : Raster ℕ) → IsBitmap bytes element_side f → IsBitmap bytes element_side g → f ≡ g
same_bitmap bytes f g a b = one_bitmap bytes element_side f g element_side-small a b

pub one_element : (bytes : List ℕ) (ox oy : ℕ) (first second : Figure) → IsElement bytes ox oy first → IsElement bytes ox oy second → first ≡ second
one_element bytes ox oy first second a b =
    a.shows ∙ ap (λ (f : Raster ℕ). figure_of f ox oy) (same_bitmap bytes a.bitmap b.bitmap a.is_bitmap b.is_bitmap) ∙ sym b.shows

-- a bitmap has no refusal of its bytes
pub bitmap_clash : (bytes : List ℕ) (c : Code) (f : Raster ℕ) → BitmapRefuses bytes element_side c → IsBitmap bytes element_side f → ⊥
bitmap_clash bytes c f r is = refusal_or_bitmap bytes element_side c f element_side-small r is

moved_place : (bytes : List ℕ) (ox oy : ℕ) (f g : Raster ℕ) → IsBitmap bytes element_side f → IsBitmap bytes element_side g → HoldsPlace f ox oy → HoldsPlace g ox oy
moved_place bytes ox oy f g a b h = subst (λ (k : Raster ℕ). HoldsPlace k ox oy) (same_bitmap bytes f g a b) h

pub refusal_or_element : (bytes : List ℕ) (ox oy : ℕ) (c : Code) (figure : Figure) → ElementRefuses bytes ox oy c → IsElement bytes ox oy figure → ⊥
refusal_or_element bytes ox oy c figure (no_bitmap d r) is = bitmap_clash bytes c is.bitmap r is.is_bitmap
refusal_or_element bytes ox oy c figure (no_origin f a out) is = out (moved_place bytes ox oy is.bitmap f is.is_bitmap a is.origin)
refusal_or_element bytes ox oy c figure (no_pixel f a place none) is = is.some (ap (λ (k : Raster ℕ). offsets_of k ox oy) (same_bitmap bytes is.bitmap f is.is_bitmap a) ∙ none)

pub one_refusal : (bytes : List ℕ) (ox oy : ℕ) (c d : Code) → ElementRefuses bytes ox oy c → ElementRefuses bytes ox oy d → c ≡ d
one_refusal bytes ox oy c d (no_bitmap c' r) (no_bitmap d' s) = one_bitmap_refusal bytes element_side c d element_side-small r s
one_refusal bytes ox oy c d (no_bitmap c' r) (no_origin g b out) = absurd (bitmap_clash bytes c g r b)
one_refusal bytes ox oy c d (no_bitmap c' r) (no_pixel g b place none) = absurd (bitmap_clash bytes c g r b)
one_refusal bytes ox oy c d (no_origin f a out) (no_bitmap d' s) = absurd (bitmap_clash bytes d f s a)
one_refusal bytes ox oy c d (no_origin f a out) (no_origin g b out') = refl
one_refusal bytes ox oy c d (no_origin f a out) (no_pixel g b place none) = absurd (out (moved_place bytes ox oy g f b a place))
one_refusal bytes ox oy c d (no_pixel f a place none) (no_bitmap d' s) = absurd (bitmap_clash bytes d f s a)
one_refusal bytes ox oy c d (no_pixel f a place none) (no_origin g b out) = absurd (out (moved_place bytes ox oy f g a b place))
one_refusal bytes ox oy c d (no_pixel f a place none) (no_pixel g b place' none') = refl

pub is_figure : (bytes : List ℕ) (ox oy : ℕ) (figure : Figure) → IsElement bytes ox oy figure → IsFigure figure
is_figure bytes ox oy figure is = subst IsFigure (sym is.shows) (element_figure bytes is.bitmap ox oy is.is_bitmap is.origin.column is.origin.row is.some)
