-- What makes a bitmap an element, and that bytes are the element of their bitmap.
use Rattle.std.proofs.Common.{◌≡◌, ℕ, Bool, true, false, List, [], ◌∷◌, length, refl, ap, sym, subst, arith, ◌∙◌}
use Rattle.std.specs.Prelude.{◌↔◌, IsTrue}
use Rattle.mw_model.specs.declared.codes.Code.{Code}
use Rattle.mw_model.specs.declared.codes.Code.TheVariants as code
use Rattle.mw_model.specs.declared.offsets.Offset.{Offset}
use Rattle.mw_model.specs.Rasters.{Raster}
use Rattle.mw_model.specs.Bitmaps.{IsBitmap, SidesFit}
use Rattle.mw_model.specs.Elements.{Figure, IsElement, ElementRefuses, HoldsPlace, element_side, figure_of, offsets_of, no_bitmap, no_origin, no_pixel}
use Rattle.mw_element.specs.BitmapElements.{IsElementOf, IsNoElement, bad_sides, bad_origin, no_ones}
use Rattle.mw_element.specs.Figures.{figure}
use Rattle.mw_element.proofs.Exclusive.{bitmap_clash, same_bitmap}
use Rattle.mw_element.proofs.Found.{bitmap_sides}

-- ---- what a bitmap is

-- a bitmap within the limit, with its origin inside and a pixel that is 1
pub element_of : (f : Raster ℕ) (ox oy n : ℕ) → SidesFit element_side f.width f.height → HoldsPlace f ox oy → length (offsets_of f ox oy) ≡ n → (n ≡ 0 → ⊥) → IsElementOf f ox oy (figure_of f ox oy)
element_of f ox oy n sides place count some = record { sides = sides; origin = place; some = λ none. some (sym count ∙ ap length none); shows = refl }

pub nothing_in : (f : Raster ℕ) (ox oy : ℕ) → length (offsets_of f ox oy) ≡ 0 → offsets_of f ox oy ≡ []
nothing_in f ox oy none = go (offsets_of f ox oy) none
  where
    go : (xs : List Offset) → length xs ≡ 0 → xs ≡ []
    go [] e = refl
    go (x ∷ xs) e = absurd (omega arith)

-- what is made of the sides and the offsets
pub figure_made : (f : Raster ℕ) (ox oy w h : ℕ) (found : List Offset) → w ≡ f.width → h ≡ f.height → found ≡ offsets_of f ox oy → figure w h found ≡ figure_of f ox oy
figure_made f ox oy w h found wide high is = rw (wide, high, is) refl

-- what the tests of the sides and of the origin tell where they fail
pub not_fitting : (f : Raster ℕ) (ox oy : ℕ) (b : Bool) → IsTrue b ↔ SidesFit element_side f.width f.height → b ≡ false → IsNoElement f ox oy code.Size
not_fitting f ox oy b is fails = bad_sides (λ fits. let holds : b ≡ true = is.1 fits in cc)

pub not_placed : (f : Raster ℕ) (ox oy : ℕ) (b : Bool) → SidesFit element_side f.width f.height → IsTrue b ↔ HoldsPlace f ox oy → b ≡ false → IsNoElement f ox oy code.Origin
not_placed f ox oy b fits is fails = bad_origin fits (λ place. let holds : b ≡ true = is.1 place in cc)

-- ---- bytes that are a bitmap

bitmap_fits : (bytes : List ℕ) (f : Raster ℕ) → IsBitmap bytes element_side f → SidesFit element_side f.width f.height
bitmap_fits bytes f is =
    let s = bitmap_sides bytes element_side f is in
    record { some_column = s.0; some_row = s.1; narrow = s.2; low = s.3 }

pub element_to_bitmap : (bytes : List ℕ) (f : Raster ℕ) (ox oy : ℕ) (figure : Figure) → IsBitmap bytes element_side f → IsElement bytes ox oy figure → IsElementOf f ox oy figure
element_to_bitmap bytes f ox oy figure is e =
    subst (λ (g : Raster ℕ). IsElementOf g ox oy figure) (same_bitmap bytes e.bitmap f e.is_bitmap is) (record { sides = bitmap_fits bytes e.bitmap e.is_bitmap; origin = e.origin; some = e.some; shows = e.shows })

pub element_from_bitmap : (bytes : List ℕ) (f : Raster ℕ) (ox oy : ℕ) (figure : Figure) → IsBitmap bytes element_side f → IsElementOf f ox oy figure → IsElement bytes ox oy figure
element_from_bitmap bytes f ox oy figure is e = record { bitmap = f; is_bitmap = is; origin = e.origin; some = e.some; shows = e.shows }

pub refusal_to_bitmap : (bytes : List ℕ) (f : Raster ℕ) (ox oy : ℕ) (c : Code) → IsBitmap bytes element_side f → ElementRefuses bytes ox oy c → IsNoElement f ox oy c
refusal_to_bitmap bytes f ox oy c is (no_bitmap d r) = absurd (bitmap_clash bytes c f r is)
refusal_to_bitmap bytes f ox oy c is (no_origin g a out) = bad_origin (bitmap_fits bytes f is) (λ place. out (subst (λ (k : Raster ℕ). HoldsPlace k ox oy) (same_bitmap bytes f g is a) place))
refusal_to_bitmap bytes f ox oy c is (no_pixel g a place none) =
    let same = same_bitmap bytes g f a is in
    no_ones (bitmap_fits bytes f is) (subst (λ (k : Raster ℕ). HoldsPlace k ox oy) same place) (subst (λ (k : Raster ℕ). offsets_of k ox oy ≡ []) same none)

pub refusal_from_bitmap : (bytes : List ℕ) (f : Raster ℕ) (ox oy : ℕ) (c : Code) → IsBitmap bytes element_side f → IsNoElement f ox oy c → ElementRefuses bytes ox oy c
refusal_from_bitmap bytes f ox oy c is (bad_sides bad) = absurd (bad (bitmap_fits bytes f is))
refusal_from_bitmap bytes f ox oy c is (bad_origin fit out) = no_origin f is out
refusal_from_bitmap bytes f ox oy c is (no_ones fit place none) = no_pixel f is place none
