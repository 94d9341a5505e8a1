-- What the bytes of an element are, and why bytes are none.
use Rattle.std.proofs.Common.{◌≡◌, ℕ, ◌*◌, ◌<◌, ◌≤◌, List, [], length, Result, Ok, Err, refl, sym, ap, subst, ◌∙◌, arith, inl, inr, ◌⊎◌}
use Rattle.std.specs.Prelude.{count_by, ◌==◌, ◌≢◌}
use Rattle.mw_model.specs.declared.codes.Code.TheVariants as code
use Rattle.mw_model.specs.declared.offsets.Offset.{Offset}
use Rattle.mw_model.specs.Rasters.{Raster}
use Rattle.mw_model.specs.Bitmaps.{IsBitmap, SidesFit}
use Rattle.mw_model.specs.Elements.{Figure, IsFigure, IsElement, ElementRefuses, HoldsPlace, element_side, figure_of, offsets_of, no_origin, no_pixel}
use Rattle.mw_netpbm_plain.specs.declared.bitmap.BitmapFacts.{BitmapFacts}
use Rattle.mw_netpbm_plain.specs.declared.fault.BitmapFault.{BitmapFault}
use Rattle.mw_netpbm_plain.specs.Faults.{facts_of}
use Rattle.mw_element.specs.Figures.{figure}
use Rattle.mw_element.proofs.Rows.{offsets_distinct, offsets_near, no_offsets, no_pixels}

-- as many cells as places
pub bitmap_size : (bytes : List ℕ) (side : ℕ) (f : Raster ℕ) → IsBitmap bytes side f → length f.cells ≡ f.height * f.width
bitmap_size bytes side f is =
    is.is_raster.count ∙ sym (ap (λ (g : Raster ℕ). g.height * g.width) is.shows)

pub bitmap_sides : (bytes : List ℕ) (side : ℕ) (f : Raster ℕ) → IsBitmap bytes side f → (0 < f.width) × (0 < f.height) × (f.width ≤ side) × (f.height ≤ side)
bitmap_sides bytes side f is =
    let w : f.width ≡ is.header.width = ap (λ (g : Raster ℕ). g.width) is.shows in
    let h : f.height ≡ is.header.height = ap (λ (g : Raster ℕ). g.height) is.shows in
    let s = is.sides_fit in
    (omega (arith, w, s.some_column), omega (arith, h, s.some_row), omega (arith, w, s.narrow), omega (arith, h, s.low))

pub some_offsets : (bytes : List ℕ) (side : ℕ) (f : Raster ℕ) (ox oy : ℕ) → IsBitmap bytes side f → (count_by (λ s. s == 1) f.cells ≡ 0 → ⊥) → offsets_of f ox oy ≢ []
some_offsets bytes side f ox oy is some e = some (no_pixels f ox oy (bitmap_size bytes side f is) (bitmap_sides bytes side f is).0 e)

-- the offsets of a bitmap that is within the limit are an element's
pub offsets_figure : (f : Raster ℕ) (ox oy : ℕ) → SidesFit element_side f.width f.height → HoldsPlace f ox oy → offsets_of f ox oy ≢ [] → IsFigure (figure_of f ox oy)
offsets_figure f ox oy sides place some = record {
  distinct = offsets_distinct f ox oy;
  some = some;
  near = offsets_near f ox oy place.column place.row sides.narrow sides.low;
  sides = sides;
}

pub element_figure : (bytes : List ℕ) (f : Raster ℕ) (ox oy : ℕ) → IsBitmap bytes element_side f → ox < f.width → oy < f.height → offsets_of f ox oy ≢ [] → IsFigure (figure f.width f.height (offsets_of f ox oy))
element_figure bytes f ox oy is column row some =
    let s = bitmap_sides bytes element_side f is in
    offsets_figure f ox oy (record { some_column = s.0; some_row = s.1; narrow = s.2; low = s.3 }) (record { column = column; row = row }) some

pub found_element : (bytes : List ℕ) (f : Raster ℕ) (ox oy : ℕ) → IsBitmap bytes element_side f → ox < f.width → oy < f.height → offsets_of f ox oy ≢ [] → IsElement bytes ox oy (figure_of f ox oy)
found_element bytes f ox oy is column row some = record { bitmap = f; is_bitmap = is; origin = record { column = column; row = row }; some = some; shows = refl }

pub empty_refused : (bytes : List ℕ) (f : Raster ℕ) (ox oy : ℕ) → IsBitmap bytes element_side f → ox < f.width → oy < f.height → count_by (λ s. s == 1) f.cells ≡ 0 → ElementRefuses bytes ox oy code.Empty
empty_refused bytes f ox oy is column row none = no_pixel f is (record { column = column; row = row }) (no_offsets f ox oy (bitmap_size bytes element_side f is) none)

-- ---- what the reader answers

abbrev pub facts_err : BitmapFault → Result BitmapFacts BitmapFault
facts_err e = Err e

abbrev pub facts_ok : BitmapFacts → Result BitmapFacts BitmapFault
facts_ok x = Ok x

pub facts_same : (x y : BitmapFacts) → facts_ok x ≡ facts_ok y → x ≡ y
facts_same x y e = cc

-- bytes that are no bitmap are no element
pub no_element : (bytes : List ℕ) (ox oy : ℕ) (fault : BitmapFault) (figure : Figure) → ((f : Raster ℕ) → IsBitmap bytes element_side f → facts_err fault ≡ facts_ok (facts_of f)) → IsElement bytes ox oy figure → ⊥
no_element bytes ox oy fault figure only is = let clash : facts_err fault ≡ facts_ok (facts_of is.bitmap) = only is.bitmap is.is_bitmap in cc

HoldsPlace-outside : (f : Raster ℕ) (ox oy : ℕ) → (f.width ≤ ox) ⊎ ((ox < f.width) × (f.height ≤ oy)) → HoldsPlace f ox oy → ⊥
HoldsPlace-outside f ox oy (inl le) h = absurd (omega (arith, le, h.column))
HoldsPlace-outside f ox oy (inr (lt, le)) h = absurd (omega (arith, le, h.row))

-- the origin of an element lies in its bitmap
pub no_place : (bytes : List ℕ) (ox oy : ℕ) (facts : BitmapFacts) (figure : Figure) → ((f : Raster ℕ) → IsBitmap bytes element_side f → facts_ok facts ≡ facts_ok (facts_of f))
    → (facts.width ≤ ox) ⊎ ((ox < facts.width) × (facts.height ≤ oy)) → IsElement bytes ox oy figure → ⊥
no_place bytes ox oy facts figure only out is =
    let same = facts_same facts (facts_of is.bitmap) (only is.bitmap is.is_bitmap) in
    HoldsPlace-outside is.bitmap ox oy (subst (λ (x : BitmapFacts). (x.width ≤ ox) ⊎ ((ox < x.width) × (x.height ≤ oy))) same out) is.origin

pub origin_refused : (bytes : List ℕ) (ox oy : ℕ) (facts : BitmapFacts) (f : Raster ℕ) → IsBitmap bytes element_side f → facts ≡ facts_of f
    → (facts.width ≤ ox) ⊎ ((ox < facts.width) × (facts.height ≤ oy)) → ElementRefuses bytes ox oy code.Origin
origin_refused bytes ox oy facts f is same out =
    no_origin f is (HoldsPlace-outside f ox oy (subst (λ (x : BitmapFacts). (x.width ≤ ox) ⊎ ((ox < x.width) × (x.height ≤ oy))) same out))

pub IsElement-no_ones : (bytes : List ℕ) (ox oy : ℕ) (facts : BitmapFacts) (figure : Figure) → ((f : Raster ℕ) → IsBitmap bytes element_side f → facts_ok facts ≡ facts_ok (facts_of f))
    → facts.ones ≡ 0 → IsElement bytes ox oy figure → ⊥
IsElement-no_ones bytes ox oy facts figure only none is =
    let same = facts_same facts (facts_of is.bitmap) (only is.bitmap is.is_bitmap) in
    is.some (no_offsets is.bitmap ox oy (bitmap_size bytes element_side is.bitmap is.is_bitmap) (sym (ap (λ (x : BitmapFacts). x.ones) same) ∙ none))

-- a bitmap with these facts that tell of an element
pub record Told (bytes : List ℕ) (ox oy : ℕ) (f : Raster ℕ) : Type 0 where
  pub is_bitmap : IsBitmap bytes element_side f
  pub column : ox < f.width
  pub row : oy < f.height
  pub some : offsets_of f ox oy ≢ []

pub Told-figure : (bytes : List ℕ) (ox oy : ℕ) (facts : BitmapFacts) (f : Raster ℕ) → IsBitmap bytes element_side f → facts ≡ facts_of f → ox < facts.width → oy < facts.height → (facts.ones ≡ 0 → ⊥) → Told bytes ox oy f
Told-figure bytes ox oy facts f is same column row some =
    let w : facts.width ≡ f.width = ap (λ (x : BitmapFacts). x.width) same in
    let h : facts.height ≡ f.height = ap (λ (x : BitmapFacts). x.height) same in
    let n = ap (λ (x : BitmapFacts). x.ones) same in
    record { is_bitmap = is; column = omega (arith, column, w); row = omega (arith, row, h); some = some_offsets bytes element_side f ox oy is (λ e. some (n ∙ e)) }

pub told_element : (bytes : List ℕ) (ox oy : ℕ) (f : Raster ℕ) → Told bytes ox oy f → (figure : Figure) × IsElement bytes ox oy figure
told_element bytes ox oy f t = (figure_of f ox oy, found_element bytes f ox oy t.is_bitmap t.column t.row t.some)

-- what is made of a bitmap and its facts
pub made_figure : (bytes : List ℕ) (ox oy : ℕ) (facts : BitmapFacts) (f : Raster ℕ) (found : List Offset) → Told bytes ox oy f → facts ≡ facts_of f → found ≡ offsets_of f ox oy → figure facts.width facts.height found ≡ figure_of f ox oy
made_figure bytes ox oy facts f found t same e =
    ap (λ (x : BitmapFacts). figure x.width x.height found) same ∙ ap (λ (xs : List Offset). figure f.width f.height xs) e

pub made_is_figure : (bytes : List ℕ) (ox oy : ℕ) (facts : BitmapFacts) (f : Raster ℕ) (found : List Offset) → Told bytes ox oy f → facts ≡ facts_of f → found ≡ offsets_of f ox oy → IsFigure (figure facts.width facts.height found)
made_is_figure bytes ox oy facts f found t same e =
    subst IsFigure (sym (made_figure bytes ox oy facts f found t same e)) (element_figure bytes f ox oy t.is_bitmap t.column t.row t.some)

pub made_element : (bytes : List ℕ) (ox oy : ℕ) (facts : BitmapFacts) (f : Raster ℕ) (found : List Offset) (made : Figure) → Told bytes ox oy f → facts ≡ facts_of f → found ≡ offsets_of f ox oy
    → made ≡ figure facts.width facts.height found → IsElement bytes ox oy made
made_element bytes ox oy facts f found made t same e is =
    subst (IsElement bytes ox oy) (sym (is ∙ made_figure bytes ox oy facts f found t same e)) (found_element bytes f ox oy t.is_bitmap t.column t.row t.some)

pub made_only : (bytes : List ℕ) (ox oy : ℕ) (facts : BitmapFacts) (f : Raster ℕ) (found : List Offset) (made other : Figure) → Told bytes ox oy f → facts ≡ facts_of f → found ≡ offsets_of f ox oy
    → made ≡ figure facts.width facts.height found → ((g : Raster ℕ) → IsBitmap bytes element_side g → f ≡ g) → IsElement bytes ox oy other → made ≡ other
made_only bytes ox oy facts f found made other t same e is only element =
    is ∙ made_figure bytes ox oy facts f found t same e ∙ ap (λ (g : Raster ℕ). figure_of g ox oy) (only element.bitmap element.is_bitmap) ∙ sym element.shows

pub empty_told : (bytes : List ℕ) (ox oy : ℕ) (facts : BitmapFacts) (f : Raster ℕ) → IsBitmap bytes element_side f → facts ≡ facts_of f → ox < facts.width → oy < facts.height → facts.ones ≡ 0 → ElementRefuses bytes ox oy code.Empty
empty_told bytes ox oy facts f is same column row none =
    let w : facts.width ≡ f.width = ap (λ (x : BitmapFacts). x.width) same in
    let h : facts.height ≡ f.height = ap (λ (x : BitmapFacts). x.height) same in
    empty_refused bytes f ox oy is (omega (arith, column, w)) (omega (arith, row, h)) (sym (ap (λ (x : BitmapFacts). x.ones) same) ∙ none)
