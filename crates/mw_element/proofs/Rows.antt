-- The offsets of a bitmap, by rows.
use Rattle.std.proofs.Common.{◌≡◌, ℕ, zero, suc, ◌+◌, ◌*◌, ◌/◌, ◌%◌, ◌<◌, ◌≤◌, ℤ, pos, inl, inr, append_assoc, Bool, true, false, cond, eqb, List, [], ◌∷◌, ◌++◌, length, refl, sym, ap, subst, ◌∙◌, arith}
use Rattle.std.specs.Prelude.{Option, Some, None, slice_index, flat_map, filter_map, ◌-ℤ◌, ◌+ℤ◌, ◌≤ℤ◌, count_by, ◌==◌}
use Rattle.std.proofs.lemmas.Int.{ints}
use Rattle.std.proofs.Math.Nat.{zero-add, div-lt_iff_lt-mul, mod-lt, mod-add-div'}
use Rattle.std.proofs.lemmas.Option.{get_or_from_slice_get}
use Rattle.std.specs.Prelude.{slice_get}
use Rattle.std.proofs.lemmas.Bool.{cases_lt, cases_Bool}
use Rattle.std.proofs.lemmas.List.Sums.{sum_by-cons}
use Rattle.std.specs.List.{range_with_len, cons_option, AllByRecursion, IsDistinct}
use Rattle.std.proofs.lemmas.Grind.{flat_map-append}
use Rattle.std.proofs.lemmas.List.{append-nil}
use Rattle.std.proofs.lemmas.List.Elements.{filter_map-append}
use Rattle.std.proofs.lemmas.Map.Keys.{IsDistinct-cons}
use Rattle.std.proofs.Math.Arith.{digits_lt}
use Rattle.mw_model.proofs.mw_facts.Alls.{all-append}
use Rattle.mw_model.proofs.mw_facts.Ranges.{range_with_len-more}
use Rattle.mw_model.proofs.mw_facts.Elements.{append-empty}
use Rattle.mw_model.specs.declared.offsets.Offset.{Offset}
use Rattle.mw_model.specs.Rasters.{Raster}
use Rattle.mw_model.specs.Elements.{IsNear, offset_from, offsets_in_row, offsets_of, same_offset}
use Rattle.mw_element.proofs.Boxes.{Follows, Below, apart_right, row_apart, distinct_append, distinct_nil, below_row, below_more, follows_more}

-- the pixel of column x of row y, as an offset where it is 1
abbrev pub pixel_offset : Raster ℕ → ℕ → ℕ → ℕ → ℕ → Option Offset
pixel_offset f ox oy y x = cond (eqb (slice_index f.cells (y * f.width + x)) 1) (Some (offset_from ox oy x y)) None

-- the offsets of so many columns of a row, from one column on
abbrev pub row_part : Raster ℕ → ℕ → ℕ → ℕ → ℕ → ℕ → List Offset
row_part f ox oy y x n = filter_map (pixel_offset f ox oy y) (range_with_len x n)

-- the offsets of so many rows, from one row on
abbrev pub rows_part : Raster ℕ → ℕ → ℕ → ℕ → ℕ → List Offset
rows_part f ox oy y n = flat_map (λ k. offsets_in_row f ox oy k) (range_with_len y n)

-- ---- steps of loops

pub row_more : (f : Raster ℕ) (ox oy y n : ℕ) → row_part f ox oy y 0 (n + 1) ≡ row_part f ox oy y 0 n ++ cons_option (pixel_offset f ox oy y n) []
row_more f ox oy y n = ap (filter_map (pixel_offset f ox oy y)) (range_with_len-more 0 n n (zero-add n)) ∙ filter_map-append (pixel_offset f ox oy y) (range_with_len 0 n) (n ∷ [])

pub row_next : (f : Raster ℕ) (ox oy y n : ℕ) (b : Bool) → eqb (slice_index f.cells (y * f.width + n)) 1 ≡ b → row_part f ox oy y 0 (n + 1) ≡ row_part f ox oy y 0 n ++ cons_option (cond b (Some (offset_from ox oy n y)) None) []
row_next f ox oy y n b e = row_more f ox oy y n ∙ ap (λ (t : Bool). row_part f ox oy y 0 n ++ cons_option (cond t (Some (offset_from ox oy n y)) None) []) e

pub row_set : (f : Raster ℕ) (ox oy y n : ℕ) (before out new : List Offset) → out ≡ before ++ row_part f ox oy y 0 n → eqb (slice_index f.cells (y * f.width + n)) 1 ≡ true
    → new ≡ out ++ offset_from ox oy n y ∷ [] → new ≡ before ++ row_part f ox oy y 0 (n + 1)
row_set f ox oy y n before out new so_far is e =
    e ∙ ap (λ (xs : List Offset). xs ++ offset_from ox oy n y ∷ []) so_far ∙ append_assoc before (row_part f ox oy y 0 n) (offset_from ox oy n y ∷ [])
    ∙ ap (λ (xs : List Offset). before ++ xs) (sym (row_next f ox oy y n true is))

pub row_unset : (f : Raster ℕ) (ox oy y n : ℕ) (before out : List Offset) → out ≡ before ++ row_part f ox oy y 0 n → eqb (slice_index f.cells (y * f.width + n)) 1 ≡ false
    → out ≡ before ++ row_part f ox oy y 0 (n + 1)
row_unset f ox oy y n before out so_far not =
    so_far ∙ ap (λ (xs : List Offset). before ++ xs) (sym (append-nil (row_part f ox oy y 0 n)) ∙ sym (row_next f ox oy y n false not))

pub rows_more : (f : Raster ℕ) (ox oy n : ℕ) (out new : List Offset) → out ≡ rows_part f ox oy 0 n → new ≡ out ++ offsets_in_row f ox oy n → new ≡ rows_part f ox oy 0 (n + 1)
rows_more f ox oy n out new so_far e =
    e ∙ ap (λ (xs : List Offset). xs ++ offsets_in_row f ox oy n) so_far
    ∙ sym (ap (flat_map (λ k. offsets_in_row f ox oy k)) (range_with_len-more 0 n n (zero-add n)) ∙ flat_map-append (λ k. offsets_in_row f ox oy k) (range_with_len 0 n) (n ∷ []) ∙ ap (λ (xs : List Offset). flat_map (λ k. offsets_in_row f ox oy k) (range_with_len 0 n) ++ xs) (append-nil (offsets_in_row f ox oy n)))

-- ---- what the offsets of a bitmap are

-- a number seen from another
abbrev seen_at : ℕ → ℕ → ℤ
seen_at o x = pos x -ℤ pos o

seen_next : (o x : ℕ) → (seen_at o x +ℤ pos 1) ≤ℤ seen_at o (x + 1)
seen_next o x = omega (arith, ints)

row_follows : (f : Raster ℕ) (ox oy y x n : ℕ) → AllByRecursion (Follows (seen_at ox x) (seen_at oy y)) (row_part f ox oy y x n)
row_follows f ox oy y x zero = tt
row_follows f ox oy y x (suc n) =
    let rest = follows_more (seen_at ox x) (seen_at ox (x + 1)) (seen_at oy y) (row_part f ox oy y (x + 1) n) (omega (arith, ints)) (row_follows f ox oy y (x + 1) n) in
    elim (eqb (slice_index f.cells (y * f.width + x)) 1) as (λ (b : Bool). AllByRecursion (Follows (seen_at ox x) (seen_at oy y)) (cons_option (cond b (Some (offset_from ox oy x y)) None) (row_part f ox oy y (x + 1) n))) [
      | true ↦ (record { right = omega (arith, ints); level = refl }, rest)
      | false ↦ rest
    ]

row_distinct : (f : Raster ℕ) (ox oy y x n : ℕ) → IsDistinct same_offset (row_part f ox oy y x n)
row_distinct f ox oy y x zero = distinct_nil
row_distinct f ox oy y x (suc n) =
    let rest = row_distinct f ox oy y (x + 1) n in
    let apart = apart_right (offset_from ox oy x y) (seen_at ox (x + 1)) (seen_at oy y) (row_part f ox oy y (x + 1) n) (seen_next ox x) (row_follows f ox oy y (x + 1) n) in
    elim (eqb (slice_index f.cells (y * f.width + x)) 1) as (λ (b : Bool). IsDistinct same_offset (cons_option (cond b (Some (offset_from ox oy x y)) None) (row_part f ox oy y (x + 1) n))) [
      | true ↦ IsDistinct-cons same_offset (offset_from ox oy x y) (row_part f ox oy y (x + 1) n) apart rest
      | false ↦ rest
    ]

rows_below : (f : Raster ℕ) (ox oy y n : ℕ) → AllByRecursion (Below (seen_at oy y)) (rows_part f ox oy y n)
rows_below f ox oy y zero = tt
rows_below f ox oy y (suc n) =
    all-append (Below (seen_at oy y)) (offsets_in_row f ox oy y) (rows_part f ox oy (y + 1) n) (below_row (seen_at ox 0) (seen_at oy y) (offsets_in_row f ox oy y) (row_follows f ox oy y 0 f.width))
    (below_more (seen_at oy y) (seen_at oy (y + 1)) (rows_part f ox oy (y + 1) n) (omega (arith, ints)) (rows_below f ox oy (y + 1) n))

rows_distinct : (f : Raster ℕ) (ox oy y n : ℕ) → IsDistinct same_offset (rows_part f ox oy y n)
rows_distinct f ox oy y zero = distinct_nil
rows_distinct f ox oy y (suc n) =
    distinct_append (offsets_in_row f ox oy y) (rows_part f ox oy (y + 1) n) (row_distinct f ox oy y 0 f.width) (rows_distinct f ox oy (y + 1) n)
    (row_apart (seen_at ox 0) (seen_at oy y) (offsets_in_row f ox oy y) (rows_part f ox oy (y + 1) n) (row_follows f ox oy y 0 f.width)
    (below_more (seen_at oy y +ℤ pos 1) (seen_at oy (y + 1)) (rows_part f ox oy (y + 1) n) (seen_next oy y) (rows_below f ox oy (y + 1) n)))

pub offsets_distinct : (f : Raster ℕ) (ox oy : ℕ) → IsDistinct same_offset (offsets_of f ox oy)
offsets_distinct f ox oy = rows_distinct f ox oy 0 f.height

near_one : (ox oy x y : ℕ) → ox < 255 → oy < 255 → x < 255 → y < 255 → IsNear (offset_from ox oy x y)
near_one ox oy x y a b c d = record { left = omega (arith, ints); right = omega (arith, ints); top = omega (arith, ints); bottom = omega (arith, ints) }

row_near : (f : Raster ℕ) (ox oy y x n : ℕ) → ox < 255 → oy < 255 → y < 255 → x + n ≤ 255 → AllByRecursion IsNear (row_part f ox oy y x n)
row_near f ox oy y x zero a b d le = tt
row_near f ox oy y x (suc n) a b d le =
    let rest = row_near f ox oy y (x + 1) n a b d (omega (arith, le)) in
    elim (eqb (slice_index f.cells (y * f.width + x)) 1) as (λ (b : Bool). AllByRecursion IsNear (cons_option (cond b (Some (offset_from ox oy x y)) None) (row_part f ox oy y (x + 1) n))) [
      | true ↦ (near_one ox oy x y a b (omega (arith, le)) d, rest)
      | false ↦ rest
    ]

rows_near : (f : Raster ℕ) (ox oy y n : ℕ) → ox < 255 → oy < 255 → f.width ≤ 255 → y + n ≤ 255 → AllByRecursion IsNear (rows_part f ox oy y n)
rows_near f ox oy y zero a b w le = tt
rows_near f ox oy y (suc n) a b w le =
    all-append IsNear (offsets_in_row f ox oy y) (rows_part f ox oy (y + 1) n) (row_near f ox oy y 0 f.width a b (omega (arith, le)) (omega (arith, w))) (rows_near f ox oy (y + 1) n a b w (omega (arith, le)))

pub offsets_near : (f : Raster ℕ) (ox oy : ℕ) → ox < f.width → oy < f.height → f.width ≤ 255 → f.height ≤ 255 → AllByRecursion IsNear (offsets_of f ox oy)
offsets_near f ox oy a b w h = rows_near f ox oy 0 f.height (omega (arith, a, w)) (omega (arith, b, h)) w (omega (arith, h))

-- ---- no offset without a pixel, and none where no pixel is 1

row_none : (f : Raster ℕ) (ox oy y x n : ℕ) → row_part f ox oy y x n ≡ [] → (i : ℕ) → x ≤ i → i < x + n → eqb (slice_index f.cells (y * f.width + i)) 1 ≡ false
row_none f ox oy y x zero e i low high = absurd (omega (arith, low, high))
row_none f ox oy y x (suc n) e i low high =
    elim (cases_Bool (eqb (slice_index f.cells (y * f.width + x)) 1)) [
      | inl is ↦ absurd (let clash : cons_option (cond true (Some (offset_from ox oy x y)) None) (row_part f ox oy y (x + 1) n) ≡ [] = row_at f ox oy y x n true is e in cc)
      | inr not ↦
          let rest : row_part f ox oy y (x + 1) n ≡ [] = row_at f ox oy y x n false not e in
          elim (cases_lt x i) [
            | inl lt ↦ row_none f ox oy y (x + 1) n rest i (omega (arith, lt)) (omega (arith, high))
            | inr le ↦ let same : x ≡ i = omega (arith, low, le) in subst (λ k. eqb (slice_index f.cells (y * f.width + k)) 1 ≡ false) same not
          ]
    ]
  where
    row_at : (f : Raster ℕ) (ox oy y x n : ℕ) (b : Bool) → eqb (slice_index f.cells (y * f.width + x)) 1 ≡ b → row_part f ox oy y x (suc n) ≡ [] → cons_option (cond b (Some (offset_from ox oy x y)) None) (row_part f ox oy y (x + 1) n) ≡ []
    row_at f ox oy y x n b t e = ap (λ (c : Bool). cons_option (cond c (Some (offset_from ox oy x y)) None) (row_part f ox oy y (x + 1) n)) (sym t) ∙ e

none_row : (f : Raster ℕ) (ox oy y x n : ℕ) → ((i : ℕ) → x ≤ i → i < x + n → eqb (slice_index f.cells (y * f.width + i)) 1 ≡ false) → row_part f ox oy y x n ≡ []
none_row f ox oy y x zero h = refl
none_row f ox oy y x (suc n) h =
    ap (λ (c : Bool). cons_option (cond c (Some (offset_from ox oy x y)) None) (row_part f ox oy y (x + 1) n)) (h x (omega arith) (omega arith))
    ∙ none_row f ox oy y (x + 1) n (λ i low high. h i (omega (arith, low)) (omega (arith, high)))

rows_none : (f : Raster ℕ) (ox oy y n : ℕ) → rows_part f ox oy y n ≡ [] → (j i : ℕ) → y ≤ j → j < y + n → i < f.width → eqb (slice_index f.cells (j * f.width + i)) 1 ≡ false
rows_none f ox oy y zero e j i low high lt = absurd (omega (arith, low, high))
rows_none f ox oy y (suc n) e j i low high lt =
    let parts = append-empty (offsets_in_row f ox oy y) (rows_part f ox oy (y + 1) n) e in
    elim (cases_lt y j) [
      | inl more ↦ rows_none f ox oy (y + 1) n parts.1 j i (omega (arith, more)) (omega (arith, high)) lt
      | inr le ↦
          let same : y ≡ j = omega (arith, low, le) in
          subst (λ k. eqb (slice_index f.cells (k * f.width + i)) 1 ≡ false) same (row_none f ox oy y 0 f.width parts.0 i (omega arith) (omega (arith, lt)))
    ]

none_rows : (f : Raster ℕ) (ox oy y n : ℕ) → ((j i : ℕ) → y ≤ j → j < y + n → i < f.width → eqb (slice_index f.cells (j * f.width + i)) 1 ≡ false) → rows_part f ox oy y n ≡ []
none_rows f ox oy y zero h = refl
none_rows f ox oy y (suc n) h =
    ap (λ (xs : List Offset). xs ++ rows_part f ox oy (y + 1) n) (none_row f ox oy y 0 f.width (λ i low high. h y i (omega arith) (omega arith) (omega (arith, high))))
    ∙ none_rows f ox oy (y + 1) n (λ j i low high lt. h j i (omega (arith, low)) (omega (arith, high)) lt)

-- no cell is 1
count_head : (x n : ℕ) → cond (eqb x 1) 1 0 + n ≡ 0 → (eqb x 1 ≡ false) × (n ≡ 0)
count_head x n e = count_cases (eqb x 1) n e
  where
    count_cases : (b : Bool) (n : ℕ) → cond b 1 0 + n ≡ 0 → (b ≡ false) × (n ≡ 0)
    count_cases true n e = absurd (omega (arith, e))
    count_cases false n e = (refl, omega (arith, e))

count_none : (xs : List ℕ) → count_by (λ s. eqb s 1) xs ≡ 0 → (k : ℕ) → k < length xs → eqb (slice_index xs k) 1 ≡ false
count_none [] e k lt = absurd (omega (arith, lt))
count_none (x ∷ xs) e zero lt = (count_head x (count_by (λ s. eqb s 1) xs) (sym (sum_by-cons (λ n. cond (eqb n 1) 1 0) x xs) ∙ e)).0
count_none (x ∷ xs) e (suc k) lt = count_none xs ((count_head x (count_by (λ s. eqb s 1) xs) (sym (sum_by-cons (λ n. cond (eqb n 1) 1 0) x xs) ∙ e)).1) k (omega (arith, lt))

none_count : (xs : List ℕ) → ((k : ℕ) → k < length xs → eqb (slice_index xs k) 1 ≡ false) → count_by (λ s. eqb s 1) xs ≡ 0
none_count [] h = refl
none_count (x ∷ xs) h =
    sum_by-cons (λ n. cond (eqb n 1) 1 0) x xs
    ∙ ap (λ (c : Bool). cond c 1 0 + count_by (λ s. eqb s 1) xs) (h 0 (omega arith))
    ∙ ap (λ n. 0 + n) (none_count xs (λ k lt. h (suc k) (omega (arith, lt))))

pub no_offsets : (f : Raster ℕ) (ox oy : ℕ) → length f.cells ≡ f.height * f.width → count_by (λ s. s == 1) f.cells ≡ 0 → offsets_of f ox oy ≡ []
no_offsets f ox oy size e = none_rows f ox oy 0 f.height (λ j i low high lt. count_none f.cells e (j * f.width + i) (omega (arith, (let less : j < f.height = omega (arith, high) in digits_lt less lt), size)))

pub no_pixels : (f : Raster ℕ) (ox oy : ℕ) → length f.cells ≡ f.height * f.width → 0 < f.width → offsets_of f ox oy ≡ [] → count_by (λ s. s == 1) f.cells ≡ 0
no_pixels f ox oy size some e =
    none_count f.cells (λ k lt.
    let row : k / f.width < f.height = (div-lt_iff_lt-mul some).1 (omega (arith, lt, size)) in
    let column : k % f.width < f.width = mod-lt k some in
    let place : k / f.width * f.width + k % f.width ≡ k = let e : k % f.width + k / f.width * f.width ≡ k = mod-add-div' k f.width in omega (arith, e) in
    subst (λ n. eqb (slice_index f.cells n) 1 ≡ false) place (rows_none f ox oy 0 f.height e (k / f.width) (k % f.width) (omega arith) (omega (arith, row)) column))

-- the test of a pixel, and that of its cell
pub pixel_test : (cells : List ℕ) (i p : ℕ) (b : Bool) → slice_get cells i ≡ Some p → b ≡ eqb p 1 → eqb (slice_index cells i) 1 ≡ b
pixel_test cells i p b at is = ap (λ k. eqb k 1) (get_or_from_slice_get cells i p 0 at) ∙ sym is
