-- An element has as many offsets as its bitmap has pixels, and those of a part fit where all do.
use Rattle.std.proofs.Common.{◌≡◌, ℕ, zero, suc, ◌+◌, ◌*◌, ◌<◌, ◌≤◌, Bool, true, false, cond, eqb, List, [], ◌∷◌, ◌++◌, Some, None, length, take, drop, refl, ap, sym, subst, arith, ◌∙◌, inl, inr, length-append}
use Rattle.std.specs.Prelude.{count_by, slice_index, ◌==◌}
use Rattle.std.specs.List.{cons_option}
use Rattle.std.proofs.lemmas.Bool.{cases_lt}
use Rattle.std.proofs.lemmas.List.{drop-drop, take_all}
use Rattle.std.proofs.lemmas.List.Sums.{sum_by-cons, sum_by-append}
use Rattle.std.proofs.Math.Seq.{drop-cons, take-add}
use Rattle.mw_model.specs.Rasters.{Raster}
use Rattle.mw_model.specs.Bitmaps.{IsBitmap}
use Rattle.mw_model.specs.Elements.{element_side, offset_from, offsets_in_row, offsets_of}
use Rattle.mw_netpbm_plain.specs.declared.bitmap.BitmapFacts.{BitmapFacts}
use Rattle.mw_netpbm_plain.specs.Faults.{facts_of}
use Rattle.mw_element.proofs.Found.{bitmap_size}
use Rattle.mw_element.proofs.Rows.{pixel_offset, row_more, row_next, row_part, rows_more, rows_part}

-- ---- parts are no longer than the whole

-- what never falls from one number to the next never falls
grows : (g : ℕ → ℕ) → ((k : ℕ) → g k ≤ g (k + 1)) → (n k : ℕ) → n ≤ k → g n ≤ g k
grows g step n zero le = let none : n ≡ 0 = omega arith in subst (λ (t : ℕ). g t ≤ g 0) (sym none) (omega arith)
grows g step n (suc k) le =
    elim (cases_lt n (suc k)) [
      | inl lt ↦
          let next : k + 1 ≡ suc k = omega arith in
          let last : g k ≤ g (suc k) = subst (λ (t : ℕ). g k ≤ g t) next (step k) in
          let before : g n ≤ g k = grows g step n k (omega arith) in
          omega arith
      | inr ge ↦ let same : n ≡ suc k = omega arith in subst (λ (t : ℕ). g t ≤ g (suc k)) (sym same) (omega arith)
    ]

row_grows : (f : Raster ℕ) (ox oy y k : ℕ) → length (row_part f ox oy y 0 k) ≤ length (row_part f ox oy y 0 (k + 1))
row_grows f ox oy y k = omega (arith, ap length (row_more f ox oy y k), length-append (row_part f ox oy y 0 k) (cons_option (pixel_offset f ox oy y k) []))

-- a row has one offset more than there are before a pixel of it
pub row_room : (f : Raster ℕ) (ox oy y x : ℕ) → x < f.width → eqb (slice_index f.cells (y * f.width + x)) 1 ≡ true → length (row_part f ox oy y 0 x) + 1 ≤ length (offsets_in_row f ox oy y)
row_room f ox oy y x lt is =
    let all = grows (λ (k : ℕ). length (row_part f ox oy y 0 k)) (row_grows f ox oy y) (x + 1) f.width (omega arith) in
    omega (arith, all, ap length (row_next f ox oy y x true is), length-append (row_part f ox oy y 0 x) (offset_from ox oy x y ∷ []))

rows_next : (f : Raster ℕ) (ox oy k : ℕ) → length (rows_part f ox oy 0 (k + 1)) ≡ length (rows_part f ox oy 0 k) + length (offsets_in_row f ox oy k)
rows_next f ox oy k =
    let before = rows_part f ox oy 0 k in
    let row = offsets_in_row f ox oy k in
    sym (ap length (rows_more f ox oy k before (before ++ row) refl refl)) ∙ length-append before row

rows_grow : (f : Raster ℕ) (ox oy k : ℕ) → length (rows_part f ox oy 0 k) ≤ length (rows_part f ox oy 0 (k + 1))
rows_grow f ox oy k = omega (arith, rows_next f ox oy k)

-- a bitmap has the offsets of a row more than there are before that row
pub rows_room : (f : Raster ℕ) (ox oy y : ℕ) → y < f.height → length (rows_part f ox oy 0 y) + length (offsets_in_row f ox oy y) ≤ length (offsets_of f ox oy)
rows_room f ox oy y lt = omega (arith, rows_next f ox oy y, grows (λ (k : ℕ). length (rows_part f ox oy 0 k)) (rows_grow f ox oy) (y + 1) f.height (omega arith))

-- ---- as many offsets as pixels

-- how many of the cells are 1
abbrev ones : List ℕ → ℕ
ones cells = count_by (λ s. s == 1) cells

length-chosen : {A : Type 0} (b : Bool) (a : A) (xs : List A) → length (cons_option (cond b (Some a) None) xs) ≡ cond b 1 0 + length xs
length-chosen true a xs = omega arith
length-chosen false a xs = omega arith

ones-next : (cells : List ℕ) (at n : ℕ) → at < length cells → ones (take (suc n) (drop at cells)) ≡ cond (eqb (slice_index cells at) 1) 1 0 + ones (take n (drop (at + 1) cells))
ones-next cells at n lt =
    let next : suc at ≡ at + 1 = omega arith in
    ap (λ (xs : List ℕ). ones (take (suc n) xs)) (drop-cons cells at 0 lt)
    ∙ sum_by-cons (λ s. cond (eqb s 1) 1 0) (slice_index cells at) (take n (drop (suc at) cells))
    ∙ ap (λ (t : ℕ). cond (eqb (slice_index cells at) 1) 1 0 + ones (take n (drop t cells))) next

row_ones : (f : Raster ℕ) (ox oy y x n : ℕ) → y * f.width + x + n ≤ length f.cells → length (row_part f ox oy y x n) ≡ ones (take n (drop (y * f.width + x) f.cells))
row_ones f ox oy y x zero fits = refl
row_ones f ox oy y x (suc n) fits =
    let at = y * f.width + x in
    let is = eqb (slice_index f.cells at) 1 in
    let further : y * f.width + (x + 1) ≡ at + 1 = omega arith in
    length-chosen is (offset_from ox oy x y) (row_part f ox oy y (x + 1) n)
    ∙ ap (λ (t : ℕ). cond is 1 0 + t) (row_ones f ox oy y (x + 1) n (omega arith) ∙ ap (λ (t : ℕ). ones (take n (drop t f.cells))) further)
    ∙ sym (ones-next f.cells at n (omega arith))

ones-append : (xs ys : List ℕ) → ones (xs ++ ys) ≡ ones xs + ones ys
ones-append xs ys = sum_by-append (λ s. cond (eqb s 1) 1 0) xs ys

rows_ones : (f : Raster ℕ) (ox oy y n : ℕ) → (y + n) * f.width ≤ length f.cells → length (rows_part f ox oy y n) ≡ ones (take (n * f.width) (drop (y * f.width) f.cells))
rows_ones f ox oy y zero fits = let none : 0 * f.width ≡ 0 = omega arith in sym (ap (λ (t : ℕ). ones (take t (drop (y * f.width) f.cells))) none)
rows_ones f ox oy y (suc n) fits =
    let w = f.width in
    let from = drop (y * w) f.cells in
    let split : suc n * w ≡ w + n * w = omega arith in
    let further : y * w + w ≡ (y + 1) * w = omega arith in
    let here : y * w + 0 ≡ y * w = omega arith in
    let row : length (offsets_in_row f ox oy y) ≡ ones (take w from) = row_ones f ox oy y 0 w (omega arith) ∙ ap (λ (t : ℕ). ones (take w (drop t f.cells))) here in
    let rest : length (rows_part f ox oy (y + 1) n) ≡ ones (take (n * w) (drop w from)) =
    rows_ones f ox oy (y + 1) n (omega arith) ∙ sym (ap (λ (xs : List ℕ). ones (take (n * w) xs)) (drop-drop w (y * w) f.cells ∙ ap (λ (t : ℕ). drop t f.cells) further)) in
    let both : ones (take (suc n * w) from) ≡ ones (take w from) + ones (take (n * w) (drop w from)) =
    ap (λ (t : ℕ). ones (take t from)) split ∙ ap ones (take-add w (n * w) from) ∙ ones-append (take w from) (take (n * w) (drop w from)) in
    length-append (offsets_in_row f ox oy y) (rows_part f ox oy (y + 1) n) ∙ omega (arith, row, rest, both)

pub offsets_are_ones : (f : Raster ℕ) (ox oy : ℕ) → length f.cells ≡ f.height * f.width → length (offsets_of f ox oy) ≡ ones f.cells
offsets_are_ones f ox oy size =
    let none : 0 * f.width ≡ 0 = omega arith in
    rows_ones f ox oy 0 f.height (omega arith)
    ∙ ap (λ (t : ℕ). ones (take (f.height * f.width) (drop t f.cells))) none
    ∙ ap ones (take_all (f.height * f.width) f.cells (omega arith))

-- what a scan counted is how many offsets there are
pub offsets_told : (bytes : List ℕ) (facts : BitmapFacts) (f : Raster ℕ) (ox oy : ℕ) → IsBitmap bytes element_side f → facts ≡ facts_of f → length (offsets_of f ox oy) ≡ facts.ones
offsets_told bytes facts f ox oy is same = offsets_are_ones f ox oy (bitmap_size bytes element_side f is) ∙ sym (ap (λ (x : BitmapFacts). x.ones) same)
