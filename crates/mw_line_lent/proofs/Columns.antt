-- What a view has down a column of a line.
use Rattle.std.proofs.Common.{◌≡◌, ◌⊎◌, ℕ, ◌+◌, ◌-◌, ◌*◌, ◌<◌, ◌≤◌, ℤ, pos, ◌+ℤ◌, List, Some, length, get_or, inl, inr, ap, sym, arith, ◌∙◌}
use Rattle.std.proofs.lemmas.Bool.{cases_lt, lt-ltb}
use Rattle.std.proofs.lemmas.Int.{ints}
use Rattle.std.proofs.lemmas.Nat.{mul-add-lt}
use Rattle.std.proofs.lemmas.Option.{slice_get-get_or}
use Rattle.mw_model.specs.Rasters.{raster, cell_at}
use Rattle.mw_model.specs.Windows.{View}
use Rattle.mw_line.specs.mw_lane.Shifted.{merge_at}
use Rattle.mw_line.specs.Cells.{window_cell, merged_cell}
use Rattle.mw_line.proofs.Folds.{IsExtremum}
use Rattle.mw_line.proofs.Seen.{no_row_seen, no_column_seen}
use Rattle.mw_line_lent.specs.declared.boxes.Part.{Part}
use Rattle.mw_line_lent.specs.Bests.{IsBest}
use Rattle.mw_line_lent.specs.Parts.{IsOverlap}
use Rattle.mw_line_lent.proofs.Bests.{best_clipped, best_none, best_same, best_shift}

cell_inside : {A : Type 0} (w h : ℕ) (cells : List A) (c r : ℕ) (d : A) → length cells ≡ h * w → c < w → r < h → cell_at (raster w h cells) (pos c) (pos r) ≡ Some (get_or cells (r * w + c) d)
cell_inside w h cells c r d size across down = rw (lt-ltb c w across, lt-ltb r h down) (slice_get-get_or cells (r * w + c) d (omega (arith, size, mul-add-lt r w c h down across)))

-- a cell that the view has
pub cell_shown : {A : Type 0} (f : A → A → A) (n : A) (w : View A) (column row : ℤ) (wide y long x from j : ℕ) (part rows : Part) → length w.cells ≡ w.place.height * w.place.width → IsOverlap column wide w.place.width part → IsOverlap (row +ℤ pos y) long w.place.height rows
    → part.behind ≤ x → x < part.behind + part.count → from ≡ rows.ahead * w.place.width + part.ahead → j < rows.count → merged_cell f n w column row x (y + rows.behind + j) ≡ f n (get_or w.cells (from + j * w.place.width + (x - part.behind)) n)
cell_shown f n w column row wide y long x from j part rows size across seen after before from-is lt =
    let c = part.ahead + (x - part.behind) in
    let q = rows.ahead + j in
    let here : column +ℤ pos x ≡ pos c = across.inside x after before in
    let moved : row +ℤ pos (y + rows.behind + j) ≡ row +ℤ pos y +ℤ pos (rows.behind + j) = omega (arith, ints) in
    let back : rows.ahead + (rows.behind + j - rows.behind) ≡ q = omega arith in
    let there : row +ℤ pos (y + rows.behind + j) ≡ pos q = moved ∙ seen.inside (rows.behind + j) (omega arith) (omega (arith, lt)) ∙ ap pos back in
    let place : q * w.place.width + c ≡ from + j * w.place.width + (x - part.behind) = omega (arith, from-is, split rows.ahead j w.place.width) in
    ap (λ (t : ℤ). merge_at f n (window_cell w t (row +ℤ pos (y + rows.behind + j)))) here
    ∙ ap (λ (t : ℤ). merge_at f n (window_cell w (pos c) t)) there
    ∙ ap (merge_at f n) (cell_inside w.place.width w.place.height w.cells c q n size (omega (arith, across.fits, after, before)) (omega (arith, seen.fits, lt)))
    ∙ ap (λ (t : ℕ). f n (get_or w.cells t n)) place
  where
    split : (a b m : ℕ) → (a + b) * m ≡ a * m + b * m
    split a b m = omega arith

-- where the view has the column and all of the rows from row y on
pub column_shown : {A : Type 0} (f : A → A → A) (n : A) (w : View A) (column row : ℤ) (wide y long x from a b : ℕ) (part rows : Part) (r : A) → length w.cells ≡ w.place.height * w.place.width → IsOverlap column wide w.place.width part
    → IsOverlap (row +ℤ pos y) long w.place.height rows → rows.behind ≡ 0 → b ≤ rows.count → part.behind ≤ x → x < part.behind + part.count → from ≡ rows.ahead * w.place.width + part.ahead
    → IsBest f (λ j. f n (get_or w.cells (from + j * w.place.width + (x - part.behind)) n)) a b r → IsBest f (merged_cell f n w column row x) (y + a) (y + b) r
column_shown f n w column row wide y long x from a b part rows r size across seen first fits after before from-is best =
    best_shift f (merged_cell f n w column row x) y a b r
    (best_same f (λ j. f n (get_or w.cells (from + j * w.place.width + (x - part.behind)) n)) (λ j. merged_cell f n w column row x (y + j)) a b r
    (λ j low high.
    let place : y + rows.behind + j ≡ y + j = omega (arith, first) in
    sym (cell_shown f n w column row wide y long x from j part rows size across seen after before from-is (omega (arith, high, fits))) ∙ ap (merged_cell f n w column row x) place)
    best)

-- where the view has the column, and has rows of it
pub column_best : {A : Type 0} (f : A → A → A) → IsExtremum f → (n : A) (w : View A) (column row : ℤ) (wide y down x from : ℕ) (part rows : Part) (r : A) → length w.cells ≡ w.place.height * w.place.width → IsOverlap column wide w.place.width part
    → IsOverlap (row +ℤ pos y) down w.place.height rows → 0 < rows.count → part.behind ≤ x → x < part.behind + part.count → from ≡ rows.ahead * w.place.width + part.ahead
    → IsBest f (λ j. f n (get_or w.cells (from + j * w.place.width + (x - part.behind)) n)) 0 rows.count r → IsBest f (merged_cell f n w column row x) y (y + down) r
column_best f laws n w column row wide y down x from part rows r size across seen some after before from-is best =
    best_clipped f laws n (merged_cell f n w column row x) (λ j. get_or w.cells (from + j * w.place.width + (x - part.behind)) n) rows.count (y + rows.behind) y (y + down) r some (omega arith) (omega (arith, seen.within))
    (λ j lt. cell_shown f n w column row wide y down x from j part rows size across seen after before from-is lt) outside best
  where
    outside : (k : ℕ) → y ≤ k → k < y + down → (k < y + rows.behind) ⊎ (y + rows.behind + rows.count ≤ k) → merged_cell f n w column row x k ≡ n
    outside k low high (inl early) =
        let out = seen.before (k - y) (omega (arith, low, early)) in
        let e : row +ℤ pos y +ℤ pos (k - y) ≡ row +ℤ pos k = omega (arith, ints, low) in
        ap (merge_at f n) (no_row_seen w.place.width w.place.height w.cells (column +ℤ pos x) (row +ℤ pos k) (inl (omega (arith, ints, out, e))))
    outside k low high (inr late) =
        let out = seen.after (k - y) (omega (arith, low, late)) (omega (arith, low, high)) in
        let e : row +ℤ pos y +ℤ pos (k - y) ≡ row +ℤ pos k = omega (arith, ints, low) in
        ap (merge_at f n) (no_row_seen w.place.width w.place.height w.cells (column +ℤ pos x) (row +ℤ pos k) (inr (omega (arith, ints, out, e))))

-- where it has none of the rows
pub no_rows_best : {A : Type 0} (f : A → A → A) → IsExtremum f → (n : A) (w : View A) (column row : ℤ) (y down x : ℕ) (rows : Part) → IsOverlap (row +ℤ pos y) down w.place.height rows → rows.count ≡ 0 → 0 < down
    → IsBest f (merged_cell f n w column row x) y (y + down) n
no_rows_best f laws n w column row y down x rows seen none some = best_none f laws n (merged_cell f n w column row x) y (y + down) (omega (arith, some)) out
  where
    out : (k : ℕ) → y ≤ k → k < y + down → merged_cell f n w column row x k ≡ n
    out k low high = elim (cases_lt (k - y) rows.behind) [
      | inl early ↦
          let far = seen.before (k - y) early in
          ap (merge_at f n) (no_row_seen w.place.width w.place.height w.cells (column +ℤ pos x) (row +ℤ pos k) (inl (omega (arith, ints, far, low))))
      | inr late ↦
          let far = seen.after (k - y) (omega (arith, late, none)) (omega (arith, low, high)) in
          ap (merge_at f n) (no_row_seen w.place.width w.place.height w.cells (column +ℤ pos x) (row +ℤ pos k) (inr (omega (arith, ints, far, low))))
    ]

-- where it has not the column
pub no_column_best : {A : Type 0} (f : A → A → A) → IsExtremum f → (n : A) (w : View A) (column row : ℤ) (wide y down x : ℕ) (part : Part) → IsOverlap column wide w.place.width part → 0 < down → x < wide → (x < part.behind) ⊎ (part.behind + part.count ≤ x)
    → IsBest f (merged_cell f n w column row x) y (y + down) n
no_column_best f laws n w column row wide y down x part across some lt (inl early) =
    let far = across.before x early in
    best_none f laws n (merged_cell f n w column row x) y (y + down) (omega (arith, some)) (λ k low high. ap (merge_at f n) (no_column_seen w.place.width w.place.height w.cells (column +ℤ pos x) (row +ℤ pos k) (inl far)))
no_column_best f laws n w column row wide y down x part across some lt (inr late) =
    let far = across.after x late lt in
    best_none f laws n (merged_cell f n w column row x) y (y + down) (omega (arith, some)) (λ k low high. ap (merge_at f n) (no_column_seen w.place.width w.place.height w.cells (column +ℤ pos x) (row +ℤ pos k) (inr far)))
