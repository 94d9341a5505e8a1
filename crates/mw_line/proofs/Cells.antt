-- Rows that lie behind one another in one list, which is passed over as a whole.
use Rattle.std.proofs.Common.{◌≡◌, ℕ, zero, suc, ◌+◌, ◌-◌, ◌*◌, ◌<◌, ◌≤◌, List, Option, get_or, ap, arith, ◌∙◌}
use Rattle.std.specs.Option.{unwrap_or}
use Rattle.mw_lane.specs.Shifted.{merge_at}
use Rattle.mw_line.specs.Extrema.{strided, over}
use Rattle.mw_line.proofs.Folds.{IsExtremum}
use Rattle.mw_line.proofs.Joined.{strided-joined}
use Rattle.mw_line.proofs.Over.{over_same, over_strided, over_out, over_swapped, merged_or}
use Rattle.mw_line.proofs.Rows.{rows_fit}

-- as many rows more as there are places downwards after the first
rows_after : (height down wide : ℕ) → 0 < down → (height + (down - 1)) * wide + wide ≡ height * wide + down * wide
rows_after height zero wide some = absurd (omega arith)
rows_after height (suc k) wide some = let e : suc k - 1 ≡ k = omega arith in rw e (omega arith)

-- a place that is so far down and so far across
place_under : (x y i j wide : ℕ) → y * wide + x + i * 1 + j * wide ≡ (y + j) * wide + (x + i)
place_under x y i j wide = omega arith

-- a column of the cells, from a place on
column_slid : {A : Type 0} (f : A → A → A) (cells slid : List A) (d : A) (wide high height down x y i : ℕ) → 0 < down → high ≡ height + (down - 1)
    → ((p : ℕ) → p + down * wide < high * wide + wide → get_or slid p d ≡ strided f cells d wide (down - 1) p)
    → x + i < wide → y < height → get_or slid (y * wide + x + i * 1) d ≡ over f (λ j. get_or cells ((y + j) * wide + (x + i)) d) 0 (down - 1)
column_slid f cells slid d wide high height down x y i some high-is slid-is less row_less =
    let fits = rows_fit y height wide row_less in
    let rows = rows_after height down wide some in
    let all : high * wide + wide ≡ height * wide + down * wide = ap (λ (t : ℕ). t * wide + wide) high-is ∙ rows in
    slid-is (y * wide + x + i * 1) (omega (arith, fits, all))
    ∙ over_strided f cells d wide (y * wide + x + i * 1) 0 (down - 1) (y * wide + x + i * 1) (omega arith)
    ∙ over_same f (λ j. get_or cells (y * wide + x + i * 1 + j * wide) d) (λ j. get_or cells ((y + j) * wide + (x + i)) d) 0 (down - 1) (λ j from to.
    ap (λ (t : ℕ). get_or cells t d) (place_under x y i j wide))

-- the two parts of the runs of a box, where first the columns were slid and then the rows, so far that two parts are a run
pub box_of_parts : {A : Type 0} (f : A → A → A) → IsExtremum f → (cells slid grown : List A) (d : A) (wide high width height across down taken x y : ℕ)
    → 0 < down → 0 < taken → taken ≤ across → across < 2 * taken → wide ≡ width + (across - 1) → high ≡ height + (down - 1)
    → ((p : ℕ) → p + down * wide < high * wide + wide → get_or slid p d ≡ strided f cells d wide (down - 1) p)
    → ((p : ℕ) → p + taken * 1 < height * wide + 1 → get_or grown p d ≡ strided f slid d 1 (taken - 1) p)
    → x < width → y < height
    → f (get_or grown (y * wide + x) d) (get_or grown (y * wide + x + (across - taken)) d) ≡ over f (λ j. over f (λ i. get_or cells ((y + j) * wide + (x + i)) d) 0 (across - 1)) 0 (down - 1)
box_of_parts f laws cells slid grown d wide high width height across down taken x y some_down some within most wide-is high-is slid-is grown-is less row_less =
    let fits = rows_fit y height wide row_less in
    let q = y * wide + x in
    let j = across - taken in
    let far : q + j ≡ q + j * 1 = omega arith in
    let last : j + (taken - 1) ≡ across - 1 = omega arith in
    ap (λ (t : _). f t (get_or grown (q + j) d)) (grown-is q (omega (arith, fits)))
    ∙ ap (f (strided f slid d 1 (taken - 1) q)) (grown-is (q + j) (omega (arith, fits)) ∙ ap (λ (t : ℕ). strided f slid d 1 (taken - 1) t) far)
    ∙ strided-joined f laws slid d 1 j (taken - 1) (taken - 1) q (omega arith) (omega arith)
    ∙ ap (λ (t : ℕ). strided f slid d 1 t q) last
    ∙ over_strided f slid d 1 q 0 (across - 1) q (omega arith)
    ∙ over_same f (λ i. get_or slid (q + i * 1) d) (λ i. over f (λ j. get_or cells ((y + j) * wide + (x + i)) d) 0 (down - 1)) 0 (across - 1) (λ i from to.
    column_slid f cells slid d wide high height down x y i some_down high-is slid-is (omega arith) row_less)
    ∙ over_swapped f laws (λ i j. get_or cells ((y + j) * wide + (x + i)) d) 0 (across - 1) 0 (down - 1)

-- the box of a place, from cells that are samples or n
pub box_seen : {A : Type 0} (f : A → A → A) → IsExtremum f → (n : A) (cells : List A) (seen : ℕ → ℕ → Option A) (wide high width height across down x y : ℕ) → wide ≡ width + (across - 1) → high ≡ height + (down - 1)
    → ((x y : ℕ) → x < wide → y < high → get_or cells (y * wide + x) n ≡ unwrap_or (seen x y) n) → x < width → y < height
    → f n (over f (λ j. over f (λ i. get_or cells ((y + j) * wide + (x + i)) n) 0 (across - 1)) 0 (down - 1)) ≡ over f (λ j. over f (λ i. merge_at f n (seen (x + i) (y + j))) 0 (across - 1)) 0 (down - 1)
box_seen f laws n cells seen wide high width height across down x y wide-is high-is cells-are less row_less =
    over_out f laws n (λ j. over f (λ i. get_or cells ((y + j) * wide + (x + i)) n) 0 (across - 1)) 0 (down - 1)
    ∙ over_same f (λ j. f n (over f (λ i. get_or cells ((y + j) * wide + (x + i)) n) 0 (across - 1))) (λ j. over f (λ i. merge_at f n (seen (x + i) (y + j))) 0 (across - 1)) 0 (down - 1) (λ j from to.
    over_out f laws n (λ i. get_or cells ((y + j) * wide + (x + i)) n) 0 (across - 1)
    ∙ over_same f (λ i. f n (get_or cells ((y + j) * wide + (x + i)) n)) (λ i. merge_at f n (seen (x + i) (y + j))) 0 (across - 1) (λ i after before.
    ap (f n) (cells-are (x + i) (y + j) (omega arith) (omega arith)) ∙ merged_or f laws n (seen (x + i) (y + j))))
