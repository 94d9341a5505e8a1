-- Lines of a sheet, one of which is written after another.
use Rattle.std.proofs.Common.{◌≡◌, ℕ, ◌+◌, ◌-◌, ◌*◌, ◌<◌, ◌≤◌, pos, ◌+ℤ◌, List, length, get_or, inl, inr, refl, ap, sym, subst, arith, ◌∙◌}
use Rattle.std.proofs.lemmas.Bool.{cases_lt}
use Rattle.mw_model.specs.Windows.{View}
use Rattle.mw_line.specs.Cells.{merged_cell}
use Rattle.mw_line.proofs.Folds.{IsExtremum}
use Rattle.mw_line_lent.specs.declared.boxes.Boxes.{Boxes}
use Rattle.mw_line_lent.specs.declared.boxes.Part.{Part}
use Rattle.mw_line_lent.specs.Bests.{IsBest, IsBestWith}
use Rattle.mw_line_lent.specs.Boxes.{HasLine, IsPutAt, wide_of}
use Rattle.mw_line_lent.specs.Parts.{IsOverlap}
use Rattle.mw_line_lent.specs.Sheets.{HasParts, HasRowRun, HasTails, IsSheet}
use Rattle.mw_line_lent.proofs.Bests.{best_one, best_unique}
use Rattle.mw_line_lent.proofs.Columns.{cell_shown, no_rows_best}
use Rattle.mw_line_lent.proofs.Puts.{rows_le}
use Rattle.mw_line_lent.proofs.Runs.{cell_near, run_before, run_behind, run_joined, run_none}

next : (a m : ℕ) → (a + 1) * m ≡ a * m + m
next a m = omega arith

pub sheet_kept : {A : Type 0} (n : A) (b : Boxes) (s : ℕ) (old new : List A) → 1 ≤ s → s ≤ b.down + 1 → IsSheet n b old → IsPutAt (s * b.part.count) b.part.count old new → IsSheet n b new
sheet_kept n b s old new first last sheet put =
    let count = b.part.count in
    let low : 1 * count ≤ s * count = rows_le 1 s count first in
    let high : (s + 1) * count ≤ (b.down + 2) * count = rows_le (s + 1) (b.down + 2) count (omega (arith, last)) in
    record {
      size = put.size ∙ sheet.size;
      first = λ i lt. put.before i n (omega (arith, lt, low)) ∙ sheet.first i lt;
      last = λ i lt. put.behind ((b.down + 2) * count + i) n (omega (arith, high, next s count)) ∙ sheet.last i lt;
    }

-- all cells are neutral at first
pub sheet_first : {A : Type 0} (n : A) (b : Boxes) (cells : List A) (all : (p : ℕ) → get_or cells p n ≡ n) → length cells ≡ (b.down + 3) * b.part.count → IsSheet n b cells
sheet_first n b cells all size = record { size = size; first = λ i lt. all i; last = λ i lt. all ((b.down + 2) * b.part.count + i) }

-- the tail and the head of no row
pub tail_none : {A : Type 0} (f : A → A → A) → IsExtremum f → (n : A) (w : View A) (b : Boxes) (first : ℕ) (cells : List A) → IsSheet n b cells → HasTails f n w b first b.down cells
tail_none f laws n w b first cells sheet k from to i lt =
    let here : k ≡ b.down = omega (arith, from, to) in
    run_none f laws n (merged_cell f n w b.column b.row (b.part.behind + i)) (first + k) (first + b.down) (get_or cells ((k + 2) * b.part.count + i) n) (omega (arith, from))
    (ap (λ (t : ℕ). get_or cells ((t + 2) * b.part.count + i) n) here ∙ sheet.last i lt)

pub head_none : {A : Type 0} (f : A → A → A) → IsExtremum f → (n : A) (w : View A) (b : Boxes) (from : ℕ) (cells : List A) → IsSheet n b cells → HasRowRun f n w b from from (0 * b.part.count) cells
head_none f laws n w b from cells sheet i lt =
    let here : 0 * b.part.count + i ≡ i = omega arith in
    run_none f laws n (merged_cell f n w b.column b.row (b.part.behind + i)) from from (get_or cells (0 * b.part.count + i) n) (omega arith) (ap (λ (t : ℕ). get_or cells t n) here ∙ sheet.first i lt)

-- tails behind a line that was written
pub tails_kept : {A : Type 0} (f : A → A → A) (n : A) (w : View A) (b : Boxes) (first y s : ℕ) (old new : List A) → s < y + 2 → HasTails f n w b first y old → IsPutAt (s * b.part.count) b.part.count old new → HasTails f n w b first y new
tails_kept f n w b first y s old new lt tails put k from to i less =
    let count = b.part.count in
    let behind : (s + 1) * count ≤ (k + 2) * count = rows_le (s + 1) (k + 2) count (omega (arith, lt, from)) in
    subst (IsBestWith f n (merged_cell f n w b.column b.row (b.part.behind + i)) (first + k) (first + b.down)) (sym (put.behind ((k + 2) * count + i) n (omega (arith, behind, next s count)))) (tails k from to i less)

-- one tail more
pub tails_more : {A : Type 0} (f : A → A → A) → IsExtremum f → (n : A) (w : View A) (b : Boxes) (first y : ℕ) (cell : ℕ → A) (old new : List A) → y < b.down → HasTails f n w b first (y + 1) old → IsPutAt ((y + 2) * b.part.count) b.part.count old new
    → ((i : ℕ) → i < b.part.count → get_or new ((y + 2) * b.part.count + i) n ≡ f (get_or old ((y + 2) * b.part.count + b.part.count + i) n) (cell i)) → ((i : ℕ) → i < b.part.count → f n (cell i) ≡ merged_cell f n w b.column b.row (b.part.behind + i) (first + y))
    → HasTails f n w b first y new
tails_more f laws n w b first y cell old new lt tails put made cells k from to = elim (cases_lt y k) [
  | inl late ↦ tails_kept f n w b first (y + 1) (y + 2) old new (omega arith) tails put k (omega (arith, late)) to
  | inr early ↦
      let here : y ≡ k = omega (arith, early, from) in
      subst (λ (t : ℕ). HasRowRun f n w b (first + t) (first + b.down) ((t + 2) * b.part.count) new) here (λ i less.
      let count = b.part.count in
      let place : (y + 2) * count + count + i ≡ (y + 1 + 2) * count + i = omega (arith, next (y + 2) count, ap (λ (t : ℕ). t * count) (turn y)) in
      run_before f laws n (merged_cell f n w b.column b.row (b.part.behind + i)) (first + y) (first + (y + 1)) (first + b.down) (get_or old ((y + 1 + 2) * count + i) n) (cell i) (get_or new ((y + 2) * count + i) n) (omega arith) (omega (arith, lt)) (cells i less)
      (made i less ∙ ap (λ (t : ℕ). f (get_or old t n) (cell i)) place) (tails (y + 1) (omega arith) (omega (arith, lt)) i less))
]
  where
    turn : (y : ℕ) → y + 2 + 1 ≡ y + 1 + 2
    turn y = omega arith

-- what a line needs, where a block begins
pub parts_first : {A : Type 0} (f : A → A → A) → IsExtremum f → (n : A) (w : View A) (b : Boxes) (y : ℕ) (cells : List A) → IsSheet n b cells → HasTails f n w b y 0 cells → HasParts f n w b y 0 cells
parts_first f laws n w b y cells sheet tails = record { first = y; place = omega arith; tails = tails; head = head_none f laws n w b (y + b.down) cells sheet }

-- what the next line needs, once its head was written
pub parts_more : {A : Type 0} (f : A → A → A) → IsExtremum f → (n : A) (w : View A) (b : Boxes) (y at : ℕ) (cell : ℕ → A) (old new : List A) → HasParts f n w b y at old → IsPutAt ((at + 1) * b.part.count) b.part.count old new
    → ((i : ℕ) → i < b.part.count → get_or new ((at + 1) * b.part.count + i) n ≡ f (get_or old (at * b.part.count + i) n) (cell i)) → ((i : ℕ) → i < b.part.count → f n (cell i) ≡ merged_cell f n w b.column b.row (b.part.behind + i) (y + b.down))
    → HasParts f n w b (y + 1) (at + 1) new
parts_more f laws n w b y at cell old new parts put made cells = record {
  first = parts.first;
  place = omega (arith, parts.place);
  tails = tails_kept f n w b parts.first (at + 1) (at + 1) old new (omega arith) (λ k from to. parts.tails k (omega (arith, from)) to) put;
  head = λ i lt. run_behind f laws n (merged_cell f n w b.column b.row (b.part.behind + i)) (parts.first + b.down) (y + b.down) (y + 1 + b.down) (get_or old (at * b.part.count + i) n) (cell i) (get_or new ((at + 1) * b.part.count + i) n) (omega arith)
      (omega (arith, parts.place)) (cells i lt) (made i lt) (parts.head i lt);
}

-- the head and the tail make a line
pub parts_joined : {A : Type 0} (f : A → A → A) → IsExtremum f → (n : A) (w : View A) (b : Boxes) (y at i : ℕ) (cells : List A) (r : A) → at < b.down → i < b.part.count → HasParts f n w b y at cells → r ≡ f (get_or cells (at * b.part.count + i) n) (get_or cells ((at + 2) * b.part.count + i) n)
    → IsBest f (merged_cell f n w b.column b.row (b.part.behind + i)) y (y + b.down) r
parts_joined f laws n w b y at i cells r lt less parts r-is =
    let v = merged_cell f n w b.column b.row (b.part.behind + i) in
    let q = get_or cells ((at + 2) * b.part.count + i) n in
    run_joined f laws n v y (parts.first + b.down) (y + b.down) q (get_or cells (at * b.part.count + i) n) r (omega (arith, parts.place, lt)) (omega (arith, parts.place)) (cell_near f laws n w b.column b.row (b.part.behind + i) y) r-is
    (subst (λ (t : ℕ). IsBestWith f n v t (parts.first + b.down) q) parts.place (parts.tails at (omega arith) (omega (arith, lt)) i less))
    (parts.head i less)

-- a row that the view has
pub row_shown : {A : Type 0} (f : A → A → A) (n : A) (w : View A) (b : Boxes) (y : ℕ) (seen : Part) (samples : List A) (stride from i : ℕ) → samples ≡ w.cells → stride ≡ w.place.width → from ≡ seen.ahead * stride + b.part.ahead
    → length w.cells ≡ w.place.height * w.place.width → IsOverlap b.column (wide_of b) w.place.width b.part → IsOverlap (b.row +ℤ pos y) 1 w.place.height seen → 0 < seen.count → i < b.part.count
    → f n (get_or samples (from + i) n) ≡ merged_cell f n w b.column b.row (b.part.behind + i) y
row_shown f n w b y seen samples stride from i samples-is stride-is from-is size across rows some lt =
    let first : y + seen.behind + 0 ≡ y = omega (arith, rows.within, some) in
    let place : from + i ≡ from + 0 * w.place.width + (b.part.behind + i - b.part.behind) = omega arith in
    ap (λ (t : List _). f n (get_or t (from + i) n)) samples-is
    ∙ ap (λ (t : ℕ). f n (get_or w.cells t n)) place
    ∙ sym (cell_shown f n w b.column b.row (wide_of b) y 1 (b.part.behind + i) from 0 b.part seen size across rows (omega arith) (omega (arith, lt)) (from-is ∙ ap (λ (t : ℕ). seen.ahead * t + b.part.ahead) stride-is) some)
    ∙ ap (merged_cell f n w b.column b.row (b.part.behind + i)) first

-- a neutral one in the place of a row that it has not
pub row_absent : {A : Type 0} (f : A → A → A) → IsExtremum f → (n : A) (w : View A) (b : Boxes) (y i : ℕ) (seen : Part) (r : A) → IsOverlap (b.row +ℤ pos y) 1 w.place.height seen → seen.count ≡ 0 → r ≡ n
    → f n r ≡ merged_cell f n w b.column b.row (b.part.behind + i) y
row_absent f laws n w b y i seen r rows none is =
    let v = merged_cell f n w b.column b.row (b.part.behind + i) in
    ap (f n) is
    ∙ laws.is_idempotent n
    ∙ best_unique f laws v y (y + 1) n (v y) (no_rows_best f laws n w b.column b.row y 1 (b.part.behind + i) seen rows none (omega arith)) (best_one f laws v y (y + 1) (v y) refl refl)

-- one line alone
pub line_alone : {A : Type 0} (f : A → A → A) (n : A) (w : View A) (b : Boxes) (y r : ℕ) (cells : List A) → r < 1 → HasLine f n w b y 0 cells → HasLine f n w b (y + r) (r * wide_of b) cells
line_alone f n w b y r cells lt line =
    let one : r ≡ 0 = omega (arith, lt) in
    let row : y + 0 ≡ y = omega arith in
    let start : 0 * wide_of b ≡ 0 = omega arith in
    subst (λ (t : ℕ). HasLine f n w b (y + t) (t * wide_of b) cells) (sym one) (subst (λ (t : ℕ). HasLine f n w b t (0 * wide_of b) cells) (sym row) (subst (λ (t : ℕ). HasLine f n w b y t cells) (sym start) line))
