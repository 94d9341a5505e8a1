-- Lines, of which the part is written that the view's place has.
use Rattle.std.proofs.Common.{◌≡◌, ◌⊎◌, ℕ, ◌+◌, ◌-◌, ◌*◌, ◌<◌, ◌≤◌, pos, ◌+ℤ◌, List, length, get_or, inl, inr, refl, ap, sym, subst, arith, ◌∙◌}
use Rattle.std.proofs.lemmas.Bool.{cases_lt}
use Rattle.mw_model.specs.Windows.{View}
use Rattle.mw_line.specs.Cells.{merged_cell}
use Rattle.mw_line.proofs.Folds.{IsExtremum}
use Rattle.mw_line_lent.specs.declared.boxes.Boxes.{Boxes}
use Rattle.mw_line_lent.specs.declared.boxes.Part.{Part}
use Rattle.mw_line_lent.specs.Bests.{IsBest}
use Rattle.mw_line_lent.specs.Parts.{IsOverlap}
use Rattle.mw_line_lent.specs.Boxes.{HasLine, HasLines, IsBlank, IsPutAt, IsPutInRows, wide_of}
use Rattle.mw_line_lent.proofs.Bests.{best_at, best_same}
use Rattle.mw_line_lent.proofs.Puts.{rows_le}
use Rattle.mw_line_lent.proofs.Columns.{column_best, column_shown, no_column_best}

-- what was written in one line's part lies beside the neutral cells
beside : {A : Type 0} (n : A) (b : Boxes) (q r x at : ℕ) (old new : List A) → at ≡ q * wide_of b + b.part.behind → b.part.behind + b.part.count ≤ wide_of b → x < wide_of b → (x < b.part.behind → get_or old (r * wide_of b + x) n ≡ n)
    → (b.part.behind + b.part.count ≤ x → get_or old (r * wide_of b + x) n ≡ n) → IsPutAt at b.part.count old new → (x < b.part.behind → get_or new (r * wide_of b + x) n ≡ n) × (b.part.behind + b.part.count ≤ x → get_or new (r * wide_of b + x) n ≡ n)
beside n b q r x at old new at-is fits across low high put = elim (cases_lt r q) [
  | inl above ↦
      let more = rows_le (r + 1) q (wide_of b) (omega (arith, above)) in
      let place : r * wide_of b + x < at = omega (arith, at-is, more, split r (wide_of b), across) in (
        λ early. put.before (r * wide_of b + x) n place ∙ low early,
        λ late. put.before (r * wide_of b + x) n place ∙ high late,
      )
  | inr not_above ↦ elim (cases_lt q r) [
    | inl below ↦
        let more = rows_le (q + 1) r (wide_of b) (omega (arith, below)) in
        let place : at + b.part.count ≤ r * wide_of b + x = omega (arith, at-is, more, split q (wide_of b), fits) in (
          λ early. put.behind (r * wide_of b + x) n place ∙ low early,
          λ late. put.behind (r * wide_of b + x) n place ∙ high late,
        )
    | inr not_below ↦
        let same : r * wide_of b ≡ q * wide_of b = ap (λ (t : ℕ). t * wide_of b) (omega (arith, not_above, not_below)) in (
          λ early. put.before (r * wide_of b + x) n (omega (arith, at-is, same, early)) ∙ low early,
          λ late. put.behind (r * wide_of b + x) n (omega (arith, at-is, same, late)) ∙ high late,
        )
  ]
]
  where
    split : (a m : ℕ) → (a + 1) * m ≡ a * m + m
    split a m = omega arith

pub blank_kept : {A : Type 0} (n : A) (b : Boxes) (q at : ℕ) (old new : List A) → at ≡ q * wide_of b + b.part.behind → b.part.behind + b.part.count ≤ wide_of b → IsBlank n b old → IsPutAt at b.part.count old new → IsBlank n b new
blank_kept n b q at old new at-is fits blank put = record {
  size = put.size ∙ blank.size;
  before = λ r x lt early. (beside n b q r x at old new at-is fits (omega (arith, early, fits)) (λ e. blank.before r x lt e) (λ l. absurd (omega (arith, early, l))) put).0 early;
  after = λ r x lt late across. (beside n b q r x at old new at-is fits across (λ e. absurd (omega (arith, e, late))) (λ l. blank.after r x lt l across) put).1 late;
}

line_here : {A : Type 0} (f : A → A → A) → IsExtremum f → (n : A) (w : View A) (b : Boxes) (y q : ℕ) (cells : List A) → 0 < b.down → q < 4 → IsOverlap b.column (wide_of b) w.place.width b.part → IsBlank n b cells
    → ((i : ℕ) → i < b.part.count → IsBest f (merged_cell f n w b.column b.row (b.part.behind + i)) y (y + b.down) (get_or cells (q * wide_of b + b.part.behind + i) n)) → HasLine f n w b y (q * wide_of b) cells
line_here f laws n w b y q cells some lt across blank made x less = elim (cases_lt x b.part.behind) [
  | inl early ↦ subst (IsBest f (merged_cell f n w b.column b.row x) y (y + b.down)) (sym (blank.before q x lt early)) (no_column_best f laws n w b.column b.row (wide_of b) y b.down x b.part across some less (inl early))
  | inr not_early ↦ elim (cases_lt x (b.part.behind + b.part.count)) [
    | inl here ↦
        let i = x - b.part.behind in
        let place : b.part.behind + i ≡ x = omega (arith, not_early) in
        let there : q * wide_of b + b.part.behind + i ≡ q * wide_of b + x = omega (arith, not_early) in
        subst (λ (t : ℕ). IsBest f (merged_cell f n w b.column b.row t) y (y + b.down) (get_or cells (q * wide_of b + x) n)) place
        (subst (λ (t : ℕ). IsBest f (merged_cell f n w b.column b.row (b.part.behind + i)) y (y + b.down) (get_or cells t n)) there (made i (omega (arith, not_early, here))))
    | inr late ↦ subst (IsBest f (merged_cell f n w b.column b.row x) y (y + b.down)) (sym (blank.after q x lt late less)) (no_column_best f laws n w b.column b.row (wide_of b) y b.down x b.part across some less (inr late))
  ]
]

pub line_made : {A : Type 0} (f : A → A → A) → IsExtremum f → (n : A) (w : View A) (b : Boxes) (y q at : ℕ) (cells : List A) → at ≡ q * wide_of b → 0 < b.down → q < 4 → IsOverlap b.column (wide_of b) w.place.width b.part → IsBlank n b cells
    → ((i : ℕ) → i < b.part.count → IsBest f (merged_cell f n w b.column b.row (b.part.behind + i)) y (y + b.down) (get_or cells (q * wide_of b + b.part.behind + i) n)) → HasLine f n w b y at cells
line_made f laws n w b y q at cells at-is some lt across blank made = subst (λ (t : ℕ). HasLine f n w b y t cells) (sym at-is) (line_here f laws n w b y q cells some lt across blank made)

-- all cells are neutral at first
pub blank_first : {A : Type 0} (n : A) (b : Boxes) (cells : List A) → length cells ≡ 4 * wide_of b → ((p : ℕ) → get_or cells p n ≡ n) → IsBlank n b cells
blank_first n b cells size all = record { size = size; before = λ r x lt early. all (r * wide_of b + x); after = λ r x lt late across. all (r * wide_of b + x) }

-- a line is neutral beside its part, where its first cells and its last ones were written
pub line_begun : {A : Type 0} (n : A) (wide behind end q r x : ℕ) (old mid new : List A) → behind ≤ end → IsPutAt (q * wide) behind old mid → ((i : ℕ) → i < behind → get_or mid (q * wide + i) n ≡ n) → IsPutAt (q * wide + end) (wide - end) mid new
    → ((i : ℕ) → i < wide - end → get_or new (q * wide + end + i) n ≡ n) → r < q + 1 → x < wide → (x < behind) ⊎ (end ≤ x) → (r < q → get_or old (r * wide + x) n ≡ n) → get_or new (r * wide + x) n ≡ n
line_begun n wide behind end q r x old mid new le first first-made last last-made lt across side before = elim (cases_lt r q) [
  | inl above ↦
      let more = rows_le (r + 1) q wide (omega (arith, above)) in
      let place : r * wide + x < q * wide = omega (arith, more, next r wide, across) in
      last.before (r * wide + x) n (omega (arith, place)) ∙ first.before (r * wide + x) n place ∙ before above
  | inr not_above ↦
      let same : q * wide ≡ r * wide = ap (λ (t : ℕ). t * wide) (omega (arith, not_above, lt)) in
      elim side [
        | inl early ↦
            let place : q * wide + x ≡ r * wide + x = omega (arith, same) in
            subst (λ (p : ℕ). get_or new p n ≡ n) place (last.before (q * wide + x) n (omega (arith, early, le)) ∙ first-made x early)
        | inr late ↦
            let place : q * wide + end + (x - end) ≡ r * wide + x = omega (arith, same, late) in
            subst (λ (p : ℕ). get_or new p n ≡ n) place (last-made (x - end) (omega (arith, late, across)))
      ]
]
  where
    next : (a m : ℕ) → (a + 1) * m ≡ a * m + m
    next a m = omega arith

-- what was written in the parts of some lines lies beside the neutral cells
pub blank_kept_in_rows : {A : Type 0} (n : A) (b : Boxes) (rows : ℕ) (old new : List A) → b.part.behind + b.part.count ≤ wide_of b → IsBlank n b old → IsPutInRows rows b.part.behind b.part.count (wide_of b) old new → IsBlank n b new
blank_kept_in_rows n b rows old new fits blank put = record {
  size = put.size ∙ blank.size;
  before = λ r x lt early. put.kept (r * wide_of b + x) n (λ q q-lt. elim (cases_lt q r) [
    | inl above ↦
        let more = rows_le (q + 1) r (wide_of b) (omega (arith, above)) in
        inr (omega (arith, more, next q (wide_of b), fits))
    | inr below ↦
        let more = rows_le r q (wide_of b) below in
        inl (omega (arith, more, early))
  ]) ∙ blank.before r x lt early;
  after = λ r x lt late across. put.kept (r * wide_of b + x) n (λ q q-lt. elim (cases_lt r q) [
    | inl above ↦
        let more = rows_le (r + 1) q (wide_of b) (omega (arith, above)) in
        inl (omega (arith, more, next r (wide_of b), across))
    | inr below ↦
        let more = rows_le q r (wide_of b) below in
        inr (omega (arith, more, late))
  ]) ∙ blank.after r x lt late across;
}
  where
    next : (a m : ℕ) → (a + 1) * m ≡ a * m + m
    next a m = omega arith

-- a column of the rows that are read is one of the view's
same_reads : {A : Type 0} (f : A → A → A) (n : A) (w : View A) (b : Boxes) (seen : Part) (samples : List A) (stride from i j : ℕ) → samples ≡ w.cells → stride ≡ w.place.width
    → f n (get_or samples (from + j * stride + i) n) ≡ f n (get_or w.cells (from + j * w.place.width + (b.part.behind + i - b.part.behind)) n)
same_reads f n w b seen samples stride from i j samples-is stride-is =
    let place : from + j * stride + i ≡ from + j * w.place.width + (b.part.behind + i - b.part.behind) = omega (arith, ap (λ (t : ℕ). j * t) stride-is) in
    ap (λ (t : List _). f n (get_or t (from + j * stride + i) n)) samples-is ∙ ap (λ (t : ℕ). f n (get_or w.cells t n)) place

pub column_read : {A : Type 0} (f : A → A → A) → IsExtremum f → (n : A) (w : View A) (b : Boxes) (y : ℕ) (seen : Part) (samples : List A) (stride from i : ℕ) (r : A) → samples ≡ w.cells → stride ≡ w.place.width → from ≡ seen.ahead * stride + b.part.ahead
    → length w.cells ≡ w.place.height * w.place.width → IsOverlap b.column (wide_of b) w.place.width b.part → IsOverlap (b.row +ℤ pos y) b.down w.place.height seen → 0 < seen.count → i < b.part.count
    → IsBest f (λ j. f n (get_or samples (from + j * stride + i) n)) 0 seen.count r → IsBest f (merged_cell f n w b.column b.row (b.part.behind + i)) y (y + b.down) r
column_read f laws n w b y seen samples stride from i r samples-is stride-is from-is size across rows some lt best =
    column_best f laws n w b.column b.row (wide_of b) y b.down (b.part.behind + i) from b.part seen r size across rows some (omega arith) (omega (arith, lt)) (from-is ∙ ap (λ (t : ℕ). seen.ahead * t + b.part.ahead) stride-is)
    (best_same f (λ j. f n (get_or samples (from + j * stride + i) n)) (λ j. f n (get_or w.cells (from + j * w.place.width + (b.part.behind + i - b.part.behind)) n)) 0 seen.count r
    (λ j low high. same_reads f n w b seen samples stride from i j samples-is stride-is) best)

-- where all rows are there from row y on
pub column_of_rows : {A : Type 0} (f : A → A → A) (n : A) (w : View A) (b : Boxes) (y long r : ℕ) (seen : Part) (samples : List A) (stride from i : ℕ) (best : A) → samples ≡ w.cells → stride ≡ w.place.width → from ≡ seen.ahead * stride + b.part.ahead
    → length w.cells ≡ w.place.height * w.place.width → IsOverlap b.column (wide_of b) w.place.width b.part → IsOverlap (b.row +ℤ pos y) long w.place.height seen → seen.behind ≡ 0 → r + b.down ≤ seen.count → i < b.part.count
    → IsBest f (λ j. f n (get_or samples (from + j * stride + i) n)) r (r + b.down) best → IsBest f (merged_cell f n w b.column b.row (b.part.behind + i)) (y + r) (y + r + b.down) best
column_of_rows f n w b y long r seen samples stride from i best samples-is stride-is from-is size across rows first fits lt is =
    best_at f (merged_cell f n w b.column b.row (b.part.behind + i)) (y + r) (y + (r + b.down)) (y + r) (y + r + b.down) best best refl (omega arith) refl
    (column_shown f n w b.column b.row (wide_of b) y long (b.part.behind + i) from r (r + b.down) b.part seen best size across rows first fits (omega arith) (omega (arith, lt)) (from-is ∙ ap (λ (t : ℕ). seen.ahead * t + b.part.ahead) stride-is)
    (best_same f (λ j. f n (get_or samples (from + j * stride + i) n)) (λ j. f n (get_or w.cells (from + j * w.place.width + (b.part.behind + i - b.part.behind)) n)) r (r + b.down) best
    (λ j low high. same_reads f n w b seen samples stride from i j samples-is stride-is) is))

-- some lines, where the place has all rows of their boxes
pub lines_of_rows : {A : Type 0} (f : A → A → A) → IsExtremum f → (n : A) (w : View A) (b : Boxes) (y rows long : ℕ) (seen : Part) (samples : List A) (stride from : ℕ) (cells : List A) → rows ≤ 4 → samples ≡ w.cells → stride ≡ w.place.width
    → from ≡ seen.ahead * stride + b.part.ahead → length w.cells ≡ w.place.height * w.place.width → IsOverlap b.column (wide_of b) w.place.width b.part → IsOverlap (b.row +ℤ pos y) long w.place.height seen → seen.behind ≡ 0 → b.down + rows ≤ seen.count + 1 → 0 < b.down
    → IsBlank n b cells → ((r i : ℕ) → r < rows → i < b.part.count → IsBest f (λ j. f n (get_or samples (from + j * stride + i) n)) r (r + b.down) (get_or cells (b.part.behind + r * wide_of b + i) n)) → HasLines f n w b y rows cells
lines_of_rows f laws n w b y rows long seen samples stride from cells four samples-is stride-is from-is size across shown first fits some blank made r few =
    line_made f laws n w b (y + r) r (r * wide_of b) cells refl some (omega (arith, few, four)) across blank
    (λ i lt.
    let place : b.part.behind + r * wide_of b + i ≡ r * wide_of b + b.part.behind + i = omega arith in
    subst (λ (t : ℕ). IsBest f (merged_cell f n w b.column b.row (b.part.behind + i)) (y + r) (y + r + b.down) (get_or cells t n)) place
    (column_of_rows f n w b y long r seen samples stride from i _ samples-is stride-is from-is size across shown first (omega (arith, few, fits)) lt (made r i few lt)))

-- one line alone
pub lines_alone : {A : Type 0} (f : A → A → A) (n : A) (w : View A) (b : Boxes) (y : ℕ) (cells : List A) → HasLine f n w b y 0 cells → HasLines f n w b y 1 cells
lines_alone f n w b y cells line r lt =
    let one : r ≡ 0 = omega (arith, lt) in
    let row : y + 0 ≡ y = omega arith in
    let start : 0 * wide_of b ≡ 0 = omega arith in
    subst (λ (t : ℕ). HasLine f n w b (y + t) (t * wide_of b) cells) (sym one) (subst (λ (t : ℕ). HasLine f n w b t (0 * wide_of b) cells) (sym row) (subst (λ (t : ℕ). HasLine f n w b y t cells) (sym start) line))
