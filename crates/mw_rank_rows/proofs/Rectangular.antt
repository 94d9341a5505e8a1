-- What eight rows of results see under a rectangle, row of samples by row.
use Rattle.std.proofs.Common.{◌≡◌, ℕ, pos, ◌+ℤ◌, zero, suc, ◌+◌, ◌-◌, ◌*◌, ◌<◌, ◌≤◌, List, [], ◌∷◌, ◌++◌, length, get_or, take, refl, ap, arith, ◌∙◌, length-append, append-nil}
use Rattle.std.specs.Prelude.{nat_lt}
use Rattle.std.proofs.lemmas.List.{take_more}
use Rattle.std.proofs.lemmas.List.Concat.{flat_map-cons}
use Rattle.std.proofs.lemmas.List.Sums.{count_by-le-length}
use Rattle.mw_model.specs.declared.offsets.Offset.{Offset}
use Rattle.mw_model.specs.Rasters.{Sight}
use Rattle.mw_rank_counts.specs.mw_rank.Ranks.{levels_under, levels_at}
use Rattle.mw_rank_counts.specs.mw_rank.Runs.{offsets_from, offsets_of_run, element_of, next_offset}
use Rattle.mw_rank_counts.specs.mw_rank.Tallies.{count_under}
use Rattle.mw_rank_counts.proofs.mw_rank.Counts.{count-append, count_rises}
use Rattle.mw_rank_counts.proofs.mw_rank.Moves.{element_snoc}
use Rattle.mw_rank_counts.proofs.mw_rank.Sights.{levels-cons, levels-append, levels-next, levels_at-on, offset_on, offsets-snoc, length-levels, length-offsets}
use Rattle.mw_rank_counts.specs.mw_element_runs.declared.runs.Run.{Run}
use Rattle.mw_rank_counts.specs.mw_element_runs.Runs.{start_offset}
use Rattle.mw_rank_rows.specs.declared.rectangle.Rectangle.{Rectangle}
use Rattle.mw_rank_rows.specs.Columns.{total}
use Rattle.mw_rank_rows.specs.Rectangles.{row_start, offsets_of_rows}
use Rattle.mw_rank_rows.specs.Tables.{ColumnsSlide}
use Rattle.mw_rank_rows.proofs.Sums.{total-same, total-none, total-plus, total-rises, total-within}

-- one run more is a row of the rectangle
pub row_more : (t : Rectangle) (runs : List Run) (i : ℕ) (r : Run) → i < length runs → get_or runs i r ≡ r → r.dx ≡ t.dx → r.count ≡ t.columns → r.dy ≡ t.dy +ℤ pos i → 1 ≤ t.columns → element_of (take i runs) ≡ offsets_of_rows t i → element_of (take (i + 1) runs) ≡ offsets_of_rows t (i + 1)
row_more t runs i r lt is dx columns dy some before =
    ap element_of (take_more runs i r lt ∙ ap (λ (q : Run). take i runs ++ q ∷ []) is)
    ∙ element_snoc (take i runs) r
    ∙ ap (λ (l : List Offset). l ++ offsets_of_run r) before
    ∙ ap (λ (b : Offset). offsets_of_rows t i ++ offsets_from b (suc (r.count - 1))) (start r t i dx dy)
    ∙ ap (λ (n : ℕ). offsets_of_rows t i ++ offsets_from (row_start t i) n) (let e : suc (r.count - 1) ≡ t.columns = omega arith in e)
    ∙ ap (offsets_of_rows t) (let e : suc i ≡ i + 1 = omega arith in e)
  where
    start : (r : Run) (t : Rectangle) (i : ℕ) → r.dx ≡ t.dx → r.dy ≡ t.dy +ℤ pos i → start_offset r ≡ row_start t i
    start r t i dx dy = cc

-- the samples below v in c columns from x on, and in the one at x, of the row of results j rows before the last of eight
abbrev pub seen_below : {A : Type 0} → (A → ℕ) → Sight A → Rectangle → ℕ → ℕ → ℕ → ℕ → ℕ → ℕ
seen_below level sight t y v x c j = total (λ r. count_under v (levels_under level sight (offsets_from (row_start t r) c) x (y + (7 - j)))) t.rows

abbrev pub column_below : {A : Type 0} → (A → ℕ) → Sight A → Rectangle → ℕ → ℕ → ℕ → ℕ → ℕ
column_below level sight t y v x j = total (λ r. count_under v (levels_at level sight (row_start t r) x (y + (7 - j)))) t.rows

pub length-offsets_in : (t : Rectangle) (n : ℕ) → length (offsets_of_rows t n) ≡ n * t.columns
length-offsets_in t zero = omega arith
length-offsets_in t (suc n) = omega (arith, length-append (offsets_of_rows t n) (offsets_from (row_start t n) t.columns), length-offsets_in t n, length-offsets (row_start t n) t.columns, more n t.columns)
  where
    more : (n b : ℕ) → suc n * b ≡ n * b + b
    more n b = grind arith

-- all columns of the rectangle are all of its offsets
pub seen_whole : {A : Type 0} (level : A → ℕ) (sight : Sight A) (t : Rectangle) (v x y n : ℕ) → count_under v (levels_under level sight (offsets_of_rows t n) x y) ≡ total (λ r. count_under v (levels_under level sight (offsets_from (row_start t r) t.columns) x y)) n
seen_whole level sight t v x y zero = refl
seen_whole level sight t v x y (suc n) =
    omega (
      arith,
      ap (count_under v) (levels-append level sight (offsets_of_rows t n) (offsets_from (row_start t n) t.columns) x y),
      count-append v (levels_under level sight (offsets_of_rows t n) x y) (levels_under level sight (offsets_from (row_start t n) t.columns) x y),
      seen_whole level sight t v x y n,
    )

-- a row of offsets sees what one shorter sees, and one column more
row_enters : {A : Type 0} (level : A → ℕ) (sight : Sight A) (b : Offset) (v x y c : ℕ) → count_under v (levels_under level sight (offsets_from b (c + 1)) x y) ≡ count_under v (levels_under level sight (offsets_from b c) x y) + count_under v (levels_at level sight b (x + c) y)
row_enters level sight b v x y c =
    ap (λ (n : ℕ). count_under v (levels_under level sight (offsets_from b n) x y)) (let e : c + 1 ≡ suc c = omega arith in e)
    ∙ ap (λ (l : List Offset). count_under v (levels_under level sight l x y)) (offsets-snoc b c)
    ∙ ap (count_under v) (levels-append level sight (offsets_from b c) (offset_on b c ∷ []) x y ∙ ap (λ (l : List ℕ). levels_under level sight (offsets_from b c) x y ++ l) (levels-cons level sight (offset_on b c) [] x y ∙ append-nil _ ∙ levels_at-on level sight b c x y))
    ∙ count-append v (levels_under level sight (offsets_from b c) x y) (levels_at level sight b (x + c) y)

-- it sees its first column, and what one shorter sees from the next column on
row_leaves : {A : Type 0} (level : A → ℕ) (sight : Sight A) (b : Offset) (v x y c : ℕ) → count_under v (levels_under level sight (offsets_from b (c + 1)) x y) ≡ count_under v (levels_at level sight b x y) + count_under v (levels_under level sight (offsets_from b c) (x + 1) y)
row_leaves level sight b v x y c =
    ap (λ (n : ℕ). count_under v (levels_under level sight (offsets_from b n) x y)) (let e : c + 1 ≡ suc c = omega arith in e)
    ∙ ap (count_under v) (levels-cons level sight b (offsets_from (next_offset b) c) x y ∙ ap (λ (l : List ℕ). levels_at level sight b x y ++ l) (levels-next level sight b c x y))
    ∙ count-append v (levels_at level sight b x y) (levels_under level sight (offsets_from b c) (x + 1) y)

pub slides : {A : Type 0} (level : A → ℕ) (sight : Sight A) (t : Rectangle) (y : ℕ) → length (offsets_of_rows t t.rows) < 65536 → ColumnsSlide t.columns (column_below level sight t y) (seen_below level sight t y)
slides level sight t y few = record {
  none = λ v x j. total-none (λ r. count_under v (levels_under level sight (offsets_from (row_start t r) 0) x (y + (7 - j)))) t.rows (λ r lt. refl);
  enters = λ v x c j.
      total-same _ (λ r. count_under v (levels_under level sight (offsets_from (row_start t r) c) x (y + (7 - j))) + count_under v (levels_at level sight (row_start t r) (x + c) (y + (7 - j)))) t.rows (λ r lt. row_enters level sight (row_start t r) v x (y + (7 - j)) c)
      ∙ total-plus (λ r. count_under v (levels_under level sight (offsets_from (row_start t r) c) x (y + (7 - j)))) (λ r. count_under v (levels_at level sight (row_start t r) (x + c) (y + (7 - j)))) t.rows;
  leaves = λ v x c j.
      total-same _ (λ r. count_under v (levels_at level sight (row_start t r) x (y + (7 - j))) + count_under v (levels_under level sight (offsets_from (row_start t r) c) (x + 1) (y + (7 - j)))) t.rows (λ r lt. row_leaves level sight (row_start t r) v x (y + (7 - j)) c)
      ∙ total-plus (λ r. count_under v (levels_at level sight (row_start t r) x (y + (7 - j)))) (λ r. count_under v (levels_under level sight (offsets_from (row_start t r) c) (x + 1) (y + (7 - j)))) t.rows;
  rises = λ v x c j.
      total-rises (λ r. count_under v (levels_under level sight (offsets_from (row_start t r) c) x (y + (7 - j)))) (λ r. count_under (v + 1) (levels_under level sight (offsets_from (row_start t r) c) x (y + (7 - j)))) t.rows
      (λ r lt. count_rises v (levels_under level sight (offsets_from (row_start t r) c) x (y + (7 - j))));
  few = λ v x c j within.
      let all = total-within (λ r. count_under v (levels_under level sight (offsets_from (row_start t r) c) x (y + (7 - j)))) t.rows t.columns
      (λ r lt.
      omega (
        arith,
        count_by-le-length (λ s. nat_lt s v) (levels_under level sight (offsets_from (row_start t r) c) x (y + (7 - j))),
        length-levels level sight (offsets_from (row_start t r) c) x (y + (7 - j)),
        length-offsets (row_start t r) c,
      )) in
      omega (arith, all, length-offsets_in t t.rows);
}

-- an element has no more runs than offsets
pub runs_few : (runs : List Run) → length runs ≤ length (element_of runs)
runs_few [] = omega arith
runs_few (r ∷ runs) = omega (arith, ap length (flat_map-cons offsets_of_run r runs), length-append (offsets_of_run r) (element_of runs), length-offsets (start_offset r) (suc (r.count - 1)), runs_few runs)
