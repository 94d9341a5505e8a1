-- Columns that enter and leave, and the levels that are found between them.
use Rattle.std.proofs.Common.{◌≡◌, ℕ, pos, ◌+ℤ◌, ◌-ℤ◌, ◌+◌, ◌-◌, ◌*◌, ◌%◌, ◌/◌, ◌<◌, ◌≤◌, inl, inr, List, length, get_or, set, min, ap, sym, arith, ◌∙◌, cond, Bool, subst, get_or-set_same, get_or-set_other}
use Rattle.std.specs.Prelude.{nat_lt}
use Rattle.std.proofs.lemmas.Bool.{cases_lt, lt-ltb}
use Rattle.std.proofs.lemmas.Nat.{div-mul-add, mod-mul-add, mul-add-lt}
use Rattle.mw_model.proofs.mw_facts.Numbers.{one_if}
use Rattle.mw_rank_rows.specs.declared.lanes.Lanes.{Lanes}
use Rattle.mw_rank_rows.specs.declared.search.Front.{Front}
use Rattle.mw_rank_rows.specs.declared.slide.Strip.{Strip}
use Rattle.mw_rank_rows.specs.Lanes.{Counts, IsFound}
use Rattle.mw_rank_rows.specs.Tables.{LanesHold, ShowsColumns, ColumnsSlide, HasFound}
use Rattle.mw_rank_rows.proofs.Marked.{counts_same}
use Rattle.mw_rank_rows.proofs.Sums.{total-same}

-- all samples of a column are below the last level
pub column_whole : {A : Type 0} (level : A → ℕ) (d : A) (levels : ℕ) (column : ℕ → ℕ → ℕ → ℕ) (strip : Strip A) (all : List ℕ) (x at j : ℕ) → j < 8 → at < strip.sheet.width → pos x +ℤ strip.dx -ℤ pos strip.first ≡ pos at → ShowsColumns level d levels column strip all
    → column levels x j ≡ get_or all j 0
column_whole level d levels column strip all x at j lt across is s =
    let samples = strip.sheet.samples.now in
    let marks = strip.sheet.marks.now in
    let width = strip.sheet.width in
    s.seen x at levels j lt across is
    ∙ total-same (λ i. get_or marks (i + j) 0 * cond (nat_lt (level (get_or samples (i * width + at) d)) levels) 1 0) (λ i. get_or marks (i + j) 0) strip.sheet.rows
    (λ i less.
    ap (λ (b : Bool). get_or marks (i + j) 0 * one_if b) (lt-ltb (level (get_or samples (i * width + at) d)) levels (s.under (i * width + at) (s.inside i at less across)))
    ∙ (let e : get_or marks (i + j) 0 * 1 ≡ get_or marks (i + j) 0 = omega arith in e))
    ∙ sym (s.every j lt)

-- the counters hold, where the numbers of samples are said in another way
pub holds_same : (levels : ℕ) (u w : ℕ → ℕ → ℕ) (counts : List ℕ) (l : Lanes) → ((v j : ℕ) → j < 8 → w v j ≡ u v j) → LanesHold levels u counts l → LanesHold levels w counts l
holds_same levels u w counts l same t = record {
  table = counts_same levels u w counts l.front.level l.front.below same t.table;
  lanes = t.lanes;
  held = λ j lt. omega (arith, t.held j lt, same levels j lt);
}

-- two places of rows of one width that are equal lie in one row and one column
pub same_column : (r q s at width : ℕ) → q < width → at < width → r * width + q ≡ s * width + at → q ≡ at
same_column r q s at width lt less is = sym (mod-mul-add r width q lt) ∙ ap (λ (p : ℕ). p % width) is ∙ mod-mul-add s width at less

pub same_row : (r q s at width : ℕ) → q < width → at < width → r * width + q ≡ s * width + at → r ≡ s
same_row r q s at width lt less is = sym (div-mul-add r width q lt) ∙ ap (λ (p : ℕ). p / width) is ∙ div-mul-add s width at less

-- one row more of a column has been written
pub put_more : {A : Type 0} (level : A → ℕ) (made : List A) (width at r : ℕ) (lanes : List ℕ) (a : A) → length made ≡ 8 * width → at < width → r < 8 → level a ≡ get_or lanes (7 - r) 0
    → ((q : ℕ) (e : A) → q < r → level (get_or made (q * width + at) e) ≡ get_or lanes (7 - q) 0) → (q : ℕ) (e : A) → q < r + 1 → level (get_or (set made (r * width + at) a) (q * width + at) e) ≡ get_or lanes (7 - q) 0
put_more level made width at r lanes a whole across down a-is before q e lt = elim (cases_lt q r) [
  | inl early ↦ ap level (get_or-set_other made (r * width + at) (q * width + at) a e (λ same. absurd (let row : q ≡ r = same_row q at r at width across across same in omega arith))) ∙ before q e early
  | inr late ↦
      let here : q ≡ r = omega arith in
      ap (λ (t : ℕ). level (get_or (set made (r * width + at) a) (t * width + at) e)) here
      ∙ ap level (get_or-set_same made (r * width + at) a e (omega (arith, whole, mul-add-lt r width at 8 down across)))
      ∙ a-is
      ∙ ap (λ (t : ℕ). get_or lanes (7 - t) 0) (sym here)
]

pub put_others : {A : Type 0} (made : List A) (width at r : ℕ) (a : A) → at < width → (s q : ℕ) (e : A) → q < width → (q ≡ at → ⊥) → get_or (set made (r * width + at) a) (s * width + q) e ≡ get_or made (s * width + q) e
put_others made width at r a across s q e lt other = get_or-set_other made (r * width + at) (s * width + q) a e (λ same. other (same_column s q r at width lt across same))

-- the levels of one column more are found
pub found_more : {A : Type 0} (level : A → ℕ) (levels : ℕ) (seen : ℕ → ℕ → ℕ → ℕ → ℕ) (columns k x width i : ℕ) (old new : List A) (lanes n : List ℕ) → i < width
    → ((r q : ℕ) (e : A) → q < width → (q ≡ i → ⊥) → get_or new (r * width + q) e ≡ get_or old (r * width + q) e) → ((r : ℕ) (e : A) → r < 8 → level (get_or new (r * width + i) e) ≡ get_or lanes (7 - r) 0)
    → ((j : ℕ) → j < 8 → get_or n j 0 ≡ min k (seen levels (x + i) columns j)) → ((j : ℕ) → j < 8 → IsFound levels (λ v j. seen v (x + i) columns j) (get_or n j 0) j (get_or lanes j 0)) → HasFound level levels seen columns k x width i old
    → HasFound level levels seen columns k x width (i + 1) new
found_more level levels seen columns k x width i old new lanes n lt others put n-is found before r q e down less = elim (cases_lt q i) [
  | inl early ↦
      subst (λ (s : ℕ). IsFound levels (λ v j. seen v (x + q) columns j) (min k (seen levels (x + q) columns (7 - r))) (7 - r) s)
      (ap level (sym (others r q e (omega arith) (λ same. absurd (omega arith))))) (before r q e down early)
  | inr late ↦
      let here : i ≡ q = omega arith in
      let found-here : IsFound levels (λ v j. seen v (x + i) columns j) (min k (seen levels (x + i) columns (7 - r))) (7 - r) (level (get_or new (r * width + i) e)) =
      subst (λ (s : ℕ). IsFound levels (λ v j. seen v (x + i) columns j) (min k (seen levels (x + i) columns (7 - r))) (7 - r) s) (sym (put r e down))
      (subst (λ (m : ℕ). IsFound levels (λ v j. seen v (x + i) columns j) m (7 - r) (get_or lanes (7 - r) 0)) (n-is (7 - r) (omega arith)) (found (7 - r) (omega arith))) in
      subst (λ (p : ℕ). IsFound levels (λ v j. seen v (x + p) columns j) (min k (seen levels (x + p) columns (7 - r))) (7 - r) (level (get_or new (r * width + p) e))) here found-here
]

-- the counters hold, where the columns are said in another way
pub seen_from : (levels : ℕ) (seen : ℕ → ℕ → ℕ → ℕ → ℕ) (counts : List ℕ) (l : Lanes) (x y n m : ℕ) → x ≡ y → n ≡ m → LanesHold levels (λ v j. seen v x n j) counts l → LanesHold levels (λ v j. seen v y m j) counts l
seen_from levels seen counts l x y n m from count t = subst (λ (p : ℕ). LanesHold levels (λ v j. seen v p m j) counts l) from (subst (λ (p : ℕ). LanesHold levels (λ v j. seen v x p j) counts l) count t)

-- the front moves, and the lanes keep their samples
pub held_front : (levels : ℕ) (u : ℕ → ℕ → ℕ) (counts : List ℕ) (l : Lanes) (f : Front) → Counts levels u counts f.level f.below → LanesHold levels u counts l → LanesHold levels u counts (record { front = f; held = l.held })
held_front levels u counts l f table t = record { table = table; lanes = t.lanes; held = t.held }

-- the first column is taken back
pub step_left : (columns : ℕ) (column : ℕ → ℕ → ℕ → ℕ) (seen : ℕ → ℕ → ℕ → ℕ → ℕ) (p x v j : ℕ) → 1 ≤ columns → x ≡ p → ColumnsSlide columns column seen → seen v p columns j ≡ seen v (p + 1) (columns - 1) j + column v x j
step_left columns column seen p x v j some x-is s =
    ap (λ (m : ℕ). seen v p m j) (let e : columns ≡ columns - 1 + 1 = omega arith in e) ∙ s.leaves v p (columns - 1) j ∙ omega (arith, ap (λ (q : ℕ). column v q j) x-is)

-- the next column is counted
pub step_entered : (columns : ℕ) (column : ℕ → ℕ → ℕ → ℕ) (seen : ℕ → ℕ → ℕ → ℕ → ℕ) (p x v j : ℕ) → 1 ≤ columns → x ≡ p + columns → ColumnsSlide columns column seen → seen v (p + 1) columns j ≡ seen v (p + 1) (columns - 1) j + column v x j
step_entered columns column seen p x v j some x-is s =
    ap (λ (m : ℕ). seen v (p + 1) m j) (let e : columns ≡ columns - 1 + 1 = omega arith in e)
    ∙ s.enters v (p + 1) (columns - 1) j
    ∙ ap (λ (m : ℕ). seen v (p + 1) (columns - 1) j + column v m j) (let e : p + 1 + (columns - 1) ≡ x = omega arith in e)
