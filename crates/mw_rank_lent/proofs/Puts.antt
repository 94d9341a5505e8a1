-- Cells that are written one after another.
use Rattle.std.proofs.Common.{◌≡◌, ℕ, ◌+◌, ◌-◌, ◌*◌, ◌<◌, ◌≤◌, List, length, get_or, ap, sym, subst, arith, ◌∙◌, inl, inr, get_or-set_other, get_or-set_same}
use Rattle.std.specs.Prelude.{slice_set}
use borrow.Rule.Slice.PartMut.{put_mid}
use Rattle.std.proofs.lemmas.Bool.{cases_lt}
use Rattle.std.proofs.lemmas.List.{get_or_default}
use Rattle.std.proofs.lemmas.Nat.{mul-add-lt}
use Rattle.mw_model.proofs.mw_facts.Parts.{get_or-put_mid_below, get_or-put_mid_within}
use Rattle.mw_rank_medians.specs.mw_rank.Ranks.{HasRows}
use Rattle.mw_rank_lent.specs.Middles.{AreRowsMade, PutsCells, PutsRows}

-- one cell more of which something holds
pub set_more : {A : Type 0} (Q : ℕ → A → Type 0) (d : A) (n : ℕ) (cells : List A) (s : A) → n < length cells → Q n s → ((j : ℕ) → j < n → Q j (get_or cells j d)) → (j : ℕ) → j < n + 1 → Q j (get_or (slice_set cells n s) j d)
set_more Q d n cells s within is before j lt = elim (cases_lt j n) [
  | inl low ↦ subst (Q j) (sym (get_or-set_other cells n j s d (omega (arith, low)))) (before j low)
  | inr high ↦
      let here : j ≡ n = omega (arith, high, lt) in
      subst (λ (t : ℕ). Q t (get_or (slice_set cells n s) t d)) (sym here) (subst (Q n) (sym (get_or-set_same cells n s d within)) is)
]

-- the same from a place on
pub set_on : {A : Type 0} (Q : ℕ → A → Type 0) (d : A) (at n : ℕ) (cells : List A) (s : A) → at + n < length cells → Q n s → ((j : ℕ) → j < n → Q j (get_or cells (at + j) d)) → (j : ℕ) → j < n + 1 → Q j (get_or (slice_set cells (at + n) s) (at + j) d)
set_on Q d at n cells s within is before j lt = elim (cases_lt j n) [
  | inl low ↦ subst (Q j) (sym (get_or-set_other cells (at + n) (at + j) s d (omega (arith, low)))) (before j low)
  | inr high ↦
      let here : j ≡ n = omega (arith, high, lt) in
      subst (λ (t : ℕ). Q t (get_or (slice_set cells (at + n) s) (at + t) d)) (sym here) (subst (Q n) (sym (get_or-set_same cells (at + n) s d within)) is)
]

-- cells behind those that were written
pub puts_on : {A : Type 0} (level : A → ℕ) (value : ℕ → ℕ) (at m n : ℕ) (old mid new : List A) → PutsCells level value at m old mid → PutsCells level (λ i. value (m + i)) (at + m) n mid new → PutsCells level value at (m + n) old new
puts_on level value at m n old mid new first last = record {
  size = last.size ∙ first.size;
  kept = λ p d lt. last.kept p d (omega (arith, lt)) ∙ first.kept p d lt;
  made = λ i d lt. elim (cases_lt i m) [
    | inl low ↦ ap level (last.kept (at + i) d (omega (arith, low))) ∙ first.made i d low
    | inr high ↦
        let place : at + i ≡ at + m + (i - m) = omega (arith, high) in
        let back : m + (i - m) ≡ i = omega (arith, high) in
        ap (λ (p : ℕ). level (get_or new p d)) place ∙ last.made (i - m) d (omega (arith, high, lt)) ∙ ap value back
  ];
}

-- a row behind those that were written
pub row_on : {A : Type 0} (level : A → ℕ) (value : ℕ → ℕ → ℕ) (w n at : ℕ) (old mid new : List A) → PutsRows level value w n at old mid → PutsCells level (λ x. value x n) (at + n * w) w mid new → PutsRows level value w (n + 1) at old new
row_on level value w n at old mid new before last = record {
  size = last.size ∙ before.size;
  kept = λ p d lt. last.kept p d (omega (arith, lt)) ∙ before.kept p d lt;
  made = λ x j d across lt. elim (cases_lt j n) [
    | inl low ↦ ap level (last.kept (at + (j * w + x)) d (omega (arith, earlier j n w x low across))) ∙ before.made x j d across low
    | inr high ↦
        let is : j ≡ n = omega (arith, high, lt) in
        let place : at + (j * w + x) ≡ at + n * w + x = omega (arith, ap (λ (t : ℕ). t * w) is) in
        ap (λ (p : ℕ). level (get_or new p d)) place ∙ last.made x d across ∙ ap (value x) (sym is)
  ];
}
  where
    earlier : (j n w x : ℕ) → j < n → x < w → j * w + x < n * w
    earlier j n w x low across = omega (arith, mul-add-lt j w x n low across)

-- one line more of w cells, of which something holds
pub line_more : {A : Type 0} (Q : ℕ → ℕ → A → Type 0) (d : A) (w n a m : ℕ) (old part : List A) → a ≡ n * w → a + w ≤ length old → length part ≡ w → ((i : ℕ) → i < w → Q i n (get_or part i d))
    → ((i j : ℕ) → i < w → j < n → Q i j (get_or old (j * w + i) d)) → (i j : ℕ) → i < w → j < n + 1 → Q i j (get_or (put_mid a m old part) (j * w + i) d)
line_more Q d w n a m old part at room long is before i j across lt = elim (cases_lt j n) [
  | inl low ↦
      let earlier : j * w + i < a = omega (arith, at, mul-add-lt j w i n low across) in
      subst (Q i j) (sym (get_or-put_mid_below a m old part (j * w + i) d (omega (arith, room)) earlier)) (before i j across low)
  | inr high ↦
      let here : j ≡ n = omega (arith, high, lt) in
      let place : j * w + i ≡ a + i = omega (arith, at, ap (λ (t : ℕ). t * w) here) in
      let got : get_or (put_mid a m old part) (j * w + i) d ≡ get_or part i d =
      ap (λ (p : ℕ). get_or (put_mid a m old part) p d) place
      ∙ get_or-put_mid_within a m old part (a + i) d (omega (arith, room)) (omega arith) (omega (arith, long, across))
      ∙ ap (λ (p : ℕ). get_or part p d) (let e : a + i - a ≡ i = omega arith in e) in
      subst (λ (t : ℕ). Q i t (get_or (put_mid a m old part) (j * w + i) d)) (sym here) (subst (Q i n) (sym got) (is i across))
]

-- cells that are written in a part
pub part_puts : {A : Type 0} (level : A → ℕ) (value : ℕ → ℕ) (d : A) (at m n : ℕ) (old part new : List A) → new ≡ put_mid at m old part → length new ≡ length old → at + n ≤ length old → length part ≡ n → ((i : ℕ) → i < n → level (get_or part i d) ≡ value i)
    → PutsCells level value at n old new
part_puts {A} level value d at m n old part new put size room long is = record {
  size = size;
  kept = λ p e lt. ap (λ (l : List A). get_or l p e) put ∙ get_or-put_mid_below at m old part p e (omega (arith, room)) lt;
  made = λ i e lt.
      ap (λ (l : List A). level (get_or l (at + i) e)) put
      ∙ ap level (get_or-put_mid_within at m old part (at + i) e (omega (arith, room)) (omega arith) (omega (arith, long, lt)))
      ∙ ap (λ (p : ℕ). level (get_or part p e)) (let q : at + i - at ≡ i = omega arith in q)
      ∙ ap level (get_or_default part i e d (omega (arith, long, lt)))
      ∙ is i lt;
}

-- cells that are copied of lines
pub lines_put : {A : Type 0} (level : A → ℕ) (value : ℕ → ℕ → ℕ) (d : A) (at n rows row : ℕ) (old new made : List A) → length new ≡ length old → at + n ≤ length old → row < rows → ((p : ℕ) (e : A) → p < at → get_or new p e ≡ get_or old p e)
    → ((i : ℕ) → i < n → get_or new (at + i) d ≡ get_or made (i * rows + row) d) → HasRows level value rows n made → PutsCells level (value row) at n old new
lines_put level value d at n rows row old new made size room lt kept copied has = record {
  size = size;
  kept = kept;
  made = λ i e less. ap level (get_or_default new (at + i) e d (omega (arith, size, room, less)) ∙ copied i less) ∙ has.made row i d lt less;
}

pub puts_same : {A : Type 0} (level : A → ℕ) (value other : ℕ → ℕ) (at n : ℕ) (old new : List A) → ((i : ℕ) → i < n → value i ≡ other i) → PutsCells level value at n old new → PutsCells level other at n old new
puts_same level value other at n old new same puts = record { size = puts.size; kept = puts.kept; made = λ i d lt. puts.made i d lt ∙ same i lt }

pub rows_same : {A : Type 0} (level : A → ℕ) (value other : ℕ → ℕ → ℕ) (w n at : ℕ) (old new : List A) → ((x j : ℕ) → value x j ≡ other x j) → PutsRows level value w n at old new → PutsRows level other w n at old new
rows_same level value other w n at old new same puts = record { size = puts.size; kept = puts.kept; made = λ x j d across lt. puts.made x j d across lt ∙ same x j }

-- a block of rows, which may begin within what is made
pub block_on : {A : Type 0} (level : A → ℕ) (value : ℕ → ℕ → ℕ) (w from rows done next at : ℕ) (old new : List A) → from ≤ done → next ≡ from + rows → at ≡ from * w → PutsRows level (λ x j. value x (from + j)) w rows at old new
    → AreRowsMade level value w done old → AreRowsMade level value w next new
block_on level value w from rows done next at old new early to at-is puts before x j d across lt = elim (cases_lt j from) [
  | inl low ↦ ap level (puts.kept (j * w + x) d (omega (arith, at-is, mul-add-lt j w x from low across))) ∙ before x j d across (omega (arith, low, early))
  | inr high ↦
      let back : from + (j - from) ≡ j = omega (arith, high) in
      let place : j * w + x ≡ at + ((j - from) * w + x) = omega (arith, at-is, ap (λ (t : ℕ). t * w) (sym back), split from (j - from) w) in
      ap (λ (p : ℕ). level (get_or new p d)) place ∙ puts.made x (j - from) d across (omega (arith, high, lt, to)) ∙ ap (value x) back
]
  where
    split : (a b w : ℕ) → (a + b) * w ≡ a * w + b * w
    split a b w = omega arith

-- lines of cells are rows of levels
pub has_lines : {A : Type 0} (level : A → ℕ) (value : ℕ → ℕ → ℕ) (d : A) (w n m : ℕ) (cells : List A) → m ≡ n → length cells ≡ n * w → ((i j : ℕ) → i < w → j < m → level (get_or cells (j * w + i) d) ≡ value i j) → HasRows level value w n cells
has_lines level value d w n m cells all size made = record {
  size = size;
  made = λ i j e across lt. ap level (get_or_default cells (j * w + i) e d (omega (arith, size, mul-add-lt j w i n lt across))) ∙ made i j across (omega (arith, all, lt));
}

-- all rows are made
pub has_made : {A : Type 0} (level : A → ℕ) (value : ℕ → ℕ → ℕ) (w n m : ℕ) (cells : List A) → n ≤ m → length cells ≡ n * w → AreRowsMade level value w m cells → HasRows level value w n cells
has_made level value w n m cells all size made = record { size = size; made = λ x j d across lt. made x j d across (omega (arith, all, lt)) }
