-- Blocks of two vectors.
use Rattle.std.proofs.Common.{◌≡◌, ℕ, zero, suc, ◌+◌, ◌-◌, ◌*◌, ◌<◌, ◌≤◌, List, get_or, ap, sym, subst, arith, ◌∙◌, inl, inr}
use Rattle.std.proofs.lemmas.Bool.{cases_lt}
use Rattle.std.proofs.lemmas.Nat.{mul-add-lt}
use Rattle.mw_line.proofs.Folds.{IsExtremum}
use Rattle.mw_line_lent.specs.Boxes.{IsPutAt, IsPutInRows}
use Rattle.mw_offset_lent.specs.Places.{merged_at}
use Rattle.mw_offset_lent.specs.Splits.{IsCover}
use Rattle.mw_offset_lent.proofs.Merges.{merged_split}

pub both_lanes : {A : Type 0} (w : ℕ) (Q : ℕ → A → Type 0) (d : A) (at : ℕ) (out : List A) → ((i : ℕ) → i < w → Q i (get_or out (at + i) d)) → ((i : ℕ) → i < w → Q (w + i) (get_or out (at + w + i) d)) → (i : ℕ) → i < 2 * w → Q i (get_or out (at + i) d)
both_lanes w Q d at out first second i lt = elim (cases_lt i w) [
  | inl low ↦ first i low
  | inr high ↦
      let here : w + (i - w) ≡ i = omega (arith, high) in
      let there : at + w + (i - w) ≡ at + i = omega (arith, high) in
      subst (λ (t : ℕ). Q t (get_or out (at + i) d)) here (subst (λ (t : ℕ). Q (w + (i - w)) (get_or out t d)) there (second (i - w) (omega (arith, lt, high))))
]

pub four_lanes : {A : Type 0} (w : ℕ) (Q : ℕ → A → Type 0) (d : A) (at : ℕ) (out : List A) → ((i : ℕ) → i < w → Q i (get_or out (at + i) d)) → ((i : ℕ) → i < w → Q (w + i) (get_or out (at + w + i) d))
    → ((i : ℕ) → i < w → Q (2 * w + i) (get_or out (at + 2 * w + i) d)) → ((i : ℕ) → i < w → Q (2 * w + (w + i)) (get_or out (at + 2 * w + w + i) d)) → (i : ℕ) → i < 4 * w → Q i (get_or out (at + i) d)
four_lanes w Q d at out first second third fourth i lt = elim (cases_lt i (2 * w)) [
  | inl low ↦ both_lanes w Q d at out first second i low
  | inr high ↦
      let j = i - 2 * w in
      let here : 2 * w + j ≡ i = omega (arith, high) in
      let there : at + 2 * w + j ≡ at + i = omega (arith, high) in
      let behind = both_lanes w (λ i v. Q (2 * w + i) v) d (at + 2 * w) out third fourth j (omega (arith, lt, high)) in
      subst (λ (t : ℕ). Q t (get_or out (at + i) d)) here (subst (λ (t : ℕ). Q (2 * w + j) (get_or out t d)) there behind)
]

-- a lane of what is merged of the shared places and then of the rest
pub lane_split : {A : Type 0} (f : A → A → A) → IsExtremum f → (cells : List A) (n : A) (from place ahead : ℕ) (shared rest all : List ℕ) (start both value : A) → IsCover shared rest all ahead → start ≡ n → both ≡ merged_at f cells n from start shared
    → value ≡ merged_at f cells n place both rest → place ≡ from + ahead → value ≡ merged_at f cells n place n all
lane_split f laws cells n from place ahead shared rest all start both value cover start-is both-is value-is place-is =
    value-is
    ∙ ap (λ (t : _). merged_at f cells n place t rest) (both-is ∙ ap (λ (t : _). merged_at f cells n from t shared) start-is)
    ∙ ap (λ (t : ℕ). merged_at f cells n t (merged_at f cells n from n shared) rest) place-is
    ∙ merged_split f laws cells n n from ahead shared rest all cover
    ∙ ap (λ (t : ℕ). merged_at f cells n t n all) (let e : from + ahead ≡ place = omega (arith, place-is) in e)

pub each_of_two : (Q : ℕ → Type 0) → Q 0 → Q 1 → (r : ℕ) → r < 2 → Q r
each_of_two Q a b zero lt = a
each_of_two Q a b (suc zero) lt = b
each_of_two Q a b (suc (suc r)) lt = absurd (omega arith)

-- columns of two rows are cells of both
pub rows_put : {A : Type 0} (at long a n w : ℕ) (old new : List A) → at ≤ a → a + w + n ≤ at + long → IsPutInRows 2 a n w old new → IsPutAt at long old new
rows_put at long a n w old new from to put = record {
  size = put.size;
  before = λ p d lt. put.kept p d (λ r few. inl (omega (arith, lt, from)));
  behind = λ p d le. put.kept p d (λ r few. inr (each_of_two (λ r. a + r * w + n ≤ p) (omega (arith, le, to)) (omega (arith, le, to)) r few));
}

-- some rows behind those that were written
pub rows_behind : {A : Type 0} (Q : ℕ → ℕ → A → Type 0) (d : A) (at w done m : ℕ) (mid new : List A) → IsPutAt (at + done * w) (m * w) mid new → ((r i : ℕ) → r < m → i < w → Q (done + r) i (get_or new (at + done * w + (r * w + i)) d))
    → ((r i : ℕ) → r < done → i < w → Q r i (get_or mid (at + (r * w + i)) d)) → (r i : ℕ) → r < done + m → i < w → Q r i (get_or new (at + (r * w + i)) d)
rows_behind Q d at w done m mid new put is before r i lt across = elim (cases_lt r done) [
  | inl low ↦ subst (Q r i) (sym (put.before (at + (r * w + i)) d (omega (arith, mul-add-lt r w i done low across)))) (before r i low across)
  | inr high ↦
      let here : done + (r - done) ≡ r = omega (arith, high) in
      let place : at + done * w + ((r - done) * w + i) ≡ at + (r * w + i) = omega (arith, split done (r - done) w, ap (λ (t : ℕ). t * w) here) in
      subst (λ (t : ℕ). Q t i (get_or new (at + (r * w + i)) d)) here (subst (λ (t : ℕ). Q (done + (r - done)) i (get_or new t d)) place (is (r - done) i (omega (arith, high, lt)) across))
]
  where
    split : (a b w : ℕ) → (a + b) * w ≡ a * w + b * w
    split a b w = omega arith

-- a row behind those that were written, of cells from the first one on
pub row_behind : {A : Type 0} (Q : ℕ → ℕ → A → Type 0) (d : A) (w r : ℕ) (mid new : List A) → IsPutAt (r * w) w mid new → ((i : ℕ) → i < w → Q r i (get_or new (r * w + i) d))
    → ((j i : ℕ) → j < r → i < w → Q j i (get_or mid (j * w + i) d)) → (j i : ℕ) → j < r + 1 → i < w → Q j i (get_or new (j * w + i) d)
row_behind Q d w r mid new put is before j i lt across = elim (cases_lt j r) [
  | inl low ↦ subst (Q j i) (sym (put.before (j * w + i) d (omega (arith, mul-add-lt j w i r low across)))) (before j i low across)
  | inr high ↦
      let here : r ≡ j = omega (arith, high, lt) in
      subst (λ (t : ℕ). Q t i (get_or new (t * w + i) d)) here (is i across)
]
