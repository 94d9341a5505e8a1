-- Rows of which the parts were made apart.
use Rattle.std.proofs.Common.{◌≡◌, ℕ, ◌+◌, ◌-◌, ◌*◌, ◌<◌, ◌≤◌, List, ◌++◌, length, get_or, drop, ap, arith, ◌∙◌, length-append, length-drop, inl, inr}
use Rattle.std.proofs.lemmas.Bool.{cases_lt}
use Rattle.std.proofs.lemmas.List.{get_or_append_left, get_or-append-add, get_or-drop, get_or_default}
use Rattle.std.specs.Prelude.{nat_lt, nat_le}
use Rattle.mw_rank.specs.Ranks.{GainsRow}
use Rattle.mw_rank_medians.specs.Numbered.{below, IsNthLevel}
use Rattle.mw_rank_medians.specs.Columns.{block_below, GainsMedians}
use Rattle.mw_rank_medians.proofs.Sums.{sum_to-same}

-- cells that are added as they stand
pub slice_gained : {A : Type 0} (level : A → ℕ) (d : A) (value : ℕ → ℕ) (n : ℕ) (cells out new : List A) → length cells ≡ n → ((i : ℕ) → i < n → level (get_or cells i d) ≡ value i) → new ≡ out ++ cells → GainsRow level value n out new
slice_gained level d value n cells out new long known new-is = record {
  size = omega (arith, ap length new-is, length-append out cells);
  kept = λ p e lt. ap (λ (l : List _). get_or l p e) new-is ∙ get_or_append_left out cells e p lt;
  made = λ x e lt. ap (λ (l : List _). level (get_or l (length out + x) e)) new-is ∙ ap level (get_or-append-add out cells x e) ∙ ap level (get_or_default cells x e d (omega arith)) ∙ known x lt;
}

-- a column of what begins further to the right
block_on : {A : Type 0} (level : A → ℕ) (d : A) (samples : List A) (from at stride side j i t : ℕ) → i ≡ at + j → block_below level d samples (from + at) stride side j t ≡ block_below level d samples from stride side i t
block_on level d samples from at stride side j i t is =
    sum_to-same _ _ side (λ c _. sum_to-same _ _ side (λ r _. ap (λ (p : ℕ). below (level (get_or samples p d)) t) (let e : from + at + r * stride + (j + c) ≡ from + r * stride + (i + c) = omega (arith, is) in e)))

-- a piece more of a row, which may begin within what is there
pub medians_more : {A : Type 0} (level : A → ℕ) (d : A) (samples : List A) (from stride side k at done next : ℕ) (piece out old new : List A) → at ≤ done → done ≤ next → next ≡ at + length piece → new ≡ out ++ drop (done - at) piece
    → ((j : ℕ) → j < length piece → IsNthLevel (block_below level d samples (from + at) stride side j) k (level (get_or piece j d)))
    → GainsMedians level d samples from stride side k done old out → GainsMedians level d samples from stride side k next old new
medians_more level d samples from stride side k at done next piece out old new early further next-is new-is medians before =
    let rest = drop (done - at) piece in
    record {
      size = omega (arith, ap length new-is, length-append out rest, length-drop (done - at) piece, before.size);
      kept = λ p e lt. ap (λ (l : List _). get_or l p e) new-is ∙ get_or_append_left out rest e p (omega (arith, before.size)) ∙ before.kept p e lt;
      made = λ i lt t. elim (cases_lt i done) [
        | inl low ↦
            ap (λ (l : List _). nat_lt (level (get_or l (length old + i) d)) t) new-is
            ∙ ap (λ (s : _). nat_lt (level s) t) (get_or_append_left out rest d (length old + i) (omega (arith, before.size)))
            ∙ before.made i low t
        | inr high ↦
            let place : length old + i ≡ length out + (i - done) = omega (arith, before.size) in
            let within : done - at + (i - done) ≡ i - at = omega arith in
            ap (λ (l : List _). nat_lt (level (get_or l (length old + i) d)) t) new-is
            ∙ ap (λ (p : ℕ). nat_lt (level (get_or (out ++ rest) p d)) t) place
            ∙ ap (λ (s : _). nat_lt (level s) t) (get_or-append-add out rest (i - done) d ∙ get_or-drop (done - at) piece (i - done) d)
            ∙ ap (λ (p : ℕ). nat_lt (level (get_or piece p d)) t) within
            ∙ medians (i - at) (omega arith) t
            ∙ ap (nat_le k) (block_on level d samples from at stride side (i - at) i t (omega arith))
      ];
    }

-- medians that were added are the row that is wanted
pub medians_gained : {A : Type 0} (level : A → ℕ) (d : A) (samples : List A) (from stride side k n : ℕ) (value : ℕ → ℕ) (old new : List A) → ((i v : ℕ) → i < n → IsNthLevel (block_below level d samples from stride side i) k v → v ≡ value i)
    → GainsMedians level d samples from stride side k n old new → GainsRow level value n old new
medians_gained level d samples from stride side k n value old new known gains = record {
  size = gains.size;
  kept = gains.kept;
  made = λ x e lt. ap level (get_or_default new (length old + x) e d (omega (arith, gains.size))) ∙ known x _ lt (gains.made x lt);
}
