-- A level that is known by the levels below each limit is the rank.
use Rattle.std.proofs.Common.{◌≡◌, ℕ, ◌+◌, ◌<◌, ◌≤◌, List, length, ap, sym, arith, ◌∙◌, inl, inr}
use Rattle.std.proofs.lemmas.Bool.{cases_lt, lt-ltb, le-ltb, le-leb, lt-leb, true≢false}
use Rattle.mw_model.specs.declared.offsets.Offset.{Offset}
use Rattle.mw_model.specs.PlanSteps.{ranked}
use Rattle.mw_model.specs.Rasters.{Sight}
use Rattle.mw_model.proofs.Ranks.{nth_from}
use Rattle.mw_rank.specs.Ranks.{levels_under}
use Rattle.mw_rank.specs.Tallies.{count_under}
use Rattle.mw_rank.proofs.Counts.{count_within}
use Rattle.mw_rank_medians.specs.Numbered.{IsNthLevel}
use Rattle.mw_rank_medians.specs.Columns.{block_below}
use Rattle.mw_rank_medians.specs.Squares.{ShowsSquare, IsMedian}

pub number_ranked : (k v : ℕ) (count : ℕ → ℕ) (ns : List ℕ) → ((t : ℕ) → count_under t ns ≡ count t) → 1 ≤ k → IsNthLevel count k v → v ≡ ranked k ns
number_ranked k v count ns is some number =
    let few : count v < k = elim (cases_lt (count v) k) [
      | inl low ↦ low
      | inr high ↦ absurd (true≢false (sym (le-leb k (count v) high) ∙ sym (number v) ∙ le-ltb v v (omega arith)))
    ] in
    let enough : k ≤ count (v + 1) = elim (cases_lt (count (v + 1)) k) [
      | inl low ↦ absurd (true≢false (sym (lt-ltb v (v + 1) (omega arith)) ∙ number (v + 1) ∙ lt-leb k (count (v + 1)) low))
      | inr high ↦ high
    ] in
    let long : k ≤ length ns = omega (arith, count_within (v + 1) ns, is (v + 1)) in
    nth_from ns k k v (omega arith) (omega (arith, is v), omega (arith, is (v + 1)))

-- where a window shows a square, the level that is number k of it is the rank
pub median_is : {A : Type 0} (level : A → ℕ) (d : A) (sight : Sight A) (cells samples : List A) (offsets square : List Offset) (x y n from stride width side i k v : ℕ) → samples ≡ cells → stride ≡ width → offsets ≡ square
    → ShowsSquare level d sight cells square x y n from width side → i < n → 1 ≤ k → IsNthLevel (block_below level d samples from stride side i) k v → v ≡ ranked k (levels_under level sight offsets (x + i) y)
median_is level d sight cells samples offsets square x y n from stride width side i k v samples-is stride-is offsets-is shows lt some number =
    number_ranked k v (block_below level d samples from stride side i) (levels_under level sight offsets (x + i) y)
    (λ t.
    ap (λ (l : List Offset). count_under t (levels_under level sight l (x + i) y)) offsets-is
    ∙ shows.seen i t lt
    ∙ ap (λ (w : ℕ). block_below level d cells from w side i t) (sym stride-is)
    ∙ ap (λ (l : List _). block_below level d l from stride side i t) (sym samples-is))
    some number

-- the squares for which there is a network
pub median_some : (side k : ℕ) → IsMedian side k → (1 ≤ side) × (1 ≤ k)
median_some side k (inl (a, b)) = (omega arith, omega arith)
median_some side k (inr (a, b)) = (omega arith, omega arith)
