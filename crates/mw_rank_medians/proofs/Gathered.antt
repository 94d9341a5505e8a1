-- Levels that are gathered at one place, and the wanted one of them.
use Rattle.std.proofs.Common.{◌≡◌, ℕ, zero, suc, ◌+◌, ◌<◌, ◌≤◌, List, [], ◌∷◌, ◌++◌, length, get_or, take, ap, sym, arith, ◌∙◌, append-nil, length-append, inl, inr}
use Rattle.std.specs.Prelude.{min, max, cond, nat_lt}
use Rattle.std.proofs.lemmas.Bool.{cases_lt}
use Rattle.std.proofs.lemmas.List.{take_more}
use Rattle.mw_model.specs.declared.offsets.Offset.{Offset}
use Rattle.mw_model.specs.PlanSteps.{ranked}
use Rattle.mw_model.specs.Rasters.{Sight}
use Rattle.mw_model.proofs.Ranks.{nth_from}
use Rattle.mw_rank.specs.Ranks.{levels_under, levels_at}
use Rattle.mw_rank.specs.Tallies.{count_under}
use Rattle.mw_rank.proofs.Counts.{count-append, count-cons, count_within, one-lt, one-le}
use Rattle.mw_rank.proofs.Sights.{levels-append, levels-cons}

-- what is seen under one offset more
pub offset_gathered : {A : Type 0} (level : A → ℕ) (sight : Sight A) (offsets : List Offset) (b : Offset) (i x y : ℕ) (old new here : List ℕ) → i < length offsets → get_or offsets i b ≡ b → here ≡ levels_at level sight b x y → new ≡ old ++ here
    → old ≡ levels_under level sight (take i offsets) x y → new ≡ levels_under level sight (take (i + 1) offsets) x y
offset_gathered level sight offsets b i x y old new here lt is here-is new-is before =
    new-is
    ∙ ap (λ (l : List ℕ). l ++ here) before
    ∙ ap (λ (l : List ℕ). levels_under level sight (take i offsets) x y ++ l) (here-is ∙ sym (append-nil (levels_at level sight b x y)) ∙ sym (levels-cons level sight b [] x y))
    ∙ sym (levels-append level sight (take i offsets) (b ∷ []) x y)
    ∙ ap (λ (l : List Offset). levels_under level sight l x y) (sym (take_more offsets i b lt ∙ ap (λ (t : Offset). take i offsets ++ t ∷ []) is))

-- one small level more
pub small_more : (top v : ℕ) (old new : List ℕ) → v ≤ top → new ≡ old ++ v ∷ [] → count_under (top + 1) old ≡ length old → count_under (top + 1) new ≡ length new
small_more top v old new small new-is before =
    omega (
      arith,
      ap (count_under (top + 1)) new-is,
      ap length new-is,
      count-append (top + 1) old (v ∷ []),
      count-cons (top + 1) v [],
      one-lt v (top + 1) (omega arith),
      length-append old (v ∷ []),
      before,
    )

-- one level more is counted
pub counted_more : (limit v i : ℕ) (levels : List ℕ) → i < length levels → v ≡ get_or levels i v → count_under limit (take (i + 1) levels) ≡ count_under limit (take i levels) + cond (nat_lt v limit) 1 0
counted_more limit v i levels lt is =
    let next = ap (count_under limit) (take_more levels i v lt ∙ ap (λ (t : ℕ). take i levels ++ t ∷ []) (sym is)) in
    omega (arith, next, count-append limit (take i levels) (v ∷ []), count-cons limit v [])

-- a level of which fewer than n are below, and n are not above, is number k
pub number_is : (k n v : ℕ) (levels : List ℕ) → n ≡ max 1 (min k (length levels)) → count_under v levels < n → n ≤ count_under (v + 1) levels → v ≡ ranked k levels
number_is k n v levels n-is few enough = nth_from levels k n v n-is (few, enough)

-- no fewer levels are below a higher limit
pub count_grows : (a b : ℕ) (levels : List ℕ) → a ≤ b → count_under a levels ≤ count_under b levels
count_grows a b [] le = omega arith
count_grows a b (n ∷ ns) le = elim (cases_lt n a) [
  | inl low ↦ omega (arith, count-cons a n ns, count-cons b n ns, one-lt n a low, one-lt n b (omega arith), count_grows a b ns le)
  | inr high ↦ omega (arith, count-cons a n ns, count-cons b n ns, one-le n a high, count_grows a b ns le)
]

-- a level is not below itself
pub not_below_all : (i v : ℕ) (levels : List ℕ) → i < length levels → v ≡ get_or levels i v → count_under v levels < length levels
not_below_all i v [] lt is = absurd (omega arith)
not_below_all zero v (n ∷ ns) lt is = omega (arith, count-cons v n ns, one-le n v (omega arith), count_within v ns)
not_below_all (suc i) v (n ∷ ns) lt is = omega (arith, count-cons v n ns, not_below_all i v ns (omega arith) is, one_small n v)
  where
    one_small : (n v : ℕ) → cond (nat_lt n v) 1 0 ≤ 1
    one_small n v = elim (cases_lt n v) [
      | inl low ↦ omega (arith, one-lt n v low)
      | inr high ↦ omega (arith, one-le n v high)
    ]
