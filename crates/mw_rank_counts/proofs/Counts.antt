-- Counts of the levels at places.
use Rattle.std.proofs.Common.{◌≡◌, ℕ, suc, ◌+◌, ◌<◌, ◌≤◌, List, [], ◌∷◌, length, get_or, refl, arith}
use Rattle.mw_rank.specs.Tallies.{count_under}
use Rattle.mw_rank.proofs.Counts.{count-cons, one-lt, one-le}
use Rattle.mw_rank_counts.specs.Counting.{levels_on}

-- the levels at the places, so many columns on, where all are below the limit, or none
pub count_all : {A : Type 0} (level : A → ℕ) (d : A) (samples : List A) (limit i : ℕ) (places : List ℕ) → ((q : ℕ) → q < length places → level (get_or samples (get_or places q 0 + i) d) < limit)
    → count_under limit (levels_on level d samples places i) ≡ length places
count_all level d samples limit i [] low = refl
count_all level d samples limit i (p ∷ ps) low =
    omega (
      arith,
      count-cons limit (level (get_or samples (p + i) d)) (levels_on level d samples ps i),
      one-lt (level (get_or samples (p + i) d)) limit (low 0 (omega arith)),
      count_all level d samples limit i ps (λ q lt. low (suc q) (omega arith)),
    )

pub count_none : {A : Type 0} (level : A → ℕ) (d : A) (samples : List A) (limit i : ℕ) (places : List ℕ) → ((q : ℕ) → q < length places → limit ≤ level (get_or samples (get_or places q 0 + i) d))
    → count_under limit (levels_on level d samples places i) ≡ 0
count_none level d samples limit i [] high = refl
count_none level d samples limit i (p ∷ ps) high =
    omega (
      arith,
      count-cons limit (level (get_or samples (p + i) d)) (levels_on level d samples ps i),
      one-le (level (get_or samples (p + i) d)) limit (high 0 (omega arith)),
      count_none level d samples limit i ps (λ q lt. high (suc q) (omega arith)),
    )
