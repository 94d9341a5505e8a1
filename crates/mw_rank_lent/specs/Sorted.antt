-- Columns of three in order, in wide vectors (own).
use Rattle.std.specs.Prelude.{ℕ, ◌≤◌}
use Rattle.mw_rank_medians.specs.Numbered.{IsNthLevel}
use Rattle.mw_rank_lent.specs.declared.nine.Sorted.{Sorted}

-- the levels of one lane
abbrev pub lanes_of_sorted : {V : Type 0} → (V → ℕ → ℕ) → Sorted V → ℕ → Sorted ℕ
lanes_of_sorted lane x i = record { low = lane x.low i; middle = lane x.middle i; high = lane x.high i }

-- of three levels of which `count t` are below t, those are all in rising order
pub record AreSorted (count : ℕ → ℕ) (x : Sorted ℕ) : Type 0 where
  pub few : (t : ℕ) → count t ≤ 3
  pub low : IsNthLevel count 1 x.low
  pub middle : IsNthLevel count 2 x.middle
  pub high : IsNthLevel count 3 x.high
