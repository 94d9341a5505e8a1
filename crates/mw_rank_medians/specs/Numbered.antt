-- Numbers of samples in rising order, which are known by how many samples are below each limit.
use Rattle.std.specs.Prelude.{◌≡◌, ℕ, ◌≤◌, nat_lt, nat_le, cond, min, max}
use Rattle.mw_rank_medians.specs.declared.nine.Three.{Three}
use Rattle.mw_rank_medians.specs.declared.five.Two.{Two}
use Rattle.mw_rank_medians.specs.declared.five.Four.{Four}
use Rattle.mw_rank_medians.specs.declared.five.Five.{Five}
use Rattle.mw_rank_medians.specs.declared.five.Six.{Six}
use Rattle.mw_rank_medians.specs.declared.five.Ten.{Ten}

-- 1 for a level below the limit, else 0
abbrev pub below : ℕ → ℕ → ℕ
below v t = cond (nat_lt v t) 1 0

-- of levels of which `count t` are below t, v is number n in rising order
abbrev pub IsNthLevel : (ℕ → ℕ) → ℕ → ℕ → Type 0
IsNthLevel count n v = (t : ℕ) → nat_lt v t ≡ nat_le n (count t)

-- the levels of one lane
abbrev pub lanes_of_three : {V : Type 0} → (V → ℕ → ℕ) → Three V → ℕ → Three ℕ
lanes_of_three lane x i = record { low = lane x.low i; middle = lane x.middle i; high = lane x.high i }

-- of three levels of which `count t` are below t, those are all in rising order
pub record AreThree (count : ℕ → ℕ) (x : Three ℕ) : Type 0 where
  pub few : (t : ℕ) → count t ≤ 3
  pub low : IsNthLevel count 1 x.low
  pub middle : IsNthLevel count 2 x.middle
  pub high : IsNthLevel count 3 x.high

-- the middle one of three levels
abbrev pub middle : ℕ → ℕ → ℕ → ℕ
middle a b c = max (min a b) (min (max a b) c)

abbrev pub lanes_of_two : {V : Type 0} → (V → ℕ → ℕ) → Two V → ℕ → Two ℕ
lanes_of_two lane x i = record { low = lane x.low i; high = lane x.high i }

abbrev pub lanes_of_four : {V : Type 0} → (V → ℕ → ℕ) → Four V → ℕ → Four ℕ
lanes_of_four lane x i = record { first = lane x.first i; second = lane x.second i; third = lane x.third i; fourth = lane x.fourth i }

abbrev pub lanes_of_five : {V : Type 0} → (V → ℕ → ℕ) → Five V → ℕ → Five ℕ
lanes_of_five lane x i = record { first = lane x.first i; second = lane x.second i; third = lane x.third i; fourth = lane x.fourth i; fifth = lane x.fifth i }

abbrev pub lanes_of_six : {V : Type 0} → (V → ℕ → ℕ) → Six V → ℕ → Six ℕ
lanes_of_six lane x i = record { first = lane x.first i; second = lane x.second i; third = lane x.third i; fourth = lane x.fourth i; fifth = lane x.fifth i; sixth = lane x.sixth i }

abbrev pub lanes_of_ten : {V : Type 0} → (V → ℕ → ℕ) → Ten V → ℕ → Ten ℕ
lanes_of_ten lane x i = record { odd = lanes_of_five lane x.odd i; even = lanes_of_five lane x.even i }

-- of two levels of which `count t` are below t, those are all in rising order
pub record AreTwo (count : ℕ → ℕ) (x : Two ℕ) : Type 0 where
  pub few : (t : ℕ) → count t ≤ 2
  pub low : IsNthLevel count 1 x.low
  pub high : IsNthLevel count 2 x.high

-- of five levels of which `count t` are below t, those are all in rising order
pub record AreFive (count : ℕ → ℕ) (x : Five ℕ) : Type 0 where
  pub few : (t : ℕ) → count t ≤ 5
  pub first : IsNthLevel count 1 x.first
  pub second : IsNthLevel count 2 x.second
  pub third : IsNthLevel count 3 x.third
  pub fourth : IsNthLevel count 4 x.fourth
  pub fifth : IsNthLevel count 5 x.fifth

-- of ten levels of which `count t` are below t, those are all in rising order: those of odd numbers, and those of even ones
pub record AreTen (count : ℕ → ℕ) (x : Ten ℕ) : Type 0 where
  pub few : (t : ℕ) → count t ≤ 10
  pub first : IsNthLevel count 1 x.odd.first
  pub second : IsNthLevel count 2 x.even.first
  pub third : IsNthLevel count 3 x.odd.second
  pub fourth : IsNthLevel count 4 x.even.second
  pub fifth : IsNthLevel count 5 x.odd.third
  pub sixth : IsNthLevel count 6 x.even.third
  pub seventh : IsNthLevel count 7 x.odd.fourth
  pub eighth : IsNthLevel count 8 x.even.fourth
  pub ninth : IsNthLevel count 9 x.odd.fifth
  pub tenth : IsNthLevel count 10 x.even.fifth

-- of twenty levels of which `count t` are below t, those are numbers 8 to 13 in rising order
pub record AreMiddle (count : ℕ → ℕ) (x : Six ℕ) : Type 0 where
  pub few : (t : ℕ) → count t ≤ 20
  pub first : IsNthLevel count 8 x.first
  pub second : IsNthLevel count 9 x.second
  pub third : IsNthLevel count 10 x.third
  pub fourth : IsNthLevel count 11 x.fourth
  pub fifth : IsNthLevel count 12 x.fifth
  pub sixth : IsNthLevel count 13 x.sixth
