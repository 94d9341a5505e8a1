-- Counting the numbers below a bound that pass a test (own).
use Rattle.std.specs.Prelude.{ℕ, Bool, ◌&&◌, cond, nat_lt, nat_le, count_by}
use Rattle.std.specs.List.{range_with_len}

-- 1 where it is true, else 0
abbrev pub bit : Bool → ℕ
bit b = cond b 1 0

-- of how many numbers below n this is true
abbrev pub count_below : (ℕ → Bool) → ℕ → ℕ
count_below p n = count_by p (range_with_len 0 n)

-- the number is one of a range, whose end is not in it
abbrev pub in_range : ℕ → ℕ → ℕ → Bool
in_range from to x = nat_le from x && nat_lt x to
