-- What an element sees anew, and what it sees no more, one row further down.
use Rattle.std.specs.Prelude.{◌≡◌, ℕ, zero, suc, ◌+◌, ◌-◌, ◌*◌, ◌/◌, ◌%◌, ◌<◌, ◌≤◌, cond, nat_lt, List, length, take, slice_index}
use Rattle.std.specs.List.{sum_by, AllByRecursion}

-- the sum of f at the places before n, each as often as it has weight
abbrev pub weighed : (ℕ → ℕ) → (ℕ → ℕ) → ℕ → ℕ
weighed weight f zero = 0
weighed weight f (suc n) = weighed weight f n + weight n * f n

-- how often a place is marked, and how often the one so many places before it
abbrev pub marks_at : List ℕ → ℕ → ℕ
marks_at marks t = slice_index marks t

abbrev pub marks_before : List ℕ → ℕ → ℕ → ℕ
marks_before marks columns t = cond (nat_lt t columns) 0 (slice_index marks (t - columns))

-- a place of rows of so many columns, in rows of so many others
abbrev pub place_in : ℕ → ℕ → ℕ → ℕ
place_in columns wide t = t / columns * wide + t % columns

-- the first n places of a list are marked, each below the count
pub record HasMarks (places : List ℕ) (count n : ℕ) (marks : List ℕ) : Type 0 where
  pub size : length marks ≡ count
  pub few : (k : ℕ) → slice_index marks k ≤ n
  pub sums : (f : ℕ → ℕ) → weighed (marks_at marks) f count ≡ sum_by f (take n places)

-- of the first n places those are listed that have another mark than the one a row above them
pub record HasChanged (marks : List ℕ) (columns wide limit n : ℕ) (entered left : List ℕ) : Type 0 where
  pub balance : (f : ℕ → ℕ) → sum_by f entered + weighed (marks_at marks) (λ t. f (place_in columns wide t)) n ≡ sum_by f left + weighed (marks_before marks columns) (λ t. f (place_in columns wide t)) n
  pub part : (f : ℕ → ℕ) → sum_by f left ≤ weighed (marks_at marks) (λ t. f (place_in columns wide t)) n
  pub entered_below : AllByRecursion (λ (s : ℕ). s < limit) entered
  pub left_below : AllByRecursion (λ (s : ℕ). s < limit) left
