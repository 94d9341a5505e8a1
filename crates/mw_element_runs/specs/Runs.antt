-- An element as horizontal runs of offsets.
use Rattle.std.specs.Prelude.{◌≡◌, ◌⊎◌, ℕ, Bool, cond, ◌+◌, ◌-◌, ◌*◌, ◌<◌, ◌≤◌, ◌&&◌, nat_le, nat_lt, if◌then◌else◌, slice_index_or, List, [], ◌∷◌, length, map, flat_map, reverse, count_by, nat_eq, pos, ◌+ℤ◌, ◌-ℤ◌, ◌≤ℤ◌}
use Rattle.std.specs.Ordering.{int_eq}
use Rattle.std.specs.List.{range_with_len, AllByRecursion}
use Rattle.mw_model.specs.declared.offsets.Offset.{Offset}
use Rattle.mw_model.specs.Rectangles.{nonnegative}
use Rattle.mw_element_runs.specs.declared.runs.Run.{Run}
use Rattle.mw_element_runs.specs.declared.runs.Extent.{Extent}

-- the offsets of a run, from the left
abbrev pub run_offsets : Run → List Offset
run_offsets r = map (λ i. record { dx = r.dx +ℤ pos i; dy = r.dy }) (range_with_len 0 r.count)

-- the run has an offset, and no more than a row of offsets can have
pub record IsRun (r : Run) : Type 0 where
  pub some : 0 < r.count
  pub few : r.count ≤ 65536

-- the offset stands right behind the run in its row
pub record Continues (r : Run) (o : Offset) : Type 0 where
  pub dx : o.dx ≡ r.dx +ℤ pos r.count
  pub dy : o.dy ≡ r.dy

-- the offset at a place of a list
abbrev pub offset_at : List Offset → ℕ → Offset
offset_at offsets k = slice_index_or offsets k (record { dx = pos 0; dy = pos 0 })

-- the first offset of a run
abbrev pub start_offset : Run → Offset
start_offset r = record { dx = r.dx; dy = r.dy }

-- each run is as long as it can be: the one after it does not continue it
abbrev pub AreLongest : List Run → Type 0
AreLongest runs = (k : ℕ) (r : Run) → k + 1 < length runs → Continues (slice_index_or runs k r) (start_offset (slice_index_or runs (k + 1) r)) → ⊥

-- the runs have the list's offsets in its order, or all of them in the opposite order
abbrev pub AreEitherWay : List Offset → List Run → Type 0
AreEitherWay offsets runs = (flat_map run_offsets runs ≡ offsets) ⊎ (flat_map run_offsets runs ≡ reverse offsets)

-- no runs that have the list's offsets, in its order or in the opposite one, are fewer
abbrev pub AreFewest : List Offset → List Run → Type 0
AreFewest offsets runs = (others : List Run) → AllByRecursion IsRun others → AreEitherWay offsets others → length runs ≤ length others

-- whether the second offset stands right behind the first
abbrev pub follows : Offset → Offset → Bool
follows a b = int_eq b.dx (a.dx +ℤ pos 1) && int_eq b.dy a.dy

abbrev pub follows_back : Offset → Offset → Bool
follows_back a b = follows b a

-- how many neighbours pass a test, from the neighbour of an offset on
abbrev pub pairs_from : (Offset → Offset → Bool) → Offset → List Offset → ℕ
pairs_from p a [] = 0
pairs_from p a (b ∷ os) = cond (p a b) 1 0 + pairs_from p b os

abbrev pub pairs : (Offset → Offset → Bool) → List Offset → ℕ
pairs p [] = 0
pairs p (a ∷ os) = pairs_from p a os

-- how many of the runs have so many offsets
abbrev pub runs_as_long : ℕ → List Run → ℕ
runs_as_long n runs = count_by (λ (r : Run). nat_eq r.count n) runs

-- the first extent has the columns and rows of the second
pub record IsWider (e o : Extent) : Type 0 where
  pub left : e.left ≤ℤ o.left
  pub right : o.right ≤ℤ e.right
  pub top : e.top ≤ℤ o.top
  pub bottom : o.bottom ≤ℤ e.bottom

-- the run lies in these columns and rows of offsets
pub record RunIsInside (e : Extent) (r : Run) : Type 0 where
  pub run : IsRun r
  pub left : e.left ≤ℤ r.dx
  pub right : (r.dx +ℤ pos r.count) ≤ℤ (e.right +ℤ pos 1)
  pub top : e.top ≤ℤ r.dy
  pub bottom : r.dy ≤ℤ e.bottom

-- where a run begins in rows of `wide` places that begin with the extent
abbrev pub start_of : Extent → ℕ → Run → ℕ
start_of e wide r = nonnegative (r.dy -ℤ e.top) * wide + nonnegative (r.dx -ℤ e.left)

-- the run lies in the extent, and in rows of `wide` places it reaches no further than `cells` places from `count` places on
pub record RunHasRoom (e : Extent) (wide count cells : ℕ) (r : Run) : Type 0 where
  pub inside : RunIsInside e r
  pub room : start_of e wide r + (r.count - 1) + count ≤ cells

-- a step that is taken at the runs of `size` to `2 * size - 1` offsets
abbrev pub sized : {A : Type 0} → ℕ → (A → Run → A) → A → Run → A
sized size step best r = if nat_le size r.count && nat_lt r.count (2 * size) then step best r else best

-- what two parts of `size` samples that make up a run are merged into
abbrev pub two_parts : {A : Type 0} → (A → A → A) → List A → A → Extent → ℕ → ℕ → ℕ → A → Run → A
two_parts merge cells d e wide size q best r =
    merge (merge best (slice_index_or cells (start_of e wide r + q) d)) (slice_index_or cells (start_of e wide r + (r.count - size) + q) d)

-- the extremum of n and a value of each run
abbrev pub gather : {A : Type 0} → (A → A → A) → A → (Run → A) → List Run → A
gather merge n value [] = n
gather merge n value (r ∷ rs) = merge (value r) (gather merge n value rs)
