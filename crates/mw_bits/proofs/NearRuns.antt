-- Runs of elements whose rows are laid out around a tile as words.
use Rattle.std.proofs.Common.{◌≡◌, ℕ, ◌+◌, ◌<◌, ◌≤◌, ◌-ℤ◌, List, length, take, get_or, arith}
use Rattle.std.specs.List.{AllByRecursion}
use Rattle.std.proofs.lemmas.Int.{ints}
use Rattle.std.proofs.lemmas.List.{take_more}
use Rattle.mw_model.proofs.mw_facts.Alls.{all-weaker, all-push}
use Rattle.mw_model.specs.Rectangles.{nonnegative}
use Rattle.mw_model.proofs.Nonnegative.{nonnegative_is}
use Rattle.mw_offset.specs.mw_element_runs.declared.runs.Run.{Run}
use Rattle.mw_offset.specs.mw_element_runs.declared.runs.Extent.{Extent}
use Rattle.mw_offset.specs.mw_element_runs.Runs.{IsWider, RunIsInside}
use Rattle.mw_offset.proofs.mw_element_runs.RunLists.{inside_wider}
use Rattle.mw_bits.specs.Layouts.{ExtentIsNear}

-- no run in an extent is longer than its columns
count_of_inside : (e : Extent) (columns : ℕ) → columns ≡ nonnegative (e.right -ℤ e.left) → (r : Run) → RunIsInside e r → r.count ≤ columns + 1
count_of_inside e columns columns-is r inside =
    let is = nonnegative_is (e.right -ℤ e.left) in
    let left = inside.left in
    let right = inside.right in
    let some = inside.run.some in
    omega (arith, ints)

pub counts_of_inside : (e : Extent) (columns : ℕ) (runs : List Run) → columns ≡ nonnegative (e.right -ℤ e.left) → AllByRecursion (RunIsInside e) runs → AllByRecursion (λ (r : Run). r.count ≤ columns + 1) runs
counts_of_inside e columns runs columns-is all = all-weaker (RunIsInside e) (λ (r : Run). r.count ≤ columns + 1) runs (count_of_inside e columns columns-is) all

pub all_inside_wider : (e o : Extent) (runs : List Run) → IsWider e o → AllByRecursion (RunIsInside o) runs → AllByRecursion (RunIsInside e) runs
all_inside_wider e o runs wider all = all-weaker (RunIsInside o) (RunIsInside e) runs (inside_wider e o wider) all

pub columns_few : (e : Extent) (columns : ℕ) → columns ≡ nonnegative (e.right -ℤ e.left) → ExtentIsNear e → columns ≤ 1023
columns_few e columns columns-is near =
    let is = nonnegative_is (e.right -ℤ e.left) in
    let few = near.columns.few in
    let ordered = near.columns.ordered in
    omega (arith, ints)

-- one run more is no longer than the longest
pub counts_more : (runs : List Run) (i most more : ℕ) (d : Run) → i < length runs → most ≤ more → (get_or runs i d).count ≤ more → AllByRecursion (λ (r : Run). r.count ≤ most) (take i runs)
    → AllByRecursion (λ (r : Run). r.count ≤ more) (take (i + 1) runs)
counts_more runs i most more d lt grown here so_far =
    rw (take_more runs i d lt)
    (all-push (λ (r : Run). r.count ≤ more) (take i runs) (get_or runs i d) (all-weaker (λ (r : Run). r.count ≤ most) (λ (r : Run). r.count ≤ more) (take i runs) (λ r le. omega arith) so_far) here)
