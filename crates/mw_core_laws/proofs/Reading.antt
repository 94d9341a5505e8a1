-- What a task reads is there.
use Rattle.std.proofs.Common.{◌≡◌, ℕ, ◌+◌, ◌<◌, ◌≤◌, true, false, not, ◌&&◌, ◌||◌, inl, inr, List, length, get_or, Option, None, IsSome, sym, ap, subst, arith, nat_lt, nat_eq}
use Rattle.std.specs.Prelude.{Contains}
use Rattle.std.specs.List.{list_any}
use Rattle.std.proofs.lemmas.Bool.{cases_Bool, and_parts, and_from, or_cases, or_right, not-true, both_ways, lt-ltb}
use Rattle.mw_model.proofs.mw_facts.Alls.{all-contains}
use Rattle.mw_model.proofs.mw_facts.Tests.{list_any-range}
use Rattle.mw_model.specs.declared.offsets.Rect.{Rect}
use Rattle.mw_model.specs.Rectangles.{Holds, IsWithin}
use Rattle.mw_model.specs.Elements.{reach_of}
use Rattle.mw_model.specs.PlanSteps.{looks_at}
use Rattle.mw_model.specs.Plans.{FromStep, IsSourceAt, is_sum}
use Rattle.mw_model.specs.Tasks.{flag, task_count, nothing_planned, planned_of, step_number, place_of_task, tile_of_task, place_read, is_step, share, meets, reads, tasks_below, is_needed}
use Rattle.mw_grid.proofs.Reaching.{stays_within}
use Rattle.mw_core_progress.specs.mw_tile_planes.Tiles.{HasAll}
use Rattle.mw_core_progress.specs.ProgressView.{ProgressView, IsPlaneSource, IsWhole, has_all_read, number_of, plane_at}
use Rattle.mw_core_laws.specs.Works.{IsReadyOrRuns}
use Rattle.mw_core_laws.proofs.Flags.{list_all-range, list_any-is_step}
use Rattle.mw_core_laws.proofs.Numbers.{length-tiles, some-whole, step_number-number_of, number_of-within, step_number-within, tile_of_task-number_of, tile_of_task-within, placed-number_of}

-- ---- tasks that are ready or run

pub unfinished : (u : ProgressView) (n : ℕ) → IsWhole u → IsReadyOrRuns u.progress n → flag u.progress.finished n ≡ false
unfinished u n whole (inl ready) =
    let p = u.progress in
    let idle : flag p.started n ≡ false = not-true (flag p.started n) (and_parts (not (flag p.started n)) (has_all_read p n) ready).0 in
    elim (cases_Bool (flag p.finished n)) [ inl h ↦ let began : flag p.started n ≡ true = whole.begun n h in absurd cc | inr h ↦ h ]
unfinished u n whole (inr runs) =
    let p = u.progress in
    not-true (flag p.finished n) (and_parts (flag p.started n) (not (flag p.finished n)) runs).1

pub has-all-read : (u : ProgressView) (n : ℕ) → IsWhole u → n < task_count u.progress → IsReadyOrRuns u.progress n → has_all_read u.progress n ≡ true
has-all-read u n whole within (inl ready) = let p = u.progress in (and_parts (not (flag p.started n)) (has_all_read p n) ready).1
has-all-read u n whole within (inr runs) = let p = u.progress in whole.calm n within (and_parts (flag p.started n) (not (flag p.finished n)) runs).0

-- what it reads is finished
read-finished : (u : ProgressView) (n k : ℕ) → IsWhole u → n < task_count u.progress → k < task_count u.progress → IsReadyOrRuns u.progress n → reads u.progress n k ≡ true → flag u.progress.finished k ≡ true
read-finished u n k whole within other runs read =
    let p = u.progress in
    let each : (not (reads p n k) || flag p.finished k) ≡ true
    = list_all-range (λ v. not (reads p n v) || flag p.finished v) 0 (task_count p) k (has-all-read u n whole within runs) (omega arith) (omega arith) in
    elim (or_cases (not (reads p n k)) (flag p.finished k) each) [
      | inl unread ↦ absurd (both_ways (reads p n k) (not-true (reads p n k) unread) read)
      | inr h ↦ h
    ]

-- and is kept
read-kept : (u : ProgressView) (n k : ℕ) → IsWhole u → n < task_count u.progress → k < task_count u.progress → IsReadyOrRuns u.progress n → reads u.progress n k ≡ true → IsSome (get_or u.progress.placed k None)
read-kept u n k whole within other runs read =
    let p = u.progress in
    let left : flag p.finished n ≡ false = unfinished u n whole runs in
    let reader : list_any (λ v. not (flag p.finished v) && reads p v k) (tasks_below p) ≡ true
    = list_any-range (λ v. not (flag p.finished v) && reads p v k) 0 (task_count p) n (omega arith) (omega arith) (and_from (not (flag p.finished n)) (reads p n k) (ap not left) read) in
    let needed : is_needed p k ≡ true
    = or_right (nat_eq (step_number p k + 1) (length p.plan) || is_sum (planned_of p k).step) (list_any (λ v. not (flag p.finished v) && reads p v k) (tasks_below p)) reader in
    (whole.needed k other).1 (read-finished u n k whole within other runs read, needed)

-- ---- rectangles

pub meets-holds : (r q : Rect) (x y : ℕ) → Holds r x y → Holds q x y → meets r q ≡ true
meets-holds r q x y a b =
    and_from (share r.x r.width q.x q.width) (share r.y r.height q.y q.height)
    (shared r.x r.width q.x q.width x a.left a.right b.left b.right)
    (shared r.y r.height q.y q.height y a.top a.bottom b.top b.bottom)
  where
    shared : (a n b m k : ℕ) → a ≤ k → k < a + n → b ≤ k → k < b + m → share a n b m ≡ true
    shared a n b m k from to start end = and_from (nat_lt a (b + m)) (nat_lt b (a + n)) (lt-ltb a (b + m) (omega arith)) (lt-ltb b (a + n) (omega arith))

-- the rectangle that a task reads lies in the frame
pub place_of_task-within : (u : ProgressView) (n : ℕ) → IsWhole u → IsWithin (place_of_task u.progress n) u.tiling.width u.tiling.height
place_of_task-within u n whole =
    let p = u.progress in
    let tile = tile_of_task p n in
    let inside = tile_of_task-within u n whole in
    let across = inside.across in
    let down = inside.down in
    let reach = reach_of (looks_at (planned_of p n).step) in
    subst (λ (w : ℕ). IsWithin (place_read (planned_of p n).step w p.height tile) u.tiling.width u.tiling.height) (sym whole.width)
    (subst (λ (h : ℕ). IsWithin (place_read (planned_of p n).step u.tiling.width h tile) u.tiling.width u.tiling.height) (sym whole.height)
    (stays_within u.tiling.width u.tiling.height reach tile (omega arith) (omega arith)))

-- ---- the tiles under a task's window

-- a step that is read is one of the plan before the task's
pub source-before : (u : ProgressView) (n k : ℕ) → IsWhole u → Contains (planned_of u.progress n).sources (FromStep k) → k < step_number u.progress n
source-before u n k whole has =
    all-contains (IsSourceAt 1 (step_number u.progress n)) (planned_of u.progress n).sources (FromStep k) (whole.workable.sources (step_number u.progress n)) has

pub source-within : (u : ProgressView) (n k : ℕ) → IsWhole u → n < task_count u.progress → Contains (planned_of u.progress n).sources (FromStep k) → k < length u.progress.plan
source-within u n k whole within has =
    omega (arith, source-before u n k whole has, step_number-within u.progress n (some-whole u whole) within)

-- and makes a plane
pub source-plane : (u : ProgressView) (n k : ℕ) → IsWhole u → Contains (planned_of u.progress n).sources (FromStep k) → is_sum (get_or u.progress.plan k nothing_planned).step ≡ false
source-plane u n k whole has = all-contains (IsPlaneSource u.progress.plan) (planned_of u.progress n).sources (FromStep k) (whole.workable.planes (step_number u.progress n)) has

-- all tiles of a source that a ready or running task reads are placed
pub source-placed : (u : ProgressView) (n k : ℕ) → IsWhole u → n < task_count u.progress → IsReadyOrRuns u.progress n → Contains (planned_of u.progress n).sources (FromStep k)
    → HasAll u.tiling (plane_at u k).tiles (place_of_task u.progress n)
source-placed u n k whole within runs has x y here i inside there =
    let p = u.progress in
    let number = number_of p k i in
    let before = source-within u n k whole within has in
    let counted : i < length p.tiles = omega (arith, inside, length-tiles u whole) in
    let holds : Holds (tile_of_task p number) x y = subst (λ (r : Rect). Holds r x y) (sym (tile_of_task-number_of u k i whole inside)) there in
    let source : list_any (is_step (step_number p number)) (planned_of p n).sources ≡ true
    = subst (λ (j : ℕ). list_any (is_step j) (planned_of p n).sources ≡ true) (sym (step_number-number_of p k i counted)) (list_any-is_step k (planned_of p n).sources has) in
    let read : reads p n number ≡ true
    = and_from (list_any (is_step (step_number p number)) (planned_of p n).sources) (meets (place_of_task p n) (tile_of_task p number)) source (meets-holds (place_of_task p n) (tile_of_task p number) x y here holds) in
    subst (λ (o : Option (List ℕ)). IsSome o) (placed-number_of u k i whole before inside)
    (read-kept u n number whole within (number_of-within p k i before counted) runs read)
