-- When its last task is finished, what is kept under a ticket is its value.
use Rattle.std.proofs.Common.{◌≡◌, ℕ, ◌+◌, ◌-◌, ◌<◌, true, not, ◌&&◌, ◌||◌, List, length, get_or, nat_eq, Option, Some, IsSome, sym, ap, ◌∙◌, subst, arith}
use Rattle.std.specs.List.{list_any}
use Rattle.std.proofs.lemmas.Bool.{or_left, or_right, eq-eqb}
use Rattle.mw_model.specs.declared.shapes.Kind.{Kind}
use Rattle.mw_model.specs.declared.shapes.Shape.{Shape}
use Rattle.mw_model.specs.declared.shapes.Shape.TheVariants as shape
use Rattle.mw_model.specs.Values.{ImageValue}
use Rattle.mw_model.specs.Refusals.{submission_at, is_image}
use Rattle.mw_model.specs.Machine.{Machine}
use Rattle.mw_model.specs.Plans.{Planned, is_sum, no_picture, value_of_planes}
use Rattle.mw_model.specs.Tasks.{Progress, flag, task_count, nothing_planned, planned_of, step_number, reads, tasks_below, is_needed, remaining_tasks}
use Rattle.mw_model.specs.Stands.{true_planes}
use Rattle.mw_grid.specs.Grids.{Tiling, tile_count}
use Rattle.mw_core_progress.specs.mw_tile_planes.Tiles.{AllPlaced, tile_cells}
use Rattle.mw_core_progress.specs.ProgressView.{ProgressView, IsWhole, number_of, plane_at}
use Rattle.mw_core_laws.specs.Works.{IsTrueWork, IsResultImage}
use Rattle.mw_core_laws.proofs.Flags.{count_by-not_none}
use Rattle.mw_core_laws.proofs.Numbers.{length-tiles, number_of-within, planned_of-number_of, placed-number_of, step_number-number_of}
use Rattle.mw_core_laws.proofs.Truth.{length-true_planes, plane-true}

-- where none is left, each task is finished
pub all-finished : (p : Progress) (n : ℕ) → remaining_tasks p ≡ 0 → n < task_count p → flag p.finished n ≡ true
all-finished p n none within = count_by-not_none (flag p.finished) (task_count p) n none within

-- a tile that is needed is then placed
tile-placed : (u : ProgressView) (k i : ℕ) → IsWhole u → remaining_tasks u.progress ≡ 0 → k < length u.progress.plan → i < tile_count u.tiling → is_needed u.progress (number_of u.progress k i) ≡ true
    → IsSome (tile_cells (plane_at u k).tiles i)
tile-placed u k i whole none within inside needed =
    let p = u.progress in
    let n = number_of p k i in
    let counted : n < task_count p = number_of-within p k i within (omega (arith, inside, length-tiles u whole)) in
    subst (λ (o : Option (List ℕ)). IsSome o) (placed-number_of u k i whole within inside) ((whole.needed n counted).1 (all-finished p n none counted, needed))

all-placed : (u : ProgressView) (k : ℕ) → IsWhole u → ((i : ℕ) → i < tile_count (plane_at u k).tiling → IsSome (tile_cells (plane_at u k).tiles i)) → AllPlaced (plane_at u k)
all-placed u k whole each = record { count = whole.counts k ∙ ap tile_count (sym (whole.tilings k)); each = each }

-- all tiles of the last step
pub last-full : (u : ProgressView) → IsWhole u → remaining_tasks u.progress ≡ 0 → AllPlaced (plane_at u (length u.progress.plan - 1))
last-full u whole none = all-placed u (length u.progress.plan - 1) whole (λ i below.
    let p = u.progress in
    let k = length p.plan - 1 in
    let some = whole.workable.some in
    let inside : i < tile_count u.tiling = subst (λ (g : Tiling). i < tile_count g) (whole.tilings k) below in
    let n = number_of p k i in
    let step : step_number p n ≡ k = step_number-number_of p k i (omega (arith, inside, length-tiles u whole)) in
    let last : nat_eq (step_number p n + 1) (length p.plan) ≡ true = eq-eqb (step_number p n + 1) (length p.plan) (omega (arith, step)) in
    let needed : is_needed p n ≡ true
    = or_left (nat_eq (step_number p n + 1) (length p.plan) || is_sum (planned_of p n).step) (list_any (λ u. not (flag p.finished u) && reads p u n) (tasks_below p))
    (or_left (nat_eq (step_number p n + 1) (length p.plan)) (is_sum (planned_of p n).step) last) in
    tile-placed u k i whole none (omega arith) inside needed)

-- all tiles of a Sum step
pub sum-full : (u : ProgressView) (k : ℕ) → IsWhole u → remaining_tasks u.progress ≡ 0 → k < length u.progress.plan → is_sum (get_or u.progress.plan k nothing_planned).step ≡ true → AllPlaced (plane_at u k)
sum-full u k whole none within sums = all-placed u k whole (λ i below.
    let p = u.progress in
    let inside : i < tile_count u.tiling = subst (λ (g : Tiling). i < tile_count g) (whole.tilings k) below in
    let n = number_of p k i in
    let here : is_sum (planned_of p n).step ≡ true = ap (λ (s : Planned). is_sum s.step) (planned_of-number_of p k i (omega (arith, inside, length-tiles u whole))) ∙ sums in
    let needed : is_needed p n ≡ true
    = or_left (nat_eq (step_number p n + 1) (length p.plan) || is_sum (planned_of p n).step) (list_any (λ u. not (flag p.finished u) && reads p u n) (tasks_below p))
    (or_right (nat_eq (step_number p n + 1) (length p.plan)) (is_sum (planned_of p n).step) here) in
    tile-placed u k i whole none within inside needed)

-- ---- images

-- the plane of the last step is the image that stands under the ticket
pub result-image : (m : Machine) (t : ℕ) (u : ProgressView) (k : Kind) (w h x : ℕ) → IsTrueWork m t u → remaining_tasks u.progress ≡ 0 → (submission_at m.table.submissions t).shape ≡ shape.Image k w h x → IsResultImage m t u
result-image m t u k w h x work none shaped =
    let p = u.progress in
    let last = length p.plan - 1 in
    let planes = true_planes m t p in
    let some = work.whole.workable.some in
    let no_sum = work.planned.last (ap is_image shaped) in
    let place : length planes - 1 ≡ last = ap (λ (n : ℕ). n - 1) (length-true_planes m t p) in
    record {
      image = get_or planes last no_picture;
      value = sym work.keeps.means ∙ ap (λ (e : Shape). value_of_planes e p.plan planes) shaped ∙ ap (λ (n : ℕ). Some (ImageValue (get_or planes n no_picture))) place;
      plane = plane-true m t u last work (omega arith) no_sum;
      full = last-full u work.whole none;
    }
