-- What is laid out for a block fits into the lists.
use Rattle.std.proofs.Common.{◌≡◌, ℕ, ◌+◌, ◌-◌, ◌*◌, ◌<◌, ◌≤◌, ◌-ℤ◌, List, length, refl, arith}
use Rattle.std.specs.List.{AllByRecursion}
use Rattle.mw_model.specs.declared.offsets.Rect.{Rect}
use Rattle.mw_model.specs.Rectangles.{nonnegative}
use Rattle.mw_model.proofs.mw_facts.Alls.{all-weaker}
use Rattle.mw_offset.specs.mw_element_runs.declared.runs.Extent.{Extent}
use Rattle.mw_offset.specs.mw_element_runs.declared.runs.Run.{Run}
use Rattle.mw_offset.specs.mw_element_runs.Runs.{RunHasRoom, RunIsInside, start_of}
use Rattle.mw_offset.proofs.Seens.{all_room}
use Rattle.mw_chord_lent.specs.declared.blocks.Work.{Work}
use Rattle.mw_chord_lent.specs.declared.plan.Plan.{Plan}
use Rattle.mw_chord_lent.specs.Works.{IsBlockPlan, IsBlockWork}
use Rattle.mw_chord_lent.proofs.Puts.{rows_le}

pub cells_fit : (lanes : ℕ) (runs : List Run) (k : Work) → IsBlockWork lanes runs k → (k.plan.high + nonnegative (k.extent.bottom -ℤ k.extent.top)) * k.plan.wide ≤ k.plan.span
cells_fit lanes runs k work = omega (arith, work.plan.cells, work.plan.span_is)

pub lists_fit : (lanes : ℕ) (runs : List Run) (k : Work) → IsBlockWork lanes runs k → k.plan.span ≤ length k.sizes.now * k.plan.span
lists_fit lanes runs k work =
    let one = rows_le 1 (length k.sizes.now) k.plan.span (omega (arith, work.chain.chain.some)) in
    omega (arith, one)

-- the place of a result among the cells
pub chunk_cells : (wide width high r i : ℕ) → r < high → i < width → r * wide + i < (high - 1) * wide + width
chunk_cells wide width high r i few lt = omega (arith, rows_le r (high - 1) wide (omega (arith, few)), lt)

pub rows_fit_in : (lanes : ℕ) (runs : List Run) (k : Work) → IsBlockWork lanes runs k → (k.plan.high - 1) * k.plan.wide + k.plan.width ≤ k.plan.span
rows_fit_in lanes runs k work =
    let p = k.plan in
    let down = nonnegative (k.extent.bottom -ℤ k.extent.top) in
    let rows = rows_le (p.high - 1 + 1) (p.high + down) p.wide (omega (arith, work.plan.some)) in
    omega (arith, rows, next (p.high - 1) p.wide, work.plan.wide_is, cells_fit lanes runs k work)
  where
    next : (a m : ℕ) → (a + 1) * m ≡ a * m + m
    next a m = omega arith

-- there is room for all runs
pub plan_room : (lanes : ℕ) (tile : Rect) (e : Extent) (longest : ℕ) (p : Plan) (runs : List Run) → IsBlockPlan lanes tile e longest p → AllByRecursion (RunIsInside e) runs → AllByRecursion (RunHasRoom e p.wide ((p.high - 1) * p.wide + p.width) (p.chunks * (32 * lanes))) runs
plan_room lanes tile e longest p runs plan inside =
    let high = p.high + nonnegative (e.bottom -ℤ e.top) in
    let count = (p.high - 1) * p.wide + p.width in
    all-weaker (RunHasRoom e p.wide count (high * p.wide)) (RunHasRoom e p.wide count (p.chunks * (32 * lanes))) runs (λ r has. record { inside = has.inside; room = let fits = has.room in omega (arith, fits, plan.cells) })
    (all_room p.width p.high p.wide high count (high * p.wide) e runs plan.some plan.wide_is refl refl refl inside)

pub runs_room : (lanes : ℕ) (runs : List Run) (k : Work) → IsBlockWork lanes runs k → AllByRecursion (RunHasRoom k.extent k.plan.wide ((k.plan.high - 1) * k.plan.wide + k.plan.width) (k.plan.chunks * (32 * lanes))) runs
runs_room lanes runs k work = plan_room lanes k.tile k.extent work.longest k.plan runs work.plan work.inside

-- and in a list
pub runs_fit : (lanes : ℕ) (tile : Rect) (e : Extent) (longest : ℕ) (p : Plan) (runs : List Run) → 0 < longest → IsBlockPlan lanes tile e longest p → AllByRecursion (RunIsInside e) runs → AllByRecursion (λ (r : Run). start_of e p.wide r + r.count ≤ p.span) runs
runs_fit lanes tile e longest p runs some plan inside =
    all-weaker (RunHasRoom e p.wide ((p.high - 1) * p.wide + p.width) (p.chunks * (32 * lanes))) (λ (r : Run). start_of e p.wide r + r.count ≤ p.span) runs
    (λ r has. let fits = has.room in omega (arith, fits, some, plan.span_is)) (plan_room lanes tile e longest p runs plan inside)
