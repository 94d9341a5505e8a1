use Rattle.std.proofs.Common.{◌≡◌, ◌-◌, ◌≤◌, List, length}
use Rattle.mw_model.specs.declared.offsets.Offset.{Offset}
use Rattle.mw_model.specs.Windows.{seen_at}
use Rattle.mw_offset_lent.specs.Layouts.{AreLaid, HasSeenRows}
use Rattle.mw_offset_lent.proofs.strips.put_strips.Given as goal

abbrev pub invariant-by_strips : goal.invariant-by_strips
invariant-by_strips g l = record {
  within : l.done ≤ l.height;
  cells : length l.cells ≡ length l.initial.cells;
  size : length l.out ≡ length l.initial.out;
  made : (offsets : List Offset) → AreLaid l.work offsets → HasSeenRows g.E.Extremum.merge l.neutral (seen_at l.lent) offsets l.work.laid.tile l.done l.out;
}

abbrev pub decreases-by_strips : goal.decreases-by_strips
decreases-by_strips g l = l.height - l.done
