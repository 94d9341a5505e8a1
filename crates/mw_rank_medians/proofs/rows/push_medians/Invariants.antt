use Rattle.std.proofs.Common.{◌≡◌, ◌-◌, ◌≤◌, length}
use Rattle.mw_rank_medians.specs.Columns.{GainsMedians}
use Rattle.mw_rank_medians.proofs.rows.push_medians.Given as goal

abbrev pub invariant-by_piece : goal.invariant-by_piece
invariant-by_piece g l = record {
  within : l.done ≤ l.count;
  size : length l.piece ≡ length l.initial.piece;
  medians : GainsMedians g.P.Pixel.level g.P.Pixel.TOP l.sheet.samples.now l.sheet.from l.sheet.stride l.side l.k l.done l.initial.out.items l.out.items;
}

abbrev pub decreases-by_piece : goal.decreases-by_piece
decreases-by_piece g l = l.count - l.done
