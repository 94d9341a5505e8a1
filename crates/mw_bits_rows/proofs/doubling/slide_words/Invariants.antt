use Rattle.std.proofs.Common.{◌≡◌, ◌-◌, ◌*◌, length}
use Rattle.mw_line.proofs.Joined.{Taken}
use Rattle.mw_bits_rows.specs.Rows.{laid_bits}
use Rattle.mw_bits_rows.proofs.doubling.slide_words.Given as goal

abbrev pub invariant-doubling : goal.invariant-doubling
invariant-doubling g l = record {
  cells_size : length l.cells ≡ length l.fn.cells;
  taken_by : Taken g.E.Extremum.merge (laid_bits l.fn.cells) (64 * (length l.fn.cells - 1)) l.stride l.k l.taken l.left (laid_bits l.cells);
}

abbrev pub decreases-doubling : goal.decreases-doubling
decreases-doubling g l = l.k - l.taken
