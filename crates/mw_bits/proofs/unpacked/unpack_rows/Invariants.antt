use Rattle.std.proofs.Common.{◌*◌, ◌+◌, get_or}
use Rattle.mw_offset.proofs.mw_line.Rows.{RowsMade}
use Rattle.mw_bits.proofs.unpacked.unpack_rows.Given as goal

abbrev pub invariant-loop-y : goal.invariant-loop-y
invariant-loop-y l = record {
  made : RowsMade (λ x j. get_or l.set.cells (j * l.set.place.width + x) 0) 0 l.set.place.width l.y l.samples.items;
}
