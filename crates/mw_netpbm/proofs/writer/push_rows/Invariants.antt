use Rattle.std.proofs.Common.{◌≡◌, ◌≤◌, ◌++◌, ◌+◌, ◌-◌, ◌*◌, drop, vec_len, vec_capacity}
use Rattle.mw_model.specs.NetpbmWriting.{packed_rows}
use Rattle.mw_netpbm.proofs.writer.push_rows.Given as goal

abbrev pub invariant-rows : goal.invariant-rows
invariant-rows l = record {
  made : l.out.items ++ packed_rows l.set.width (l.set.height - l.y) (drop (l.y * l.set.width) l.set.cells) ≡ l.fn.out.items ++ packed_rows l.set.width l.set.height l.set.cells;
  room : vec_len l.out + (l.set.height - l.y) * l.count ≤ vec_capacity l.out;
}
