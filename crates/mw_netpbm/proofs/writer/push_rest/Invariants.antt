use Rattle.std.proofs.Common.{◌≡◌, ◌≤◌, ◌+◌, ◌*◌, ◌++◌, take, vec_len, vec_capacity}
use Rattle.std.specs.List.{flat_map}
use Rattle.mw_model.specs.NetpbmWriting.{two_bytes}
use Rattle.mw_netpbm.proofs.writer.push_rest.Given as goal

abbrev pub invariant-samples : goal.invariant-samples
invariant-samples l = record {
  made : l.out.items ≡ l.fn.out.items ++ flat_map two_bytes (take l.s-index l.samples);
  count : vec_len l.out ≡ vec_len l.fn.out + 2 * l.s-index;
  room : vec_capacity l.fn.out ≤ vec_capacity l.out;
}
