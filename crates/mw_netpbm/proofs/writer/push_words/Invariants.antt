use Rattle.std.proofs.Common.{◌≡◌, ◌≤◌, ◌+◌, ◌*◌, ◌++◌, length, vec_len, vec_capacity}
use Rattle.std.specs.List.{flat_map}
use Rattle.mw_model.specs.NetpbmWriting.{two_bytes}
use Rattle.mw_netpbm.proofs.writer.push_words.Given as goal

abbrev pub invariant-by_block : goal.invariant-by_block
invariant-by_block l = record {
  made : l.out.items ++ flat_map two_bytes l.rest ≡ l.fn.out.items ++ flat_map two_bytes l.fn.samples;
  count : vec_len l.out + 2 * length l.rest ≡ vec_len l.fn.out + 2 * length l.fn.samples;
  room : vec_capacity l.fn.out ≤ vec_capacity l.out;
}

abbrev pub decreases-by_block : goal.decreases-by_block
decreases-by_block l = length l.rest
