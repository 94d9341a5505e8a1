use Rattle.std.proofs.Common.{◌≡◌, ◌≤◌, ◌++◌, ◌+◌, ◌/◌, length, vec_len, vec_capacity}
use Rattle.std.specs.List.{flat_map}
use Rattle.mw_model.specs.NetpbmWriting.{packed}
use Rattle.mw_netpbm.specs.SetWords.{pixels_of}
use Rattle.mw_netpbm.proofs.writer.push_packed.Given as goal

abbrev pub invariant-by_block : goal.invariant-by_block
invariant-by_block l = record {
  made : l.out.items ++ packed l.left (flat_map pixels_of l.rest) ≡ l.fn.out.items ++ packed l.count (flat_map pixels_of l.fn.words);
  long : length l.rest ≡ (l.left + 7) / 8;
  count : vec_len l.out + l.left ≡ vec_len l.fn.out + l.count;
  room : vec_capacity l.fn.out ≤ vec_capacity l.out;
}

abbrev pub decreases-by_block : goal.decreases-by_block
decreases-by_block l = l.left
