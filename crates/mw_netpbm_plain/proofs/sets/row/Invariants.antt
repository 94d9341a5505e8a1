use Rattle.std.proofs.Common.{◌≡◌, ◌≤◌, ◌+◌, ◌/◌, vec_len}
use Rattle.std.specs.Prelude.{vec_capacity}
use Rattle.mw_netpbm_plain.proofs.PlainSets.{words_made}
use Rattle.mw_netpbm_plain.proofs.sets.row.Given as goal

abbrev pub invariant-words : goal.invariant-words
invariant-words l = record {
  made : words_made l.out.items l.left l.rest ≡ words_made l.fn.out.items l.width l.fn.bytes;
  filled : vec_len l.out + (l.left + 63) / 64 ≡ vec_len l.fn.out + (l.width + 63) / 64;
  room : vec_capacity l.out ≡ vec_capacity l.fn.out;
  less : l.left ≤ l.width;
}

abbrev pub decreases-words : goal.decreases-words
decreases-words l = l.left
