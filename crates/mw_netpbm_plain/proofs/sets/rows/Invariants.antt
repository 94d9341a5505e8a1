use Rattle.std.proofs.Common.{◌≡◌, ◌+◌, ◌-◌, ◌*◌, ◌/◌, [], vec_len}
use Rattle.std.specs.Prelude.{vec_capacity}
use Rattle.mw_netpbm_plain.proofs.PlainSets.{rows_made}
use Rattle.mw_netpbm_plain.proofs.sets.rows.Given as goal

abbrev pub invariant-rows : goal.invariant-rows
invariant-rows l = record {
  made : rows_made l.out.items l.width (l.height - l.y) l.rest ≡ rows_made [] l.width l.height l.fn.bytes;
  filled : vec_len l.out ≡ l.y * ((l.width + 63) / 64);
  room : vec_capacity l.out ≡ l.height * ((l.width + 63) / 64);
}
