use Rattle.std.proofs.Common.{◌≡◌, ◌+◌, map, vec_len}
use Rattle.std.specs.Prelude.{vec_capacity}
use Rattle.mw_netpbm_plain.specs.PlainSamples.{place_in_text}
use Rattle.mw_netpbm_plain.specs.Plain.{plain_at}
use Rattle.mw_netpbm_plain.proofs.PlainLoop.{with_front}
use Rattle.mw_netpbm_plain.proofs.plain.fill.Given as goal

abbrev pub invariant-places : goal.invariant-places
invariant-places g l = record {
  made : with_front (map g.P.Pixel.level l.out.items) (plain_at (place_in_text l.places) l.left l.rest) ≡ plain_at (place_in_text l.places) l.count l.fn.bytes;
  filled : vec_len l.out + l.left ≡ l.count;
  room : vec_capacity l.out ≡ l.count;
}

abbrev pub decreases-places : goal.decreases-places
decreases-places g l = l.left
