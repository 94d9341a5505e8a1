use Rattle.std.proofs.Common.{◌^◌, ◌≤◌, arith}
use Rattle.std.proofs.Math.Nat.{pow-le-pow_right}
use Rattle.mw_rank_rows.proofs.rows.rank_wanted.Goals as goal

pub rank_groups-requires-clause-fits : goal.rank_groups-requires-clause-fits
rank_groups-requires-clause-fits g c =
    let bits = c.load_of-load.result.bits in
    let few : bits ≤ 12 = (c.pays.ensures c.if-not-pays.false).1 in
    let small : 2 ^ bits ≤ 2 ^ 12 = pow-le-pow_right (omega arith) few in
    let within : 2 ^ bits ≤ 2 ^ g.P.Counted.BITS = pow-le-pow_right (omega arith) c.load_of-load.ensures.within in
    omega (arith, small, within, g.met.P.Counted.has_bits)
