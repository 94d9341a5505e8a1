use Rattle.std.proofs.Common.{◌≤◌, sym, arith}
use Rattle.mw_netpbm_plain.proofs.Rasters.{sample_whole}
use Rattle.mw_netpbm_plain.proofs.plain.sample.Goals as goal

pub returns-in-Some-clause-value : goal.returns-in-Some-clause-value
returns-in-Some-clause-value c =
    let low : c.args.maxval ≤ 65535 = omega (arith, c.ranges.maxval.fits) in
    let within : c.in-Some.n ≤ c.args.maxval = omega (arith, c.if-n-from.true, c.from.ensures) in
    sym (sample_whole c.args.maxval c.args.left c.args.bytes.now c.in-Some.n c.in-Some.rest.now (c.in-Some.ensures.sample c.args.left) within low)
