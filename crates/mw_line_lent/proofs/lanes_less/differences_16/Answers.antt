use Rattle.std.proofs.Common.{ℕ, ◌+◌, ◌-◌, ◌%◌, arith}
use Rattle.std.specs.Int.{w16}
use Rattle.std.proofs.lemmas.Simd.{Each1-get_or}
use mir.Val.{Fits}
use Rattle.mw_line_lent.proofs.Vectors.{less_lane_16, less_long}
use Rattle.mw_line_lent.proofs.lanes_less.differences_16.Goals as goal

pub returns-clause-whole : goal.returns-clause-whole
returns-clause-whole c = less_long (λ (x y : ℕ). (x + (65536 - y)) % 65536) w16 c.args.a c.args.b 16 c.requires.first c.requires.second

pub returns-clause-lanes : goal.returns-clause-lanes
returns-clause-lanes c = λ i lt. less_lane_16 c.args.a c.args.b i c.requires.first c.requires.second
    (Each1-get_or (Fits w16) c.args.a i 0 (omega (arith, lt, c.requires.first)) c.fits-a.1).fits (Each1-get_or (Fits w16) c.args.b i 0 (omega (arith, lt, c.requires.second)) c.fits-b.1).fits
