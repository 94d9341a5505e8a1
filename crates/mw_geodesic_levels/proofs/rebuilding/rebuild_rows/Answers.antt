use Rattle.std.proofs.Common.{arith, ℕ, min}
use Rattle.mw_geodesic_levels.specs.Levels.{level_numbered}
use Rattle.mw_geodesic_levels.proofs.Raises.{raised_on, raised_from}
use Rattle.mw_geodesic_levels.proofs.rebuilding.rebuild_rows.Goals as goal

pub returns : goal.returns
returns g c =
    let level = g.P.Pixel.level in
    let mask = level_numbered level c.args.mask.now in
    let marker = level_numbered level c.args.samples.now in
    record {
      raised = raised_from (λ (i : ℕ). min (marker i) (mask i)) (λ i lt. c.cut.ensures i (omega arith)) (raised_on c.raise_all.ensures c.settle.ensures.raised);
      still = c.settle.ensures.still;
    }
