use Rattle.std.proofs.Common.{ℕ, ◌-◌}
use Rattle.mw_geodesic_grey.proofs.Redrawn.{passed_by}
use Rattle.mw_geodesic_grey.proofs.planes.lowered_by.Goals as goal

pub returns-clause-picture : goal.returns-clause-picture
returns-clause-picture g c = λ maxval.
    let samples = c.into_samples-samples.result in
    passed_by g.P.Pixel.level maxval c.width-width.result c.height-height.result samples.len c.args.plane c.new.result samples.items c.as_mut_slice.result.now c.lower.new.samples (λ (n : ℕ). n - c.args.h) c.width-width.ensures.value
    c.height-height.ensures.value c.into_samples-samples.ensures.value c.into_samples-samples.ensures.size c.as_mut_slice.ensures.value c.as_mut_slice.ensures.len c.lower.auto.samples c.new.ensures c.lower.ensures
