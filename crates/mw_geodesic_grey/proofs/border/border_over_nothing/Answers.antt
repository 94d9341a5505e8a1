use Rattle.mw_geodesic_grey.proofs.Redrawn.{border_by}
use Rattle.mw_geodesic_grey.proofs.border.border_over_nothing.Goals as goal

pub returns-clause-picture : goal.returns-clause-picture
returns-clause-picture g c = λ maxval.
    let samples = c.into_samples-samples.result in
    border_by g.P.Pixel.level maxval c.width-width.result c.height-height.result samples.len c.args.plane c.new.result samples.items c.as_mut_slice.result.now c.clear_inside.new.samples c.width-width.ensures.value
    c.height-height.ensures.value c.into_samples-samples.ensures.value c.into_samples-samples.ensures.size c.as_mut_slice.ensures.value c.as_mut_slice.ensures.len c.clear_inside.auto.samples c.new.ensures c.clear_inside.ensures
