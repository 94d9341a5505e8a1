use Rattle.mw_geodesic_grey.proofs.Redrawn.{minus_by}
use Rattle.mw_geodesic_grey.proofs.planes.minus.Goals as goal

pub returns : goal.returns
returns g c = λ maxval.
    let samples = c.into_samples-samples.result in
    minus_by g.P.Pixel.level maxval c.width-width.result c.height-height.result samples.len c.args.image.now c.args.other c.new.result c.samples.result.now samples.items c.as_mut_slice.result.now c.take_from.new.samples c.requires.width c.requires.height c.width-width.ensures.value
    c.height-height.ensures.value c.into_samples-samples.ensures.value c.into_samples-samples.ensures.size c.as_mut_slice.ensures.value c.as_mut_slice.ensures.len c.take_from.auto.samples c.new.ensures c.samples.ensures.value c.take_from.ensures
