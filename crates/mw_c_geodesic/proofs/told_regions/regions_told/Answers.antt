use Rattle.mw_c_geodesic.proofs.ToldRegions.{regions_by}
use Rattle.mw_c_geodesic.proofs.told_regions.regions_told.Goals as goal

pub returns-clause-told : goal.returns-clause-told
returns-clause-told c = λ e f wide high are.
    regions_by e f c.args.labels.now c.args.count c.args.width c.args.height c.in_ok-t.t c.in_ok-regions.regions.items wide high c.requires.some c.requires.narrow c.requires.low c.requires.size c.requires.few
    c.in_ok-t.ensures c.in_ok-regions.ensures.size c.in_ok-regions.ensures.each are
