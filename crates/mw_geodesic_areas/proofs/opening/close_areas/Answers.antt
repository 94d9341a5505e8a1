use Rattle.std.proofs.Common.{◌≡◌, ◌*◌, ◌∙◌, length, arith}
use Rattle.mw_geodesic.specs.Neighbours.{neighbours_of}
use Rattle.mw_geodesic_levels.specs.Pictures.{element_with_corners}
use Rattle.mw_geodesic_areas.specs.Seen.{level_seen}
use Rattle.mw_geodesic_areas.proofs.Planes.{closed_lists}
use Rattle.mw_geodesic_areas.proofs.opening.close_areas.Goals as goal

pub returns-clause-made : goal.returns-clause-made
unfolding level_seen
returns-clause-made g c =
    let made = c.open_into.new.out in
    let size : length made ≡ c.args.height * c.args.width = c.open_into.ensures.size ∙ c.requires.out in
    closed_lists g.P.Pixel.level c.args.maxval c.args.width c.args.height c.args.least (neighbours_of c.args.neighbours) (element_with_corners c.corners.result) c.args.samples.now made c.complement.new.samples c.corners.ensures c.requires.samples size
    (omega (arith, size, c.complement.auto.samples)) c.in_ok-open_into.ensures.each c.complement.ensures
