use Rattle.std.proofs.Common.{ap, sym, arith}
use Rattle.mw_model.specs.Rasters.{Raster}
use Rattle.mw_geodesic.specs.Neighbours.{neighbours_of}
use Rattle.mw_geodesic_levels.specs.declared.frame.Frame.{Frame}
use Rattle.mw_geodesic_areas.specs.Seen.{level_seen}
use Rattle.mw_geodesic_areas.proofs.Planes.{opened_planes}
use Rattle.mw_geodesic_areas.proofs.opening.area_opening.Goals as goal

pub returns : goal.returns
unfolding level_seen
returns g c = λ maxval is_picture.
    let frame : Frame = record { width = c.width.result; height = c.height.result; corners = c.corners.result } in
    opened_planes g.P.Pixel.level maxval c.args.least frame c.args.image.now c.new.result (neighbours_of c.args.neighbours) c.samples.result.now c.in_ok-out.out.items c.corners.ensures
    (sym c.width.ensures.value) (sym c.height.ensures.value) (ap (λ (t : Raster _). t.width) c.new.ensures) (ap (λ (t : Raster _). t.height) c.new.ensures) c.samples.ensures.value (ap (λ (t : Raster _). t.cells) c.new.ensures)
    (omega (arith, c.in_ok-out.ensures.size, c.in_ok-out.out.ok.0)) is_picture c.in_ok-out.ensures.each
