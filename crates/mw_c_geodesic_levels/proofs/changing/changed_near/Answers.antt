use Rattle.std.proofs.Common.{◌∙◌, ap, sym}
use Rattle.mw_pixel.specs.Images.{set_of}
use Rattle.mw_geodesic.specs.Neighbours.{neighbours_of}
use Rattle.mw_geodesic_levels.specs.Pictures.{picture_by}
use Rattle.mw_c_geodesic_levels.specs.Changes.{levels_changed}
use Rattle.mw_c_geodesic_levels.specs.declared.changing.LevelChange.{LevelChange}
use Rattle.mw_c_geodesic_levels.specs.declared.changing.LevelChange.TheVariants as change
use Rattle.mw_c_geodesic_levels.proofs.Changed.{changed_picture}
use Rattle.mw_c_geodesic_levels.proofs.Planes.{ok_same, plane_picture, within_by}
use Rattle.mw_c_geodesic_levels.proofs.changing.changed_near.Goals as goal

pub image_of-requires-clause-within : goal.image_of-requires-clause-within
image_of-requires-clause-within g c =
    let e = neighbours_of c.args.neighbours in
    let f = picture_by g.P.Pixel.level c.args.maxval c.args.image in
    let is = plane_picture g.P.Pixel.level c.args.maxval c.args.image c.width-size.ensures.size c.requires.within in
    within_by g.P.Pixel.level c.args.maxval c.in_ok-made-in-Alone.made (levels_changed (change.Alone c.in-Alone.alone) e f) c.in_ok-made-in-Alone.ensures (changed_picture (change.Alone c.in-Alone.alone) e f is)

pub image_of-requires-in-DomesCut-clause-within : goal.image_of-requires-in-DomesCut-clause-within
image_of-requires-in-DomesCut-clause-within g c =
    let e = neighbours_of c.args.neighbours in
    let f = picture_by g.P.Pixel.level c.args.maxval c.args.image in
    let is = plane_picture g.P.Pixel.level c.args.maxval c.args.image c.width-size.ensures.size c.requires.within in
    within_by g.P.Pixel.level c.args.maxval c.in_ok-cut-in-DomesCut.cut (levels_changed (change.DomesCut c.in-DomesCut.h) e f) (c.in_ok-cut-in-DomesCut.ensures c.args.maxval) (changed_picture (change.DomesCut c.in-DomesCut.h) e f is)

pub image_of-requires-in-BasinsFilled-clause-within : goal.image_of-requires-in-BasinsFilled-clause-within
image_of-requires-in-BasinsFilled-clause-within g c =
    let e = neighbours_of c.args.neighbours in
    let f = picture_by g.P.Pixel.level c.args.maxval c.args.image in
    let is = plane_picture g.P.Pixel.level c.args.maxval c.args.image c.width-size.ensures.size c.requires.within in
    within_by g.P.Pixel.level c.args.maxval c.in_ok-filled-in-BasinsFilled.filled (levels_changed (change.BasinsFilled c.in-BasinsFilled.h) e f) c.in_ok-filled-in-BasinsFilled.ensures (changed_picture (change.BasinsFilled c.in-BasinsFilled.h) e f is)

pub returns-in_ok-regional_maxima-in-Maxima : goal.returns-in_ok-regional_maxima-in-Maxima
returns-in_ok-regional_maxima-in-Maxima g c =
    let e = neighbours_of c.args.neighbours in
    let f = picture_by g.P.Pixel.level c.args.maxval c.args.image in
    ok_same c.bits.result (set_of c.in_ok-regional_maxima-in-Maxima.field-0) (levels_changed c.args.change e f)
    (c.in_ok-regional_maxima-in-Maxima.ensures c.args.maxval ∙ ap (λ (t : LevelChange). levels_changed t e f) (sym c.in-Maxima.is)) c.bits.ensures
