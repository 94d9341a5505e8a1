use Rattle.std.proofs.Common.{arith, refl, subst}
use Rattle.mw_model.specs.declared.offsets.Rect.{Rect}
use Rattle.mw_model.specs.Rasters.{raster}
use Rattle.mw_model.specs.Windows.{seen_at}
use Rattle.mw_line.proofs.Tiles.{on_frame, tile_made}
use Rattle.mw_offset_lent.specs.Layouts.{HasSeenRows}
use Rattle.mw_offset_lent.proofs.tiles.offsets_into.Goals as goal

pub returns-clause-over_window : goal.returns-clause-over_window
returns-clause-over_window g c = λ done.
    let f = g.E.Extremum.merge in
    let n = c.args.neutral in
    let w = c.args.lent.now in
    let tile = c.args.tile in
    let offsets = c.args.offsets.now in
    let out = c.put_tile.new.out in
    let made : HasSeenRows f n (seen_at w) offsets tile tile.height out = subst (λ (t : Rect). HasSeenRows f n (seen_at w) offsets t t.height out) c.layout_of-laid.ensures.tile c.in_ok-put_tile.ensures.made in
    tile_made f n n (seen_at w) offsets tile out (raster tile.width tile.height out) refl (omega (arith, c.put_tile.ensures.size, c.requires)) (λ x y less row_less. made x y less row_less)

pub returns-clause-over_frame : goal.returns-clause-over_frame
returns-clause-over_frame g c = λ done f window.
    on_frame g.E.Extremum.merge c.args.neutral c.args.lent.now f c.args.offsets.now c.args.tile (raster c.args.tile.width c.args.tile.height c.put_tile.new.out) (returns-clause-over_window g c done) window
