use Rattle.std.proofs.Common.{◌≡◌, ℕ, ◌+◌, ◌*◌, ◌<◌, true, get_or, refl, sym, subst, arith, ◌∙◌}
use Rattle.std.proofs.lemmas.Result.{IfOk-weaker}
use Rattle.mw_model.specs.Rasters.{Raster, raster, cell_at}
use Rattle.mw_model.specs.Windows.{seen_at}
use Rattle.mw_line.specs.Extrema.{IsSlidingExtremum}
use Rattle.mw_line.specs.mw_tile.Windows.{IsWindow}
use Rattle.mw_line.proofs.Tiles.{on_frame, tile_made}
use Rattle.mw_offset.proofs.mw_element_runs.Orders.{fold_either_way}
use Rattle.mw_offset.specs.mw_element_runs.Runs.{AreEitherWay}
use Rattle.mw_chord_lent.specs.Works.{IsSeen}
use Rattle.mw_chord_lent.proofs.tiles.chords_into.Goals as goal

pub returns-clause-over_window : goal.returns-clause-over_window
returns-clause-over_window g c =
    let f = g.E.Extremum.merge in
    let n = c.args.neutral in
    let w = c.args.lent.now in
    let tile = c.args.tile in
    let offsets = c.args.offsets.now in
    let runs = c.as_slice-2.result.now in
    let out = c.put_tile.new.out in
    IfOk-weaker c.put_tile.result (λ done. done ≡ true → (x y : ℕ) → x < tile.width → y < tile.height → IsSeen f n (seen_at w) runs tile x y (get_or out (y * tile.width + x) n))
    (λ done. done ≡ true → IsSlidingExtremum f n (seen_at w) offsets tile (raster tile.width tile.height out))
    (λ done is yes. tile_made f n n (seen_at w) offsets tile out (raster tile.width tile.height out) refl (omega (arith, c.put_tile.ensures.size, c.requires))
    (λ x y less row_less. is yes x y less row_less ∙ fold_either_way f g.met.E.Extremum.commutes g.met.E.Extremum.associates n (seen_at w) offsets runs (tile.x + x) (tile.y + y) (subst (AreEitherWay offsets) (sym c.as_slice-2.ensures.value) c.in_ok-runs.ensures.offsets)))
    c.put_tile.ensures.made

pub returns-clause-over_frame : goal.returns-clause-over_frame
returns-clause-over_frame g c =
    let f = g.E.Extremum.merge in
    let n = c.args.neutral in
    let w = c.args.lent.now in
    let tile = c.args.tile in
    let offsets = c.args.offsets.now in
    let r = raster tile.width tile.height c.put_tile.new.out in
    IfOk-weaker c.put_tile.result (λ done. done ≡ true → IsSlidingExtremum f n (seen_at w) offsets tile r)
    (λ done. done ≡ true → (h : Raster g.row.P.Denot) → IsWindow w h offsets tile → IsSlidingExtremum f n (cell_at h) offsets tile r)
    (λ done made yes h window. on_frame f n w h offsets tile r (made yes) window) (returns-clause-over_window g c)
