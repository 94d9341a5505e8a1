use Rattle.std.proofs.Common.{◌≡◌, ℕ, ap, subst, sym, arith}
use Rattle.std.proofs.lemmas.Bool.{ltb-true, ltb-false}
use Rattle.mw_model.specs.Rasters.{Raster}
use Rattle.mw_pixel.specs.Images.{set_of}
use Rattle.mw_geodesic_kept.specs.Keeping.{HasPixelOf}
use Rattle.mw_geodesic_kept.proofs.Looking.{pixel_met, pixel_missed}
use Rattle.mw_geodesic_kept.proofs.marks.meets.Goals as goal

pub returns-clause-yes : goal.returns-clause-yes
returns-clause-yes c = λ is.
    let p = c.words.result.now in
    let wide : p.width ≡ c.args.marker.now.width = ap (λ (t : Raster ℕ). t.width) c.words.ensures.value in
    subst (λ (t : Raster ℕ). HasPixelOf (set_of t) c.args.run) c.words.ensures.value
    (pixel_met (set_of p) c.args.run c.row-row.result.now c.stride.result c.next_place.result (omega (arith, c.stride.ensures.value, c.from.ensures)) (omega (arith, c.stride.ensures.value, c.from.ensures, c.row-row.ensures.length, c.requires.across)) (omega (arith, c.requires.across)) c.row-row.ensures.samples
    c.next_place.ensures.from c.next_place.ensures.found (ltb-true c.next_place.result c.args.run.end is))

pub returns-clause-no : goal.returns-clause-no
returns-clause-no c = λ is pixel.
    let p = c.words.result.now in
    let wide : p.width ≡ c.args.marker.now.width = ap (λ (t : Raster ℕ). t.width) c.words.ensures.value in
    pixel_missed (set_of p) c.args.run c.row-row.result.now c.stride.result c.next_place.result (omega (arith, c.stride.ensures.value, c.from.ensures)) (omega (arith, c.requires.across)) c.row-row.ensures.samples
    c.next_place.ensures.none (ltb-false c.next_place.result c.args.run.end is) (subst (λ (t : Raster ℕ). HasPixelOf (set_of t) c.args.run) (sym c.words.ensures.value) pixel)
