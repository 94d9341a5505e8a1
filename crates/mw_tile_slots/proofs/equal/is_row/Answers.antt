use Rattle.std.proofs.Common.{◌≡◌, ◌-◌, ap, sym, subst, arith, rules}
use Rattle.mw_model.specs.declared.offsets.Rect.{Rect}
use Rattle.mw_model.specs.Rectangles.{Holds}
use Rattle.mw_model.specs.Rasters.{Raster}
use Rattle.mw_grid.specs.Grids.{tile_at}
use Rattle.mw_tile_pieces.specs.mw_tile.Windows.{IsCut}
use Rattle.mw_tile_pieces.specs.mw_tile.Cuts.{view_of}
use Rattle.mw_tile_pieces.proofs.Patches.{run_in}
use Rattle.mw_tile_slots.specs.Tiles.{cells_of, ShowsTiles, HasSidesOf}
use Rattle.mw_tile_slots.proofs.Compared.{part_of, parts_same, parts_shown, PartOf}
use Rattle.mw_tile_slots.proofs.equal.is_row.Goals as goal

pub tile_of-requires-clause-placed : goal.tile_of-requires-clause-placed
tile_of-requires-clause-placed g c = c.requires.placed c.parts.at c.parts.invariant.from c.parts-test.true c.tile_number-i.result c.tile_number-i.ensures.within c.tile_number-i.ensures.holds

pub same_run-requires : goal.same_run-requires
same_run-requires g c =
    let p = c.args.piece.now in
    let i = c.tile_number-i.result in
    let holds : Holds (tile_at c.args.grid i) c.parts.at c.args.y = c.tile_number-i.ensures.holds in
    let place-is : c.rect-place.result ≡ tile_at c.args.grid i = c.rect-place.ensures.value in
    let here : Holds c.rect-place.result c.parts.at c.args.y = subst (λ (r : Rect). Holds r c.parts.at c.args.y) (sym place-is) holds in
    let tile-is = c.plane-tile.ensures in
    let stands : HasSidesOf c.rect-place.result c.plane-tile.result.now
    = subst (λ (r : Rect). HasSidesOf r c.plane-tile.result.now) (sym place-is) (subst (λ (t : Raster _). HasSidesOf (tile_at c.args.grid i) t) (sym tile-is) c.tile_of.ensures.stands) in
    let us = ap (λ (q : Rect). q.x) c.place-stands.ensures in
    let vs = ap (λ (q : Rect). q.y) c.place-stands.ensures in
    let wide = ap (λ (f : Raster _). f.width) c.plane-own.ensures.value in
    let high = ap (λ (f : Raster _). f.height) c.plane-own.ensures.value in
    let a = here.left in
    let b = here.right in
    let d = here.top in
    let e = here.bottom in
    let w = stands.width in
    let h = stands.height in
    let from = c.parts.invariant.from in
    let test = c.parts-test.true in
    let stop = c.min-stop.ensures in
    let left = c.requires.left in
    let right = c.requires.right in
    let top = c.requires.top in
    let bottom = c.requires.bottom in
    record { across = omega arith; down = omega arith; across_other = omega arith; down_other = omega arith }

pub parts-preserved : goal.parts-preserved
parts-preserved g c =
    let p = c.args.piece.now in
    let i = c.tile_number-i.result in
    let n = c.min-stop.result - c.parts.at in
    let t = c.plane-tile.result.now in
    let own = c.plane-own.result.now in
    let place = c.rect-place.result in
    let place-is : place ≡ tile_at c.args.grid i = c.rect-place.ensures.value in
    let tile-is = c.plane-tile.ensures in
    let here : Holds place c.parts.at c.args.y = subst (λ (r : Rect). Holds r c.parts.at c.args.y) (sym place-is) c.tile_number-i.ensures.holds in
    let stands : HasSidesOf place t = subst (λ (r : Rect). HasSidesOf r t) (sym place-is) (subst (λ (u : Raster _). HasSidesOf (tile_at c.args.grid i) u) (sym tile-is) c.tile_of.ensures.stands) in
    let b = here.right in
    let from = c.parts.invariant.from in
    let test = c.parts-test.true in
    let stop = c.min-stop.ensures in
    let left = c.requires.left in
    let right = c.requires.right in
    let part : (f : Raster _) → ShowsTiles c.args.grid (cells_of c.args.tiles.now) f → PartOf f p c.parts.at c.args.y n (run_in own.cells c.place-stands.result own.width c.parts.at c.args.y n) (run_in t.cells place t.width c.parts.at c.args.y n)
    = λ f shows.
    part_of f t own p c.place-stands.result place c.args.grid.width c.args.grid.height c.parts.at c.args.y n c.plane-own.ensures.value c.place-stands.ensures c.plane-own.ensures.full (omega arith) (omega arith) c.requires.top c.requires.bottom stands
    (subst (λ (r : Rect). IsCut (view_of c.args.grid.width c.args.grid.height r t.cells) f) (sym place-is) (subst (λ (u : Raster _). IsCut (view_of c.args.grid.width c.args.grid.height (tile_at c.args.grid i) u.cells) f) (sym tile-is) (c.tile_of.ensures.value f shows))) here (omega arith) in
    record {
      from = omega arith;
      to = omega arith;
      same = λ f shows.
          parts_shown f p c.args.x c.args.y c.parts.at (c.parts.at - c.args.x) n (c.min-stop.result - c.args.x) _ _ (omega arith) (omega arith) (part f shows) (c.same_run.ensures.0 c.if-not-same_run.false) (c.parts.invariant.same f shows);
    }

pub returns-then-not-same_run : goal.returns-then-not-same_run
returns-then-not-same_run g c = λ f shows.
    let p = c.args.piece.now in
    let i = c.tile_number-i.result in
    let n = c.min-stop.result - c.parts.at in
    let t = c.plane-tile.result.now in
    let own = c.plane-own.result.now in
    let place = c.rect-place.result in
    let place-is : place ≡ tile_at c.args.grid i = c.rect-place.ensures.value in
    let tile-is = c.plane-tile.ensures in
    let here : Holds place c.parts.at c.args.y = subst (λ (r : Rect). Holds r c.parts.at c.args.y) (sym place-is) c.tile_number-i.ensures.holds in
    let stands : HasSidesOf place t = subst (λ (r : Rect). HasSidesOf r t) (sym place-is) (subst (λ (u : Raster _). HasSidesOf (tile_at c.args.grid i) u) (sym tile-is) c.tile_of.ensures.stands) in
    let b = here.right in
    let from = c.parts.invariant.from in
    let test = c.parts-test.true in
    let stop = c.min-stop.ensures in
    let left = c.requires.left in
    let right = c.requires.right in
    let part : (f : Raster _) → ShowsTiles c.args.grid (cells_of c.args.tiles.now) f → PartOf f p c.parts.at c.args.y n (run_in own.cells c.place-stands.result own.width c.parts.at c.args.y n) (run_in t.cells place t.width c.parts.at c.args.y n)
    = λ f shows.
    part_of f t own p c.place-stands.result place c.args.grid.width c.args.grid.height c.parts.at c.args.y n c.plane-own.ensures.value c.place-stands.ensures c.plane-own.ensures.full (omega arith) (omega arith) c.requires.top c.requires.bottom stands
    (subst (λ (r : Rect). IsCut (view_of c.args.grid.width c.args.grid.height r t.cells) f) (sym place-is) (subst (λ (u : Raster _). IsCut (view_of c.args.grid.width c.args.grid.height (tile_at c.args.grid i) u.cells) f) (sym tile-is) (c.tile_of.ensures.value f shows))) here (omega arith) in
    ((λ no. absurd cc), (λ whole. c.if-not-same_run.ensures.1 (parts_same f p c.args.x c.args.y c.parts.at (c.parts.at - c.args.x) n c.args.count _ _ (omega arith) (omega arith) (part f shows) whole)))

pub returns : goal.returns
returns g c = λ f shows.
    let test = c.parts-test.false in
    let to = c.parts.invariant.to in
    let from = c.parts.invariant.from in
    ((λ yes k lt. c.parts.invariant.same f shows k (omega arith)), (λ whole. search rules))
