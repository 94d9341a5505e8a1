use Rattle.std.proofs.Common.{◌≡◌, IsTrue, ap, sym, subst, arith, ◌∙◌}
use Rattle.mw_model.specs.declared.offsets.Rect.{Rect}
use Rattle.mw_model.specs.Rasters.{Raster}
use Rattle.mw_tile_pieces.specs.mw_tile.Windows.{IsCut}
use Rattle.mw_tile_pieces.specs.mw_tile.Cuts.{view_of}
use Rattle.mw_tile_slots.proofs.Sharing.{agrees_tile, inside_itself}
use Rattle.mw_tile_slots.proofs.equal.is_piece.Goals as goal

pub agrees-requires : goal.agrees-requires
agrees-requires g c =
    let within = c.requires.within in
    let across = within.across in
    let down = within.down in
    let patch = c.requires.patch.within in
    let wide = patch.across in
    let high = patch.down in
    let width-is = c.width-width.ensures.value in
    let height-is = c.height-height.ensures.value in
    let at-is : c.place-at.result ≡ c.args.piece.now.place = c.place-at.ensures in
    let xs = ap (λ (q : Rect). q.x) at-is in
    let ys = ap (λ (q : Rect). q.y) at-is in
    let ws = ap (λ (q : Rect). q.width) at-is in
    let hs = ap (λ (q : Rect). q.height) at-is in
    record {
      across = omega arith;
      down = omega arith;
      across_at = omega arith;
      down_at = omega arith;
      width = ap (λ (q : Raster _). q.width) c.plane.ensures ∙ c.in-Some.ensures.stands.width;
      height = ap (λ (q : Raster _). q.height) c.plane.ensures ∙ c.in-Some.ensures.stands.height;
      inside = inside_itself c.args.piece.now.place c.place-at.result at-is;
    }

pub returns-in-Some : goal.returns-in-Some
returns-in-Some g c = λ f shows.
    let cut = subst (λ (q : Raster _). IsCut (view_of c.args.grid.width c.args.grid.height c.place-at.result q.cells) f) (sym c.plane.ensures) (c.in-Some.ensures.value f shows) in
    agrees_tile f c.plane.result.now c.args.grid.width c.args.grid.height c.args.place c.place-at.result c.args.piece.now (IsTrue c.agrees.result) c.place-at.ensures cut c.agrees.ensures
