use Rattle.std.proofs.Common.{subst, arith}
use Rattle.mw_tile_planes.specs.Tiles.{TiledIsSound}
use Rattle.mw_tile_planes.proofs.Sides.{sound_held}
use Rattle.mw_tile_planes.proofs.plane.TiledPlane.sound.Goals as goal

pub returns : goal.returns
returns c =
    let wide = c.width-width.ensures.some in
    let high = c.height-height.ensures.some in
    let least = c.side-side.ensures.some in
    let width-is = c.width-width.ensures.value in
    let height-is = c.height-height.ensures.value in
    let side-is = c.side-side.ensures.value in
    subst TiledIsSound c.self.view_is (sound_held c.self.inside.grid c.self.inside.content (record { wide = omega arith; high = omega arith; some = omega arith }) c.self.invariant)
