use Rattle.std.proofs.Common.{arith}
use Rattle.mw_tile_planes.proofs.Made.{plane_is_made}
use Rattle.mw_tile_planes.proofs.laws.tiles_are_plane.Goals as goal

pub returns : goal.returns
returns c = λ p s sources same no_sum kind maxval made.
    plane_is_made c.args.grid p s sources (record { wide = omega arith; high = omega arith; some = omega arith }) same no_sum kind maxval made
