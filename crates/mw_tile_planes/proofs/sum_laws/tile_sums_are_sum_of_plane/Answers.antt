use Rattle.std.proofs.Common.{arith}
use Rattle.mw_tile_planes.proofs.TileTotals.{tiles_add_up}
use Rattle.mw_tile_planes.proofs.sum_laws.tile_sums_are_sum_of_plane.Goals as goal

pub returns : goal.returns
returns c = λ p f same all made picture width height.
    tiles_add_up c.args.grid p f (record { wide = omega arith; high = omega arith; some = omega arith }) same all made picture width height
