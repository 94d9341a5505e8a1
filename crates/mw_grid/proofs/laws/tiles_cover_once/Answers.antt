use Rattle.std.proofs.Common.{arith}
use Rattle.mw_grid.proofs.Tiles.{cover_once}
use Rattle.mw_grid.proofs.laws.tiles_cover_once.Goals as goal

pub returns : goal.returns
returns c = cover_once c.args.grid (record { wide = omega arith; high = omega arith; some = omega arith })
