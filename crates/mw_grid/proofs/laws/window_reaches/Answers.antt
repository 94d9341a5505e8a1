use Rattle.std.proofs.Common.{arith}
use Rattle.mw_grid.specs.Grids.{tile_at}
use Rattle.mw_grid.proofs.Tiles.{tile_begins}
use Rattle.mw_grid.proofs.Reaching.{reaches_all, stays_within}
use Rattle.mw_grid.proofs.laws.window_reaches.Goals as goal

pub returns : goal.returns
returns c =
    let g = c.args.grid in
    let begins = tile_begins g c.args.i (record { wide = omega arith; high = omega arith; some = omega arith }) c.requires.tile in
    record {
      reaches = reaches_all g.width g.height c.args.reach (tile_at g c.args.i) c.args.element.now c.requires.reach;
      within = stays_within g.width g.height c.args.reach (tile_at g c.args.i) (omega (arith, begins.0)) (omega (arith, begins.1));
    }
