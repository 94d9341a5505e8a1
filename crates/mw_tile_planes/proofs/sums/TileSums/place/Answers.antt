use Rattle.mw_tile_planes.proofs.Summed.{summed_set}
use Rattle.mw_tile_planes.proofs.sums.TileSums.place.Goals as goal

pub returns : goal.returns
returns c = summed_set c.self.inside.kind c.self.inside.maxval c.args.i c.args.number c.self.inside.grid c.self.inside.numbers.items c.args.self.now c.self.view_is
