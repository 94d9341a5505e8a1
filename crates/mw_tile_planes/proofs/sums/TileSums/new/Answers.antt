use Rattle.mw_tile_planes.proofs.Summed.{summed_none}
use Rattle.mw_tile_planes.proofs.sums.TileSums.new.Goals as goal

pub returns : goal.returns
returns c = summed_none c.args.kind c.args.maxval _ c.args.grid c.in_ok-numbers.numbers.items c.in_ok-numbers.ensures c.len.ensures.value
