use Rattle.std.specs.Int.{w8}
use Rattle.mw_pixel.proofs.Lanes.{max_block}
use Rattle.mw_pixel.proofs.max.MaxExtremumU8.combine_block.Goals as goal

pub returns : goal.returns
returns c = max_block w8 c.args.acc.now c.args.other.now c.requires.whole c.requires.paired
