use Rattle.std.specs.Int.{w8}
use Rattle.mw_pixel.proofs.Same.{same_block}
use Rattle.mw_pixel.proofs.equal.U8Blocks.equal_block.Goals as goal

pub returns : goal.returns
returns c = same_block w8 c.args.a.now c.args.b.now c.requires.whole c.requires.paired
