use Rattle.std.specs.Int.{w16}
use Rattle.mw_pixel.proofs.Same.{same_block}
use Rattle.mw_pixel.proofs.equal.U16Blocks.equal_block.Goals as goal

pub returns : goal.returns
returns c = same_block w16 c.args.a.now c.args.b.now c.requires.whole c.requires.paired
