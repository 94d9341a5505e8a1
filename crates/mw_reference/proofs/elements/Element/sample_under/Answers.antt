use Rattle.std.proofs.Common.{arith}
use Rattle.mw_reference.proofs.Loops.{length-placed, turned_under, upright_under}
use Rattle.mw_reference.proofs.elements.Element.sample_under.Goals as goal

pub offset_bounds-offsets-i : goal.offset_bounds-offsets-i
offset_bounds-offsets-i c =
    let same = length-placed c.self.inside.turned c.self.inside.offsets.now c.args.self.now c.self.view_is in
    omega arith

pub returns-then-self : goal.returns-then-self
returns-then-self c =
    turned_under c.args.image.now c.self.inside.turned c.self.inside.offsets.now c.args.self.now c.args.i c.args.x c.args.y _ _ c.sample_back.result c.if-self.true c.self.view_is c.requires
    c.sample_back.ensures

pub returns-else-self : goal.returns-else-self
returns-else-self c =
    upright_under c.args.image.now c.self.inside.turned c.self.inside.offsets.now c.args.self.now c.args.i c.args.x c.args.y _ _ c.sample_from.result c.if-self.false c.self.view_is c.requires
    c.sample_from.ensures
