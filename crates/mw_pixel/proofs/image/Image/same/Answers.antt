use Rattle.std.proofs.Common.{rules}
use Rattle.mw_pixel.proofs.Held.{grey8_is_no_other, grey16_is_no_other}
use Rattle.mw_pixel.proofs.image.Image.same.Goals as goal

pub returns-in_default-2 : goal.returns-in_default-2
returns-in_default-2 c =
    let not = grey8_is_no_other c.in_default.field-0-0 c.in_default.field-1-0 c.self.inside.content c.other.inside.content c.args.self.now c.args.other.now c.in_default.is-0 c.self.invariant c.other.invariant c.in_default.not-Grey8-1 c.self.view_is c.other.view_is in
    search rules

pub returns-in_default-3 : goal.returns-in_default-3
returns-in_default-3 c =
    let not = grey16_is_no_other c.in_default.field-0-0 c.in_default.field-1-0 c.self.inside.content c.other.inside.content c.args.self.now c.args.other.now c.in_default.is-0 c.self.invariant c.other.invariant c.in_default.not-Grey16-1 c.self.view_is c.other.view_is in
    search rules
