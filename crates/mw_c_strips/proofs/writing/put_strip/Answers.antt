use Rattle.std.proofs.Common.{◌≡◌, ◌+◌, ◌-◌, arith}
use Rattle.mw_c_strips.proofs.writing.put_strip.Goals as goal

pub returns-in-Ok : goal.returns-in-Ok
returns-in-Ok g c =
    let row : c.args.strip.y ≡ c.args.first + (c.args.strip.y - c.args.first) = omega (arith, c.requires.behind) in
    c.in-Ok.ensures.made c.args.first row c.requires.before
