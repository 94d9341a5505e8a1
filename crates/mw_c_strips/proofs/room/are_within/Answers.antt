use Rattle.std.proofs.Common.{◌+◌, ◌*◌, arith, sym}
use Rattle.std.proofs.lemmas.Bool.{lt-leb}
use Rattle.mw_c_strips.proofs.SomeRows.{stand_behind}
use Rattle.mw_c_strips.proofs.room.are_within.Goals as goal

pub returns-then-count-room : goal.returns-then-count-room
returns-then-count-room c = sym (lt-leb (c.args.first * c.args.width + c.args.room) c.args.count (omega (arith, c.if-count-room.true)))

pub returns : goal.returns
returns c = stand_behind (c.args.first * c.args.width) c.args.room c.args.count c.if-count-room.false
