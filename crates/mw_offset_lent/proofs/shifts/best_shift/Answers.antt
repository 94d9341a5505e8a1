use Rattle.std.proofs.Common.{◌+◌, ◌-◌, ◌^◌, arith}
use Rattle.mw_offset_lent.proofs.Rooms.{all_below}
use Rattle.mw_offset_lent.proofs.shifts.best_shift.Goals as goal

pub shared_count-requires : goal.shared_count-requires
shared_count-requires c = all_below c.args.all.now c.args.wide (c.args.wide + 8) (2 ^ 64) (omega arith) c.requires.places

pub shared_count-requires-in-loop-columns : goal.shared_count-requires-in-loop-columns
shared_count-requires-in-loop-columns c = all_below c.args.all.now (c.args.wide + c.loop-columns.columns) (c.args.wide + 8) (2 ^ 64) (omega arith) c.requires.places

pub shared_count-requires-in-loop-columns-2 : goal.shared_count-requires-in-loop-columns-2
shared_count-requires-in-loop-columns-2 c = all_below c.args.all.now (c.args.wide - c.loop-columns.columns) (c.args.wide + 8) (2 ^ 64) (omega arith) c.requires.places
