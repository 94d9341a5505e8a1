use Rattle.std.proofs.Common.{◌∙◌, arith}
use Rattle.mw_grid.proofs.Meeting.{turned_sees}
use Rattle.mw_grid.proofs.blocks.Block.meeting.Goals as goal

pub returns-clause-meets : goal.returns-clause-meets
returns-clause-meets c = λ v lt.
    c.met_by.ensures.meets v lt ∙ turned_sees c.args.grid c.args.reach c.args.tile v (record { wide = omega arith; high = omega arith; some = omega arith }) c.requires lt
