use Rattle.mw_rank_counts.proofs.Squeezing.{lifted}
use Rattle.mw_rank_counts.proofs.squeezed.lift.Goals as goal

pub returns : goal.returns
returns c = lifted c.args.rest c.args.found.now c.args.ranks.now c.requires.whole c.requires.ranks c.requires.room
