use Rattle.mw_step_task.proofs.Bounded.{made_below}
use Rattle.mw_step_task.proofs.laws.made_is_bounded.Goals as goal

pub returns : goal.returns
returns c = λ t fits bounded not. made_below t fits.kinds bounded not
