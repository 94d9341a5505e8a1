use Rattle.mw_line.proofs.Levels.{fold-max, maximum_is_dilation}
use Rattle.mw_line.proofs.laws.sliding_maximum_is_dilation.Goals as goal

pub returns-clause-fold : goal.returns-clause-fold
returns-clause-fold c = fold-max

pub returns-clause-tile : goal.returns-clause-tile
returns-clause-tile c = maximum_is_dilation
