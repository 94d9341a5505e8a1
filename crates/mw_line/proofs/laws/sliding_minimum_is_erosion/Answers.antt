use Rattle.mw_line.proofs.Levels.{fold-min, minimum_is_erosion}
use Rattle.mw_line.proofs.laws.sliding_minimum_is_erosion.Goals as goal

pub returns-clause-fold : goal.returns-clause-fold
returns-clause-fold c = fold-min

pub returns-clause-tile : goal.returns-clause-tile
returns-clause-tile c = minimum_is_erosion
