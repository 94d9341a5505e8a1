use Rattle.mw_line.proofs.Segments.{erosion_is_line, dilation_is_line}
use Rattle.mw_line.proofs.laws.windows_of_a_row_are_operators.Goals as goal

pub returns-clause-erosion : goal.returns-clause-erosion
returns-clause-erosion c = erosion_is_line

pub returns-clause-dilation : goal.returns-clause-dilation
returns-clause-dilation c = dilation_is_line
