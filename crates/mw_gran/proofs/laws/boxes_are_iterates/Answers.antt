use Rattle.mw_gran.proofs.MultipliedBoxes.{erosion-multiplied, dilation-multiplied, dilation-multiplied_turned}
use Rattle.mw_gran.proofs.laws.boxes_are_iterates.Goals as goal

pub returns-clause-eroded : goal.returns-clause-eroded
returns-clause-eroded c = erosion-multiplied

pub returns-clause-dilated : goal.returns-clause-dilated
returns-clause-dilated c = dilation-multiplied

pub returns-clause-dilated_back : goal.returns-clause-dilated_back
returns-clause-dilated_back c = dilation-multiplied_turned
