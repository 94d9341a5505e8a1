use Rattle.mw_element.proofs.Exclusive.{is_figure}
use Rattle.mw_element.proofs.laws.elements_are_figures.Goals as goal

pub returns : goal.returns
returns c = λ bytes ox oy figure is. is_figure bytes ox oy figure is
