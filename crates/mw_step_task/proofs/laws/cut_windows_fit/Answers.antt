use Rattle.mw_step_task.proofs.Cut.{fits_cut}
use Rattle.mw_step_task.proofs.laws.cut_windows_fit.Goals as goal

pub returns : goal.returns
returns c = λ s sources m n tile ws cut narrow low wide high count kinds. fits_cut s sources m n tile ws cut narrow low wide high count kinds
