use Rattle.mw_step_task.proofs.Cut.{bounded_cut}
use Rattle.mw_step_task.proofs.laws.cut_windows_are_bounded.Goals as goal

pub returns : goal.returns
returns c = λ s sources m n tile ws cut pictures. bounded_cut s sources m n tile ws cut pictures
