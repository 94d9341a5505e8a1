use Rattle.mw_step_task.proofs.Cut.{made_of_cut}
use Rattle.mw_step_task.proofs.laws.tile_of_windows_is_tile_of_planes.Goals as goal

pub returns : goal.returns
returns c = λ s sources m n tile ws cut. made_of_cut s sources m n tile ws cut
