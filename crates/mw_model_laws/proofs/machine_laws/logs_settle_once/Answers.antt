use Rattle.mw_model.specs.Machine.{start_state}
use Rattle.mw_model_laws.proofs.RunStates.{start_sound, reached}
use Rattle.mw_model_laws.proofs.RunSettling.{done_was_finished, finished_is_done, settled_once}
use Rattle.mw_model_laws.proofs.machine_laws.logs_settle_once.Goals as goal

pub returns : goal.returns
returns c = record {
  finished = done_was_finished;
  done = λ log m t r h. finished_is_done log start_state m t start_sound r h;
  once = λ log more m n t r l h s. settled_once more m n t (reached log m r) l h s;
}
