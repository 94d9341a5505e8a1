use Rattle.mw_model_laws.proofs.RunStates.{start_sound, step_sound, reached}
use Rattle.mw_model_laws.proofs.machine_laws.sound_states.Goals as goal

pub returns : goal.returns
returns c = record { start = start_sound; step = step_sound; reached = reached }
