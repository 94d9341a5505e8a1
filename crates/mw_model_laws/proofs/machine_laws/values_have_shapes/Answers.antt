use Rattle.mw_model_laws.proofs.RunStates.{reached}
use Rattle.mw_model_laws.proofs.machine_laws.values_have_shapes.Goals as goal

pub returns : goal.returns
returns c = record { shapes = λ log m r. (reached log m r).shapes; limits = λ log m r. (reached log m r).limits }
