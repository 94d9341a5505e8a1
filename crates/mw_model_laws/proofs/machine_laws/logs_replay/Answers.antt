use Rattle.std.proofs.Common.{refl}
use Rattle.mw_model.specs.Machine.{start_state}
use Rattle.mw_model_laws.proofs.RunReplay.{same_run, same_reply, same_answer}
use Rattle.mw_model_laws.proofs.machine_laws.logs_replay.Goals as goal

pub returns : goal.returns
returns c = record {
  table = λ log m n r s. same_run log start_state start_state m n refl r s;
  reply = λ log m n c r s h. same_reply m n c (same_run log start_state start_state m n refl r s) h;
  replies = λ log m n c r s h. same_answer m n c (same_run log start_state start_state m n refl r s) h;
}
