use Rattle.mw_model_laws.proofs.RunCascade.{is_killed, killed_alone}
use Rattle.mw_model_laws.proofs.machine_laws.kill_means.Goals as goal

pub returns : goal.returns
returns c = record { is = is_killed; alone = killed_alone }
