use Rattle.mw_model.proofs.ImageOrder.{opening_below, opening_twice}
use Rattle.mw_model_laws.proofs.laws.opening_laws.Goals as goal

pub returns : goal.returns
returns c = record { anti_extensive = opening_below; idempotent = opening_twice }
