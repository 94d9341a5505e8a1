use Rattle.mw_core_bytes.proofs.Steps.{call-counts}
use Rattle.mw_core_bytes.proofs.laws.calls_take_what_they_ask.Goals as goal

pub returns : goal.returns
returns c = λ b new m q p r s with h side. call-counts b new m q p r s with h side
