use Rattle.mw_core_bytes.proofs.Steps.{work-counts}
use Rattle.mw_core_bytes.proofs.laws.work_takes_no_more.Goals as goal

pub returns : goal.returns
returns c = λ b new m n items s t h run log side. work-counts b new m n items s t h run log side
