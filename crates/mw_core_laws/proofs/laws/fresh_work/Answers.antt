use Rattle.mw_core_laws.proofs.Fresh.{image-accepted, work-fresh}
use Rattle.mw_core_laws.proofs.Workable.{under-fresh, workable-accepted}
use Rattle.mw_core_laws.proofs.laws.fresh_work.Goals as goal

pub returns : goal.returns
returns c = record { work = work-fresh; image = image-accepted; workable = workable-accepted; stands = under-fresh }
