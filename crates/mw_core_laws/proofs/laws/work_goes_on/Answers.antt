use Rattle.mw_core_laws.proofs.Going.{under-finished, under-started}
use Rattle.mw_core_laws.proofs.Later.{under-later}
use Rattle.mw_core_laws.proofs.laws.work_goes_on.Goals as goal

pub returns : goal.returns
returns c = record { machine = under-later; started = under-started; finished = under-finished }
