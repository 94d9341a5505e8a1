use Rattle.mw_core_laws.proofs.Curves.{result-curve}
use Rattle.mw_core_laws.proofs.Going.{true-finished, true-under}
use Rattle.mw_core_laws.proofs.Making.{finishes-made}
use Rattle.mw_core_laws.proofs.Settling.{result-image}
use Rattle.mw_core_laws.proofs.laws.finished_work.Goals as goal

pub returns : goal.returns
returns c = record { made = finishes-made; stands = λ m t old new n w f. true-finished m t old new n (true-under m t old w) f; image = result-image; curve = result-curve }
