use Rattle.mw_session.proofs.Covering.{covered-within}
use Rattle.mw_session.proofs.laws.covered_is_within.Goals as goal

pub returns : goal.returns
returns c = λ b d covers within. covered-within b.most b.taken b.beside d covers within
