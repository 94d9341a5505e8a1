use Rattle.mw_session_laws.proofs.Readings.{script_once}
use Rattle.mw_session_laws.proofs.laws.one_output.Goals as goal

pub returns : goal.returns
returns c = λ bytes ts us m n k x y e f a b p q g h. script_once (Unit {0}) bytes ts us m n k x y e f a b p q g h
