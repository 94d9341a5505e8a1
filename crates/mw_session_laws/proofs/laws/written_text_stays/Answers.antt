use Rattle.mw_session_laws.proofs.Readings.{front_once}
use Rattle.mw_session_laws.proofs.laws.written_text_stays.Goals as goal

pub returns : goal.returns
returns c = λ ts us m n k x y a b. front_once ts us m n k x y a b
