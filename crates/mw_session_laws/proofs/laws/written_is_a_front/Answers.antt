use Rattle.std.specs.Io.KnownBytes.{IsAtEnd}
use Rattle.mw_session_laws.proofs.Fronts.{broken_front}
use Rattle.mw_session_laws.proofs.laws.written_is_a_front.Goals as goal

pub returns : goal.returns
returns c = λ left bytes behind ts us m n k x y e b w s other. broken_front (IsAtEnd left) bytes behind ts us m n k x y e b w s other
