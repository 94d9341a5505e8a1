use Rattle.std.proofs.Common.{◌++◌}
use Rattle.mw_model.specs.Lines.{Found, Fault}
use Rattle.mw_session_intake.proofs.Front.{front_found, front_fault, is_front, front_is}
use Rattle.mw_session_intake.proofs.laws.front_stays.Goals as goal

pub returns : goal.returns
returns c = record {
  found = λ xs ys rest r h. is_front (xs ++ ys) (Found r (rest ++ ys)) (front_found xs ys r rest (front_is xs (Found r rest) h));
  fault = λ xs ys k h. is_front (xs ++ ys) (Fault k) (front_fault xs ys k (front_is xs (Fault k) h));
}
