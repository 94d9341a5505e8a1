use Rattle.mw_model_laws.proofs.ResidueLaws.{restored_from, restored_back}
use Rattle.mw_model_laws.proofs.laws.restorations.Goals as goal

pub returns : goal.returns
returns c = λ b depth g x y p q. (restored_from b depth g x y p q, restored_back b depth g x y p q)
