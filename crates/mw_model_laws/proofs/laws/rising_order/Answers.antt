use Rattle.mw_model.proofs.RisingOrder.{ordered_sorted, ordered_permutes}
use Rattle.mw_model_laws.proofs.laws.rising_order.Goals as goal

pub returns : goal.returns
returns c = record { sorted = ordered_sorted; permutation = ordered_permutes }
