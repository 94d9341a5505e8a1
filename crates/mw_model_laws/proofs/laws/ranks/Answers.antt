use Rattle.mw_model.proofs.RisingOrder.{rank_among, rank_few_below, rank_enough_up_to}
use Rattle.mw_model_laws.proofs.laws.ranks.Goals as goal

pub returns : goal.returns
returns c = record { among = rank_among; few_below = rank_few_below; enough_up_to = rank_enough_up_to }
