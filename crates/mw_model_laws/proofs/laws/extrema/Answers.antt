use Rattle.mw_model.proofs.Extrema.{least_bound, least_reached, greatest_bound, greatest_reached}
use Rattle.mw_model.proofs.ImageLaws.{least_among, fold-min, fold-max_from_none}
use Rattle.mw_model_laws.proofs.laws.extrema.Goals as goal

pub returns : goal.returns
returns c = record { below = least_bound; least = least_reached; among = least_among; folded = fold-min; folded_up = fold-max_from_none; above = greatest_bound; greatest = greatest_reached }
