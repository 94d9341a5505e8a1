use Rattle.mw_model_laws.proofs.SampleMaps.{hit-or-miss_of_set}
use Rattle.mw_model_laws.proofs.laws.hits_of_sets.Goals as goal

pub returns : goal.returns
returns c = λ hit miss f set. hit-or-miss_of_set hit miss f set.maxval
