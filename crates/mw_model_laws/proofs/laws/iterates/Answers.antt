use Rattle.std.proofs.Common.{refl, add-one}
use Rattle.mw_model_laws.proofs.ResidueLaws.{times-sum}
use Rattle.mw_model_laws.proofs.laws.iterates.Goals as goal

pub returns : goal.returns
returns c = record { none = λ operator f. refl; one_more = λ operator n f. rw add-one refl; sum = times-sum }
