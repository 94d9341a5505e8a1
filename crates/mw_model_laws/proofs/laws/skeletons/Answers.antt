use Rattle.mw_model.proofs.SkeletonLaws.{restoration-skeleton}
use Rattle.mw_model_laws.proofs.laws.skeletons.Goals as goal

pub returns : goal.returns
returns c = restoration-skeleton
