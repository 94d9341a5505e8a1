use Rattle.std.proofs.Common.{add-one}
use Rattle.mw_model.proofs.Iterated.{volume_falls}
use Rattle.mw_model_laws.proofs.laws.volumes.Goals as goal

pub returns : goal.returns
returns c = λ b n f picture. rw add-one (volume_falls b n f picture.size)
