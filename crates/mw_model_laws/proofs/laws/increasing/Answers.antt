use Rattle.mw_model.proofs.ImageOrder.{erosion_rises, dilation_rises}
use Rattle.mw_model_laws.proofs.laws.increasing.Goals as goal

pub returns : goal.returns
returns c = record { erosion = λ b f g. erosion_rises f g b; dilation = λ b f g. dilation_rises f g b }
