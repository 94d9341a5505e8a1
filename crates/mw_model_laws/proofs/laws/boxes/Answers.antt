use Rattle.mw_model_laws.proofs.BoxLaws.{times-erosion_box, times-dilation_box, times-reflected_box}
use Rattle.mw_model_laws.proofs.laws.boxes.Goals as goal

pub returns : goal.returns
returns c = record { eroded = times-erosion_box; dilated = times-dilation_box; turned = times-reflected_box }
