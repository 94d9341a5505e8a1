use Rattle.mw_model.proofs.ImagePlaces.{sample_bounded}
use Rattle.mw_model.proofs.ImageOrder.{dilation_below, below_erosion}
use Rattle.mw_model.proofs.Covers.{reflected-IsTurned, turned_back}
use Rattle.mw_model_laws.proofs.laws.adjoint.Goals as goal

pub returns : goal.returns
returns c = λ f g b picture shape. (below_erosion f g b _ (reflected-IsTurned b) shape (sample_bounded g picture), dilation_below f g b _ (turned_back b) shape)
