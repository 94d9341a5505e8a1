use Rattle.mw_model_laws.proofs.SetLaws.{erosion_of_complement, dilation_of_complement, complement_twice}
use Rattle.mw_model_laws.proofs.laws.duality.Goals as goal

pub returns : goal.returns
returns c = record { eroded = erosion_of_complement; dilated = dilation_of_complement; twice = complement_twice }
