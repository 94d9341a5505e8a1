use Rattle.mw_model.proofs.CurveLaws.{length-spectrum, spectrum_at}
use Rattle.mw_model_laws.proofs.laws.spectra.Goals as goal

pub returns : goal.returns
returns c = record { count = length-spectrum; volume = spectrum_at }
