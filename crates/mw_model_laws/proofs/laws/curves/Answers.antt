use Rattle.mw_model.proofs.CurveLaws.{volumes_by_line, falls_by_line, rest_of_last}
use Rattle.mw_model_laws.proofs.laws.curves.Goals as goal

pub returns : goal.returns
returns c = record { volumes = volumes_by_line; falls = falls_by_line; rest = rest_of_last }
