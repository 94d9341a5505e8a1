use Rattle.mw_model.proofs.ImagePlaces.{sample_bounded}
use Rattle.mw_model.proofs.ImageOrder.{closing_above, closing_twice}
use Rattle.mw_model_laws.proofs.laws.closing_laws.Goals as goal

pub returns : goal.returns
returns c = record {
  extensive = λ b f picture. closing_above b f (sample_bounded f picture);
  idempotent = λ b f picture. closing_twice b f (sample_bounded f picture);
}
