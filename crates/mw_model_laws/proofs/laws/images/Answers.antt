use Rattle.mw_model.specs.Flat.{erosion, dilation, opening, closing}
use Rattle.mw_model.proofs.ImageLaws.{erosion_picture, dilation_picture, minus_picture, threshold_picture, rank_picture, skeleton_picture}
use Rattle.mw_model.proofs.SkeletonLaws.{restoration_picture}
use Rattle.mw_model_laws.proofs.SetLaws.{complement_picture, opening_picture, closing_picture}
use Rattle.mw_model_laws.proofs.laws.images.Goals as goal

pub returns : goal.returns
returns c = record {
  eroded = erosion_picture;
  dilated = dilation_picture;
  opened = opening_picture;
  closed = closing_picture;
  less = minus_picture;
  gradient = λ b f picture. minus_picture (dilation b f) (erosion b f) (dilation_picture b f picture);
  white = λ b f picture. minus_picture f (opening b f) picture;
  black = λ b f. minus_picture (closing b f) f (closing_picture b f);
  cut = threshold_picture;
  complemented = complement_picture;
  hit = λ hit miss f. minus_picture (erosion hit f) (dilation miss f) (erosion_picture hit f);
  ranked = rank_picture;
  marked = skeleton_picture;
  restored = restoration_picture;
}
