use Rattle.mw_model_laws.proofs.SampleMaps.{threshold-erosion, threshold-dilation, threshold-opening, threshold-closing}
use Rattle.mw_model_laws.proofs.laws.thresholds.Goals as goal

pub returns : goal.returns
returns c = record {
  eroded = λ k b f low high. threshold-erosion k b f high;
  dilated = λ k b f low high. threshold-dilation k b f low;
  opened = threshold-opening;
  closed = threshold-closing;
}
