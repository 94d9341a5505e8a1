use Rattle.mw_model_laws.proofs.SetLaws.{erosion_set, dilation_set, opening_set, closing_set, complement_set, hit-or-miss_set, set_hit-or-miss_set, threshold_set, restoration_set}
use Rattle.mw_model_laws.proofs.laws.sets.Goals as goal

pub returns : goal.returns
returns c = record {
  eroded = erosion_set;
  dilated = dilation_set;
  opened = opening_set;
  closed = closing_set;
  complemented = complement_set;
  hit = hit-or-miss_set;
  hit_by_sets = set_hit-or-miss_set;
  cut = threshold_set;
  restored = restoration_set;
}
