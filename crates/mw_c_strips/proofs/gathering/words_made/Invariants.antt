use Rattle.std.proofs.Common.{◌≡◌, ◌-◌, ◌*◌, ◌≤◌, take}
use Rattle.mw_c_arrays.specs.Sources.{picture_in}
use Rattle.mw_pixel.specs.mw_pixel_words.Packed.{samples_of, IsPacked}
use Rattle.mw_c_layers.specs.Layers.{rule_picture}
use Rattle.mw_c_strips.proofs.gathering.words_made.Given as goal

abbrev pub invariant-strips : goal.invariant-strips
invariant-strips l = record {
  packed : IsPacked l.width l.done l.words.items;
  samples : samples_of l.width l.done l.words.items ≡ take (l.done * l.width) (rule_picture l.rule (picture_in l.f)).samples;
  within : l.done ≤ (picture_in l.f).height;
}

abbrev pub decreases-strips : goal.decreases-strips
decreases-strips l = l.height - l.done
