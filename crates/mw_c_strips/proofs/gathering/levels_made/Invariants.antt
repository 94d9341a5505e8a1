use Rattle.std.proofs.Common.{◌≡◌, ◌-◌, ◌*◌, ◌≤◌, map, take}
use Rattle.mw_c_arrays.specs.Sources.{picture_in}
use Rattle.mw_c_layers.specs.Layers.{rule_picture}
use Rattle.mw_c_strips.proofs.gathering.levels_made.Given as goal

abbrev pub invariant-strips : goal.invariant-strips
invariant-strips g l = record { rows : map g.P.Pixel.level l.plane.items ≡ take (l.done * l.width) (rule_picture l.rule (picture_in l.f)).samples; within : l.done ≤ (picture_in l.f).height }

abbrev pub decreases-strips : goal.decreases-strips
decreases-strips g l = l.height - l.done
