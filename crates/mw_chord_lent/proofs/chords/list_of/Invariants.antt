use Rattle.std.proofs.Common.{◌-◌, ◌<◌, ◌≤◌, length, get_or}
use Rattle.mw_chord_lent.proofs.chords.list_of.Given as goal

abbrev pub invariant-longer : goal.invariant-longer
invariant-longer l = record {
  inside : l.j < length l.sizes;
  within : get_or l.sizes l.j 0 ≤ l.count;
}

abbrev pub decreases-longer : goal.decreases-longer
decreases-longer l = length l.sizes - l.j
