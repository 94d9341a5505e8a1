use Rattle.std.proofs.Common.{take}
use Rattle.mw_chord_lent.specs.Placed.{ArePlaced}
use Rattle.mw_chord_lent.proofs.chords.places_of.Given as goal

abbrev pub invariant-loop-i : goal.invariant-loop-i
invariant-loop-i l = ArePlaced l.sizes l.span l.extent l.wide (take l.i l.runs) l.places.items
