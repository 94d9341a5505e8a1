use Rattle.std.proofs.Common.{◌≡◌, map, take}
use Rattle.mw_offset_lent.specs.Offsets.{place_among}
use Rattle.mw_offset_lent.proofs.places.places_of.Given as goal

abbrev pub invariant-loop-i : goal.invariant-loop-i
invariant-loop-i l = l.places.items ≡ map (place_among l.around l.wide) (take l.i l.offsets)
