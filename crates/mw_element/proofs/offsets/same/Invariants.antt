use Rattle.std.proofs.Common.{◌≡◌, take}
use Rattle.mw_element.proofs.offsets.same.Given as goal

abbrev pub invariant-offsets : goal.invariant-offsets
invariant-offsets l = take l.i l.first ≡ take l.i l.second
