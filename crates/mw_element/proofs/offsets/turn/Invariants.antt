use Rattle.std.proofs.Common.{◌≡◌, take}
use Rattle.mw_model.specs.Flat.{reflected}
use Rattle.mw_element.proofs.offsets.turn.Given as goal

abbrev pub invariant-offsets : goal.invariant-offsets
invariant-offsets l = l.all.items ≡ reflected (take l.b-index l.offsets)
