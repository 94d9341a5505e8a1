use Rattle.std.proofs.Common.{◌≡◌, take}
use Rattle.mw_model.specs.Elements.{reach_of}
use Rattle.mw_element.proofs.offsets.reach.Given as goal

abbrev pub invariant-offsets : goal.invariant-offsets
invariant-offsets l = l.reach ≡ reach_of (take l.b-index l.offsets)
