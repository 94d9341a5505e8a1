use Rattle.std.proofs.Common.{◌≡◌}
use Rattle.mw_model.specs.Flat.{greatest}
use Rattle.mw_reference.proofs.Loops.{under_first}
use Rattle.mw_reference.proofs.flat.GreatestPixels.at.Given as goal

abbrev pub invariant-loop-i : goal.invariant-loop-i
invariant-loop-i l = l.best ≡ greatest (under_first l.self.image.now l.self.element.now l.i l.x l.y)
