use Rattle.std.proofs.Common.{◌≡◌}
use Rattle.mw_reference.proofs.Loops.{drawn_so_far}
use Rattle.mw_reference.proofs.pixels.draw.Given as goal

abbrev pub invariant-loop-x : goal.invariant-loop-x
invariant-loop-x g l = l.samples.items ≡ drawn_so_far (g.P.Pixels.value l.pixels) l.width l.y l.x

abbrev pub invariant-loop-y : goal.invariant-loop-y
invariant-loop-y g l = l.samples.items ≡ drawn_so_far (g.P.Pixels.value l.pixels) l.width l.y 0
