use Rattle.std.proofs.Common.{◌-◌, ℕ}
use Rattle.mw_geodesic_grey.proofs.Passed.{ArePassed}
use Rattle.mw_geodesic_grey.proofs.passes.turn.Given as goal

abbrev pub invariant-loop-i : goal.invariant-loop-i
invariant-loop-i g l = ArePassed g.P.Pixel.level (λ (_ n : ℕ). l.maxval - n) l.i l.initial.samples l.samples
