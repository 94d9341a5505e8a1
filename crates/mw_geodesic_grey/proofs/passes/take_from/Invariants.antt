use Rattle.std.proofs.Common.{◌-◌, ℕ}
use Rattle.mw_geodesic_levels.specs.Levels.{level_numbered}
use Rattle.mw_geodesic_grey.proofs.Passed.{ArePassed}
use Rattle.mw_geodesic_grey.proofs.passes.take_from.Given as goal

abbrev pub invariant-loop-i : goal.invariant-loop-i
invariant-loop-i g l = ArePassed g.P.Pixel.level (λ (k n : ℕ). level_numbered g.P.Pixel.level l.image k - n) l.i l.initial.samples l.samples
