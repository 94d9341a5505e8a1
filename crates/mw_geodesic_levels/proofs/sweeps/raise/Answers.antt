use Rattle.std.proofs.Common.{arith}
use Rattle.mw_geodesic_levels.proofs.sweeps.raise.Goals as goal

pub returns-clause-level : goal.returns-clause-level
returns-clause-level g c = omega (arith, c.greater-raised.ensures, c.at.ensures, c.lesser.ensures, c.at-2.ensures)
