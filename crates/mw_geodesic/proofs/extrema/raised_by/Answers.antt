use Rattle.std.proofs.Common.{arith}
use Rattle.mw_geodesic.proofs.extrema.raised_by.Goals as goal

pub redraw-requires : goal.redraw-requires
redraw-requires c = record { bounded = λ picture x y p q. omega arith }
