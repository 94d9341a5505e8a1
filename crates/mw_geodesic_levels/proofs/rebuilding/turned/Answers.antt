use Rattle.std.proofs.Common.{refl}
use Rattle.mw_geodesic_levels.proofs.Turned.{turned_size, turned_rebuilt}
use Rattle.mw_geodesic_levels.proofs.rebuilding.turned.Goals as goal

pub returns-then-frame-eq1-clause-size : goal.returns-then-frame-eq1-clause-size
returns-then-frame-eq1-clause-size c = turned_size c.args.frame _ (record { narrow = c.if-frame-eq1.true; low = refl; long = refl; corners = refl })

pub returns-then-frame-eq1-clause-same : goal.returns-then-frame-eq1-clause-same
returns-then-frame-eq1-clause-same c = λ mask marker g. turned_rebuilt c.args.frame _ mask marker g (record { narrow = c.if-frame-eq1.true; low = refl; long = refl; corners = refl })

pub returns-clause-same : goal.returns-clause-same
returns-clause-same c = λ mask marker g rebuilt. rebuilt
