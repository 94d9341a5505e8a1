use Rattle.std.proofs.Common.{arith}
use Rattle.mw_model.proofs.ImagePlaces.{sample_bounded}
use Rattle.mw_geodesic.proofs.extrema.lowered_by.Goals as goal

pub redraw-requires : goal.redraw-requires
redraw-requires c = record { bounded = λ picture x y p q. omega (arith, sample_bounded c.args.image.now picture x y p q) }
