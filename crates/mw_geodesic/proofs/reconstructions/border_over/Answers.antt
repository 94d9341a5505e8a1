use Rattle.mw_geodesic.proofs.Borders.{border_bounded}
use Rattle.mw_geodesic.proofs.reconstructions.border_over.Goals as goal

pub redraw-requires : goal.redraw-requires
redraw-requires c = record { bounded = λ picture x y p q. border_bounded c.args.value c.args.image.now picture c.requires x y p q }
