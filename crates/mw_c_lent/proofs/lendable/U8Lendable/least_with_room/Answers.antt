use Rattle.std.proofs.Common.{ℕ, min}
use Rattle.mw_model.specs.Flat.{least}
use Rattle.mw_model.specs.Rectangles.{box_offsets}
use Rattle.mw_model.specs.Windows.{seen_at}
use Rattle.mw_model.proofs.ImageLaws.{fold-min}
use Rattle.mw_c_lent.proofs.UnderBoxes.{made_of_levels}
use Rattle.mw_c_lent.proofs.lendable.U8Lendable.least_with_room.Goals as goal

pub returns-clause-made : goal.returns-clause-made
returns-clause-made c =
    made_of_levels (least c.args.neutral) (λ (a b : ℕ). min a b) c.args.neutral (seen_at c.args.lent.now) (box_offsets c.args.offsets) c.args.tile c.boxes_with_room.new.out (fold-min c.args.neutral) c.boxes_with_room.ensures.over_window
