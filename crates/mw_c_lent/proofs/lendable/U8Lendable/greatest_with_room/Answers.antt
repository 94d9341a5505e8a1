use Rattle.std.proofs.Common.{ℕ, max}
use Rattle.mw_model.specs.Flat.{greatest}
use Rattle.mw_model.specs.Rectangles.{box_offsets}
use Rattle.mw_model.specs.Windows.{seen_at}
use Rattle.mw_model.proofs.ImageLaws.{fold-max_from_none}
use Rattle.mw_c_lent.proofs.UnderBoxes.{made_of_levels}
use Rattle.mw_c_lent.proofs.lendable.U8Lendable.greatest_with_room.Goals as goal

pub returns-clause-made : goal.returns-clause-made
returns-clause-made c =
    made_of_levels greatest (λ (a b : ℕ). max a b) 0 (seen_at c.args.lent.now) (box_offsets c.args.offsets) c.args.tile c.boxes_with_room.new.out fold-max_from_none c.boxes_with_room.ensures.over_window
