use Rattle.mw_geodesic_kept.proofs.Marking.{none_marked}
use Rattle.mw_geodesic_kept.proofs.marks.unmarked.Goals as goal

pub returns-clause-none : goal.returns-clause-none
returns-clause-none c = none_marked c.args.count c.in_ok-marks.marks.items (c.in_ok-marks.ensures.items_if_clones_equal (λ y e. e))
