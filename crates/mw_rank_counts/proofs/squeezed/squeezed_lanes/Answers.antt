use Rattle.std.proofs.Common.{List, ℕ, get_or, length, ap, ◌∙◌}
use Rattle.std.proofs.lemmas.List.{map-id}
use Rattle.mw_rank_counts.proofs.Squeezing.{above_of, high_of, least_of, squeezed_are, squeezed_fit}
use Rattle.mw_rank_counts.proofs.squeezed.squeezed_lanes.Goals as goal

pub overflow_cast-result : goal.overflow_cast-result
overflow_cast-result c = squeezed_fit c.args.rest c.args.here c.args.from c.requires.here c.requires.from c.fits-here.1 c.fits-from.1

pub returns-clause-size : goal.returns-clause-size
returns-clause-size c =
    ap length (map-id (least_of (high_of c.args.rest (above_of c.args.here c.args.from)))) ∙ (squeezed_are c.args.rest c.args.here c.args.from c.requires.here c.requires.from c.fits-here.1 c.fits-from.1).size

pub returns-clause-lanes : goal.returns-clause-lanes
returns-clause-lanes c = λ i lt.
    ap (λ (l : List ℕ). get_or l i 0) (map-id (least_of (high_of c.args.rest (above_of c.args.here c.args.from))))
    ∙ (squeezed_are c.args.rest c.args.here c.args.from c.requires.here c.requires.from c.fits-here.1 c.fits-from.1).lanes i lt
