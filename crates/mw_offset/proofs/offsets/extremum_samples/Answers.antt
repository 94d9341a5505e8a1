use Rattle.std.proofs.Common.{◌+◌, ◌∙◌}
use Rattle.mw_model.specs.Windows.{seen_at}
use Rattle.mw_element_runs.proofs.Orders.{fold_either_way}
use Rattle.mw_offset.proofs.offsets.extremum_samples.Goals as goal

pub returns-then-tile-clause-cells : goal.returns-then-tile-clause-cells
returns-then-tile-clause-cells g c = λ x y less row_less.
    let f = g.E.Extremum.merge in
    let n = c.args.neutral in
    let tile = c.args.tile in
    c.in_ok-samples.ensures.cells x y less row_less
    ∙ fold_either_way f g.met.E.Extremum.commutes g.met.E.Extremum.associates n (seen_at c.args.window.now) c.args.offsets.now c.args.runs.now (tile.x + x) (tile.y + y) c.requires.either
