use Rattle.std.proofs.Common.{◌+◌, ◌∙◌}
use Rattle.mw_model.specs.Windows.{seen_at}
use Rattle.mw_offset.proofs.mw_element_runs.Orders.{fold_either_way}
use Rattle.mw_bits.proofs.kernel.extremum_words.Goals as goal

pub returns-then-is_near-clause-cells : goal.returns-then-is_near-clause-cells
returns-then-is_near-clause-cells g c = λ x y less row_less.
    let f = g.E.Extremum.merge in
    let n = g.E.Extremum.neutral_of 1 in
    let tile = c.args.tile in
    c.in_ok-made.ensures.cells x y less row_less
    ∙ fold_either_way f g.met.E.Extremum.commutes g.met.E.Extremum.associates n (seen_at c.args.set.now) c.args.offsets.now c.args.runs.now (tile.x + x) (tile.y + y) c.requires.either
