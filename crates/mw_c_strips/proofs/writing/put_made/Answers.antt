use Rattle.std.proofs.Common.{◌≡◌, ℕ, ◌+◌, List, subst, sym}
use Rattle.mw_c_layers.specs.Layers.{formula_picture}
use Rattle.mw_c_layers.specs.Parts.{HasImageRows}
use Rattle.mw_c_layers.proofs.Formulas.{formula_is_picture}
use Rattle.mw_c_layers.proofs.RowCells.{part_size}
use Rattle.mw_c_strips.proofs.writing.put_made.Goals as goal

pub put_rows-requires-clause-size : goal.put_rows-requires-clause-size
put_rows-requires-clause-size g c = part_size (formula_picture c.args.formula) c.in_ok-image.image c.args.strip c.in_ok-image.ensures

pub returns-clause-made : goal.returns-clause-made
returns-clause-made g c = λ first row before.
    let f = formula_picture c.args.formula in
    let same = c.in_ok-put_standing.ensures.left_out c.if-branch.false in
    c.put_rows.ensures f first c.in_ok-image.ensures c.requires.strip (formula_is_picture c.args.formula c.requires.sound).size row
    (subst (λ (xs : List _). HasImageRows g.P.Pixel.level f first c.args.strip.y xs) (sym same) before)
