use Rattle.std.proofs.Common.{◌+◌, ◌*◌, drop, ◌∙◌, length-take, arith}
use Rattle.std.proofs.lemmas.List.{get_or_append_left}
use Rattle.mw_line.proofs.Rows.{row_within}
use Rattle.mw_chord_lent.proofs.layout.lay_rows.Goals as goal

pub returns-clause-made : goal.returns-clause-made
returns-clause-made g c = λ x y less row_less.
    let rows = c.args.rows in
    let at = y * rows.wide + x in
    let count = rows.high * rows.wide in
    let cells = c.args.out.now in
    let here = row_within x y rows.wide rows.high less row_less in
    get_or_append_left c.lay_all.new.out (drop count cells) c.args.neutral at (omega (arith, here, c.lay_all.auto.out, length-take count cells)) ∙ c.lay_all.ensures x y c.args.neutral less row_less
