use Rattle.std.proofs.Common.{◌-◌, ◌*◌, arith}
use Rattle.mw_bits_rows.proofs.Paddings.{IsNeutral, word_inside, word_at_end}
use Rattle.mw_bits_rows.proofs.padding.padded_word.Goals as goal

pub returns-then-kept-ge64 : goal.returns-then-kept-ge64
returns-then-kept-ge64 g c =
    let f = g.E.Extremum.merge in
    let n = g.E.Extremum.neutral_of 1 in
    let laws : IsNeutral f n = record { commutes = g.met.E.Extremum.commutes; changes_none = g.met.E.Extremum.neutral_changes_none 1 } in
    word_inside f n laws c.args.row.now c.args.width c.args.at (c.args.at - 34359738368) (omega arith) (omega arith)

pub returns-else-kept-ge64 : goal.returns-else-kept-ge64
returns-else-kept-ge64 g c =
    let f = g.E.Extremum.merge in
    let n = g.E.Extremum.neutral_of 1 in
    let laws : IsNeutral f n = record { commutes = g.met.E.Extremum.commutes; changes_none = g.met.E.Extremum.neutral_changes_none 1 } in
    let k = c.args.at - 34359738368 in
    word_at_end f n laws c.args.row.now c.args.width c.args.at k (c.from.result - 64 * k) c.neutral_word-else-kept-ge64.result c.neutral_word-else-kept-ge64.ensures c.requires.clean (omega arith) (omega (arith, c.requires.size))
