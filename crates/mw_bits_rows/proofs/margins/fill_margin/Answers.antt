use Rattle.std.proofs.Common.{◌/◌, ◌%◌, refl, arith}
use Rattle.mw_bits_rows.proofs.FilledMargins.{margin_filled}
use Rattle.mw_bits_rows.proofs.margins.fill_margin.Goals as goal

pub returns-then-rest-gt0 : goal.returns-then-rest-gt0
returns-then-rest-gt0 g c = λ x lt.
    let width = c.args.width in
    margin_filled (g.E.Extremum.neutral_of 1) width (width % 64) (width / 64) c.neutral_word.result c.args.row.now x c.neutral_word.ensures refl (omega arith) refl c.requires.words c.requires.clean lt
