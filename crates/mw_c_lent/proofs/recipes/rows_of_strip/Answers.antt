use Rattle.std.proofs.Common.{arith}
use Rattle.mw_c_lent.proofs.Lessened.{strip_in_memory}
use Rattle.mw_c_lent.proofs.recipes.rows_of_strip.Goals as goal

pub returns-then-all-most-clause-fits : goal.returns-then-all-most-clause-fits
returns-then-all-most-clause-fits c = λ fits.
    let few = strip_in_memory c.args.bytes c.args.row_size c.args.beyond c.max-least.result c.requires.bytes c.requires.size (omega (arith, c.max-least.ensures)) fits in
    absurd (omega (arith, few, c.min-rows.ensures, c.max.ensures, c.min.ensures, c.max-wanted.ensures, c.saturating_sub.ensures, c.if-all-most.true))
