use Rattle.std.proofs.Common.{◌-ℤ◌, arith}
use Rattle.std.proofs.lemmas.Int.{ints}
use Rattle.mw_model.proofs.Nonnegative.{nonnegative_is}
use Rattle.mw_bits.proofs.by_runs.widened.Goals as goal

pub returns-clause-wider : goal.returns-clause-wider
returns-clause-wider c =
    let e = c.args.extent in
    let is = nonnegative_is (e.right -ℤ e.left) in
    let near = c.requires.near.columns in
    record { left = omega (arith, ints); right = omega (arith, ints); top = omega (arith, ints); bottom = omega (arith, ints) }

pub returns-clause-columns : goal.returns-clause-columns
returns-clause-columns c =
    let near = c.requires.near.columns in
    omega (arith, ints, nonnegative_is)
