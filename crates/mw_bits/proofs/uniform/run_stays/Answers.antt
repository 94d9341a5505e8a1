use Rattle.std.proofs.Common.{arith}
use Rattle.std.proofs.lemmas.Int.{ints}
use Rattle.mw_bits.proofs.uniform.run_stays.Goals as goal

pub returns : goal.returns
returns c =
    λ yes.
    let seen = c.stays.ensures yes in (
      c.columns_past-passed.result,
      omega arith,
      record {
        across = record { from = omega (arith, ints, seen.across.from); to = omega (arith, ints, seen.across.to) };
        down = record { from = omega (arith, ints, seen.down.from); to = omega (arith, ints, seen.down.to) };
      },
    )
