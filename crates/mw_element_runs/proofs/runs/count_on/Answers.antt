use Rattle.std.proofs.Common.{arith}
use Rattle.std.proofs.lemmas.Int.{ints}
use Rattle.mw_element_runs.proofs.Ahead.{all_more}
use Rattle.mw_element_runs.proofs.runs.count_on.Goals as goal
use Rattle.mw_element_runs.proofs.runs.count_on.Goals.{then-is_at, else-is_at}

pub loop-i-preserved : goal.loop-i-preserved
loop-i-preserved c =
    let known = c.loop-i.invariant in
    elim c.if-is_at.branch [
      | then-is_at w ↦
          let here = c.is_at.ensures.0 w.if-is_at.true in
          record {
            few = omega arith;
            all = λ enough. all_more c.args.offsets.now c.args.from c.args.count c.loop-i.i (known.all (omega arith)) (record { dx = omega (arith, ints, here.1); dy = omega (arith, ints, here.0) });
          }
      | else-is_at w ↦ record { few = omega arith; all = λ enough. absurd (omega arith) }
    ]
