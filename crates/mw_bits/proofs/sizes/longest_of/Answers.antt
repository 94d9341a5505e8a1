use Rattle.std.proofs.Common.{◌≤◌, pos, arith}
use Rattle.mw_model.proofs.mw_facts.Alls.{all-get_or}
use Rattle.mw_offset.specs.mw_element_runs.declared.runs.Run.{Run}
use Rattle.mw_bits.proofs.NearRuns.{counts_more}
use Rattle.mw_bits.proofs.sizes.longest_of.Goals as goal

pub loop-i-preserved : goal.loop-i-preserved
loop-i-preserved c =
    let none : Run = record { dx = pos 0; dy = pos 0; count = 0 } in
    let runs = c.args.runs.now in
    let i = c.loop-i.i in
    record {
      all = counts_more runs i c.loop-i.longest c.max-longest.result none (omega arith) (omega (arith, c.max-longest.ensures)) (omega (arith, c.max-longest.ensures)) c.loop-i.invariant.all;
      least = λ n le.
          let here = all-get_or (λ (r : Run). r.count ≤ n) runs i none (omega arith) le in
          omega (arith, here, c.loop-i.invariant.least n le, c.max-longest.ensures);
    }
