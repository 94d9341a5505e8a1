use Rattle.std.proofs.Common.{arith}
use Rattle.mw_model.proofs.mw_facts.Counts.{count_by-most}
use Rattle.mw_ready.specs.Boards.{is_source, step_reads}
use Rattle.mw_ready.proofs.Firsts.{count-three}
use Rattle.mw_ready.proofs.waits.steps_read.Goals as goal

pub returns : goal.returns
returns c =
    let a = c.args in
    let s = c.sources-first.result in
    let sum = count-three (step_reads a.need) (λ k. is_source k s.0) (λ k. is_source k s.1) (λ k. is_source k s.2) a.steps c.sources-first.ensures in
    record {
      value = omega (arith, sum, c.is_step.ensures.value, c.is_step-2.ensures.value, c.is_step-3.ensures.value);
      most = omega (arith, sum, c.is_step.ensures.value, c.is_step-2.ensures.value, c.is_step-3.ensures.value, count_by-most (step_reads a.need) a.steps);
    }
