use Rattle.std.proofs.Common.{◌≤◌, arith, take, length-take}
use Rattle.std.specs.Prelude.{pos, nat_eq, slice_index_or}
use Rattle.std.proofs.lemmas.Grind.{common_steps}
use Rattle.std.proofs.lemmas.List.Sums.{count_by_more_yes, count_by_more_no, count_by-le-length}
use Rattle.mw_model.proofs.mw_facts.Alls.{all-get_or}
use Rattle.mw_element_runs.specs.declared.runs.Run.{Run}
use Rattle.mw_element_runs.proofs.sizes.counts_of.Goals as goal

pub overflow_add-index_mut : goal.overflow_add-index_mut
overflow_add-index_mut c =
    let none : Run = record { dx = pos 0; dy = pos 0; count = 0 } in
    let count = (slice_index_or c.args.runs.now c.loop-i.i none).count in
    let inside : count ≤ c.args.longest = all-get_or (λ (r : Run). r.count ≤ c.args.longest) c.args.runs.now c.loop-i.i none c.loop-i-test.true c.requires.all in
    let few = count_by-le-length (λ (r : Run). nat_eq r.count count) (take c.loop-i.i c.args.runs.now) in
    grind (arith, common_steps, c.index_mut.ensures.value, c.loop-i.invariant.1 count inside, few, length-take c.loop-i.i c.args.runs.now)

pub loop-i-preserved : goal.loop-i-preserved
loop-i-preserved c = (c.loop-i.invariant.0, λ n le. grind (arith, common_steps, count_by_more_yes, count_by_more_no, c.loop-i.invariant.1 n le))
