use Rattle.std.proofs.Common.{pos, arith, get_or}
use Rattle.mw_model.proofs.mw_facts.Alls.{all-get_or}
use Rattle.mw_element_runs.specs.declared.runs.Run.{Run}
use Rattle.mw_element_runs.specs.Runs.{RunIsInside}
use Rattle.mw_element_runs.proofs.RunLists.{inside_more, inside_wider}
use Rattle.mw_element_runs.proofs.runs.extent_of.Goals as goal

pub loop-i-preserved : goal.loop-i-preserved
loop-i-preserved c =
    let none : Run = record { dx = pos 0; dy = pos 0; count = 0 } in
    let runs = c.args.runs.now in
    let i = c.loop-i.i in
    record {
      inside = inside_more c.joined-extent.result c.loop-i.extent runs i none (omega arith) c.joined-extent.ensures.first c.loop-i.invariant.inside
          (inside_wider c.joined-extent.result c.extent_of_run.result c.joined-extent.ensures.second (get_or runs i none) c.extent_of_run.ensures.inside);
      least = λ o all. c.joined-extent.ensures.least o (c.loop-i.invariant.least o all) (c.extent_of_run.ensures.least o (all-get_or (RunIsInside o) runs i none (omega arith) all));
    }

pub loop-i-init : goal.loop-i-init
loop-i-init c =
    let none : Run = record { dx = pos 0; dy = pos 0; count = 0 } in
    record { inside = tt; least = λ o all. c.extent_of_run-extent.ensures.least o (all-get_or (RunIsInside o) c.args.runs.now 0 none (omega arith) all) }
