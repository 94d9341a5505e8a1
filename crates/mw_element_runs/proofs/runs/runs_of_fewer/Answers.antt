use Rattle.std.proofs.Common.{arith, ◌∙◌}
use Rattle.mw_element_runs.specs.Runs.{AreFewest, follows, follows_back, pairs}
use Rattle.mw_element_runs.proofs.Fewest.{fewest_onward, fewest_back, few_enough, not_fewer, ok_all}
use Rattle.mw_element_runs.proofs.runs.runs_of_fewer.Goals as goal
use Rattle.mw_element_runs.proofs.runs.runs_of_fewer.Goals.{then-len-offsets-via-then-len-offsets, then-len-offsets-via-else-len-offsets+then-not-is_shorter_turned}

pub returns-then-len-offsets-clause-fewest : goal.returns-then-len-offsets-clause-fewest
returns-then-len-offsets-clause-fewest c =
    let offsets = c.args.offsets.now in
    let runs = c.in_ok-runs.runs.items in
    let known = c.in_ok-runs.ensures in
    elim c.then-len-offsets.branch [
      | then-len-offsets-via-then-len-offsets w ↦
          fewest_onward offsets runs known.offsets known.runs known.longest (few_enough offsets runs known.offsets known.runs (omega arith))
      | then-len-offsets-via-else-len-offsets+then-not-is_shorter_turned w ↦
          fewest_onward offsets runs known.offsets known.runs known.longest
          (not_fewer w.is_shorter_turned.result (pairs follows offsets) (pairs follows_back offsets) w.is_shorter_turned.ensures.1 w.if-not-is_shorter_turned.true)
    ]

pub returns-clause-fewest : goal.returns-clause-fewest
returns-clause-fewest c =
    let offsets = c.args.offsets.now in
    let yes = c.is_shorter_turned.ensures.0 c.if-not-is_shorter_turned.false in
    let turned = c.as_slice.ensures.value ∙ c.in_ok-turned.ensures in
    ok_all c.runs_of-2.result _ _ _ (λ v. AreFewest offsets v.items)
    (λ v same runs longest. fewest_back offsets v.items (same ∙ turned) runs longest (omega arith))
    c.runs_of-2.ensures.offsets c.runs_of-2.ensures.runs c.runs_of-2.ensures.longest
