use Rattle.std.proofs.Common.{◌-◌, get_or, pos, arith, ◌∙◌}
use Rattle.mw_model.specs.declared.offsets.Offset.{Offset}
use Rattle.mw_element_runs.specs.Runs.{follows, follows_back}
use Rattle.mw_element_runs.proofs.Fewest.{pairs_onward, follows_is, one_more, none_more, either_follows}
use Rattle.mw_element_runs.proofs.runs.is_shorter_turned.Goals as goal
use Rattle.mw_element_runs.proofs.runs.is_shorter_turned.Goals.{then-continues, else-continues+then-continues-2, else-continues+else-continues-2}

pub loop-i-preserved : goal.loop-i-preserved
loop-i-preserved c =
    let none : Offset = record { dx = pos 0; dy = pos 0 } in
    let offsets = c.args.offsets.now in
    let i = c.loop-i.i in
    let before = get_or offsets (i - 1) none in
    let here = get_or offsets i none in
    let onward = pairs_onward follows offsets (i - 1) i none (omega arith) (omega arith) in
    let back = pairs_onward follows_back offsets (i - 1) i none (omega arith) (omega arith) in
    let follows-is = follows_is c.continues.result before here c.continues.ensures.follows in
    elim c.if-continues.branch [
      | then-continues w ↦
          let one = one_more (follows before here) (follows-is ∙ w.if-continues.true) in
          let at_most = either_follows before here in
          record { onward_few = omega arith; back_few = omega arith; onward = omega arith; back = omega arith }
      | else-continues+then-continues-2 w ↦
          let no_more = none_more (follows before here) (follows-is ∙ w.if-continues.false) in
          let one = one_more (follows_back before here) (follows_is w.continues-else-continues.result here before w.continues-else-continues.ensures.follows ∙ w.if-continues-2.true) in
          record { onward_few = omega arith; back_few = omega arith; onward = omega arith; back = omega arith }
      | else-continues+else-continues-2 w ↦
          let no_more = none_more (follows before here) (follows-is ∙ w.if-continues.false) in
          let none_back = none_more (follows_back before here) (follows_is w.continues-else-continues.result here before w.continues-else-continues.ensures.follows ∙ w.if-continues-2.false) in
          record { onward_few = omega arith; back_few = omega arith; onward = omega arith; back = omega arith }
    ]
