use Rattle.std.proofs.Common.{◌≡◌, suc, length, arith}
use Rattle.mw_plan.specs.mw_step_task.Meanings.{meaning}
use Rattle.mw_plan.specs.Seen.{source}
use Rattle.mw_gran.proofs.OneMore.{with_step, pushed_count}
use Rattle.mw_gran.proofs.Turns.{still_marks, skeleton_turn}
use Rattle.mw_gran.proofs.skeletons.turn.Goals as goal

pub returns-clause-count : goal.returns-clause-count
returns-clause-count c =
    let first : length c.add.new.plan ≡ suc (length c.args.plan.now) = pushed_count _ _ _ _ _ c.in_ok-opened.ensures in
    let second = c.in_ok-blank.ensures.count in
    let last : length c.add-2.new.plan ≡ suc (length c.marks_or_blank.new.plan) = pushed_count _ _ _ _ _ c.in_ok-more.ensures in
    omega arith

pub returns-clause-marks : goal.returns-clause-marks
returns-clause-marks c = λ b slides at.
    let n = c.args.n in
    let levels = c.args.levels in
    let push1 = with_step _ _ _ _ _ _ c.in_ok-share.ensures c.in_ok-opened.ensures in
    let are1 = still_marks b levels n c.args.plan.now c.add.new.plan _ _ _ c.args.marks push1 at.are_marks in
    skeleton_turn b levels n c.args.plan.now c.add.new.plan c.marks_or_blank.new.plan c.add-2.new.plan (source c.eroded.result) (source c.eroded-2.result) (source c.in_ok-blank.blank)
    (source c.in_ok-opened.opened) c.args.marks c.in_ok-more.more (meaning c.args.steps.now.erode) (meaning c.args.steps.now.dilate) slides c.requires.below at c.eroded.ensures c.eroded-2.ensures push1
    c.in_ok-blank.ensures.goes_on (c.in_ok-blank.ensures.shows b n are1) c.in_ok-more.ensures
