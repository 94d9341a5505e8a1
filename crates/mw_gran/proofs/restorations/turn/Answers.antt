use Rattle.std.proofs.Common.{◌≡◌, ◌-◌, suc, length, arith}
use Rattle.mw_plan.specs.mw_step_task.Meanings.{meaning}
use Rattle.mw_plan.specs.Seen.{source}
use Rattle.mw_gran.proofs.OneMore.{with_step, pushed_count}
use Rattle.mw_gran.proofs.Turns.{restoration_turn}
use Rattle.mw_gran.proofs.restorations.turn.Goals as goal

pub returns-clause-count : goal.returns-clause-count
returns-clause-count c =
    let first : length c.add.new.plan ≡ suc (length c.args.plan.now) = pushed_count _ _ _ _ _ c.in_ok-grown.ensures in
    let second : length c.add-2.new.plan ≡ suc (length c.add.new.plan) = pushed_count _ _ _ _ _ c.in_ok-joined.ensures in
    omega arith

pub returns-clause-restores : goal.returns-clause-restores
returns-clause-restores c = λ b depth n m slides level below at.
    let same : c.args.level - 1 ≡ n = omega arith in
    restoration_turn b depth n m (c.args.level - 1) c.args.plan.now c.add.new.plan c.add-2.new.plan (source c.args.restored) (source c.in_ok-grown.grown) (source c.in_ok-joined.joined)
    (meaning c.args.steps.now.erode) (meaning c.args.steps.now.dilate) slides below at same
    (with_step _ _ _ _ _ _ c.in_ok-share.ensures c.in_ok-grown.ensures) c.in_ok-joined.ensures
