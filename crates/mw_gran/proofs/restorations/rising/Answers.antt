use Rattle.std.proofs.Common.{◌≡◌, ◌+◌, ℕ, arith, subst}
use Rattle.mw_plan.specs.Seen.{source}
use Rattle.mw_gran.specs.Turns.{HasLevels}
use Rattle.mw_gran.proofs.Turns.{no_levels, levels_more}
use Rattle.mw_gran.proofs.restorations.rising.Goals as goal

pub loop-done-init : goal.loop-done-init
loop-done-init c = no_levels c.in_ok-plan.plan c.in_ok-plan.ensures

pub add-requires : goal.add-requires
add-requires c = let before = c.loop-done.invariant.count in omega arith

pub loop-done-preserved : goal.loop-done-preserved
loop-done-preserved c = levels_more c.loop-done.done c.loop-done.plan c.add.new.plan (source c.in_ok-add.field-0) c.loop-done.invariant c.in_ok-add.ensures

pub returns : goal.returns
returns c =
    let same : c.loop-done.done ≡ c.args.levels + 1 = omega arith in
    subst (λ (n : ℕ). HasLevels n c.loop-done.plan) same c.loop-done.invariant
