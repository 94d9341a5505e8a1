use Rattle.std.proofs.Common.{List, sym, subst}
use Rattle.std.specs.List.{AllByRecursion}
use Rattle.mw_core_waves.specs.declared.shared.MadeTile.{MadeTile}
use Rattle.mw_core_waves.specs.Jobs.{IsMadeAt}
use Rattle.mw_core_waves.proofs.Jobs.{all-kept, all-kept-then, made-later}
use Rattle.mw_core_waves.proofs.shared.put_hand.Goals as goal

pub loop-made-init : goal.loop-made-init
loop-made-init c =
    let P : List MadeTile → Type 0 = λ l. AllByRecursion (IsMadeAt c.args.jobs.now) l in
    (all-kept c.args.jobs.now, subst P (sym c.into_iter-made-iterator.ensures.into_iter_gives.0) c.requires)

pub put-requires : goal.put-requires
put-requires c =
    let P : List MadeTile → Type 0 = λ l. AllByRecursion (IsMadeAt c.args.jobs.now) l in
    made-later c.args.jobs.now c.loop-made.jobs c.in-Some.made c.loop-made.invariant.0 (subst P c.in-Some.ensures.steps.0 c.loop-made.invariant.1).0

pub loop-made-preserved : goal.loop-made-preserved
loop-made-preserved c =
    let P : List MadeTile → Type 0 = λ l. AllByRecursion (IsMadeAt c.args.jobs.now) l in (
      all-kept-then c.args.jobs.now c.loop-made.jobs c.put.new.jobs c.loop-made.invariant.0 c.put.ensures,
      (subst P c.in-Some.ensures.steps.0 c.loop-made.invariant.1).1,
    )
