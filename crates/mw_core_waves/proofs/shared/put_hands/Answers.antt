use Rattle.std.proofs.Common.{Global, List, sym, subst}
use Rattle.std.specs.Prelude.{Vec}
use Rattle.std.specs.List.{AllByRecursion}
use Rattle.mw_core_waves.specs.declared.shared.MadeTile.{MadeTile}
use Rattle.mw_core_waves.specs.Jobs.{HandIsMade}
use Rattle.mw_core_waves.proofs.Jobs.{all-kept, all-kept-then, all-made-later}
use Rattle.mw_core_waves.proofs.shared.put_hands.Goals as goal

pub loop-hand-init : goal.loop-hand-init
loop-hand-init c =
    let P : List (Vec MadeTile Global) → Type 0 = λ l. AllByRecursion (HandIsMade c.args.jobs.now) l in
    (all-kept c.args.jobs.now, subst P (sym c.into_iter-hand-iterator.ensures.into_iter_gives.0) c.requires)

pub put_hand-requires : goal.put_hand-requires
put_hand-requires c =
    let P : List (Vec MadeTile Global) → Type 0 = λ l. AllByRecursion (HandIsMade c.args.jobs.now) l in
    all-made-later c.args.jobs.now c.loop-hand.jobs c.in-Some.hand.items c.loop-hand.invariant.0 (subst P c.in-Some.ensures.steps.0 c.loop-hand.invariant.1).0

pub loop-hand-preserved : goal.loop-hand-preserved
loop-hand-preserved c =
    let P : List (Vec MadeTile Global) → Type 0 = λ l. AllByRecursion (HandIsMade c.args.jobs.now) l in (
      all-kept-then c.args.jobs.now c.loop-hand.jobs c.put_hand.new.jobs c.loop-hand.invariant.0 c.put_hand.ensures,
      (subst P c.in-Some.ensures.steps.0 c.loop-hand.invariant.1).1,
    )
