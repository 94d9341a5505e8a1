use Rattle.mw_plan.specs.Seen.{source}
use Rattle.mw_c_direct.proofs.Dropping.{keeps_on, wanted_still}
use Rattle.mw_c_direct.proofs.spent.drop_spent.Goals as goal

pub returns-in-Two-clause-keeps : goal.returns-in-Two-clause-keeps
returns-in-Two-clause-keeps c =
    keeps_on c.args.plan.now c.args.made.now c.args.planes.now.items c.drop_one-in-Two.new.planes.items c.drop_one-in-Two-2.new.planes.items c.drop_one-in-Two.ensures.keeps c.drop_one-in-Two-2.ensures.keeps

pub returns-in-Two-clause-wanted : goal.returns-in-Two-clause-wanted
returns-in-Two-clause-wanted c = rw c.in-Two.is (
  wanted_still c.args.plan.now c.args.made.now c.drop_one-in-Two.new.planes.items c.drop_one-in-Two-2.new.planes.items (source c.in-Two.a) c.drop_one-in-Two-2.ensures.keeps c.drop_one-in-Two.ensures.wanted,
  (c.drop_one-in-Two-2.ensures.wanted, tt),
)

pub returns-in-Three-clause-keeps : goal.returns-in-Three-clause-keeps
returns-in-Three-clause-keeps c =
    let plan = c.args.plan.now in
    let made = c.args.made.now in
    let old = c.args.planes.now.items in
    let first = c.drop_one-in-Three.new.planes.items in
    let second = c.drop_one-in-Three-2.new.planes.items in
    let third = c.drop_one-in-Three-3.new.planes.items in
    keeps_on plan made old second third (keeps_on plan made old first second c.drop_one-in-Three.ensures.keeps c.drop_one-in-Three-2.ensures.keeps) c.drop_one-in-Three-3.ensures.keeps

pub returns-in-Three-clause-wanted : goal.returns-in-Three-clause-wanted
returns-in-Three-clause-wanted c =
    let plan = c.args.plan.now in
    let made = c.args.made.now in
    let first = c.drop_one-in-Three.new.planes.items in
    let second = c.drop_one-in-Three-2.new.planes.items in
    let third = c.drop_one-in-Three-3.new.planes.items in rw c.in-Three.is (
      wanted_still plan made first third (source c.in-Three.a) (keeps_on plan made first second third c.drop_one-in-Three-2.ensures.keeps c.drop_one-in-Three-3.ensures.keeps) c.drop_one-in-Three.ensures.wanted,
      (wanted_still plan made second third (source c.in-Three.b) c.drop_one-in-Three-3.ensures.keeps c.drop_one-in-Three-2.ensures.wanted, (c.drop_one-in-Three-3.ensures.wanted, tt)),
    )
