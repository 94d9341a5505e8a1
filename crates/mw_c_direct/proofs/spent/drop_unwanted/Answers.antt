use Rattle.mw_c_direct.proofs.Dropping.{drops_unwanted, dropped}
use Rattle.mw_c_direct.proofs.spent.drop_unwanted.Goals as goal

pub returns-then-not-is_wanted-clause-keeps : goal.returns-then-not-is_wanted-clause-keeps
returns-then-not-is_wanted-clause-keeps c =
    drops_unwanted c.args.plan.now c.args.made.now c.args.k c.args.planes.now.items (c.is_wanted.ensures.spent c.if-not-is_wanted.true)

pub returns-then-not-is_wanted-clause-wanted : goal.returns-then-not-is_wanted-clause-wanted
returns-then-not-is_wanted-clause-wanted c = dropped c.args.plan.now c.args.made.now c.args.k c.args.planes.now.items
