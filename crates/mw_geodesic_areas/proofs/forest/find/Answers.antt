use Rattle.std.proofs.Common.{get_or, refl}
use Rattle.mw_geodesic_areas.proofs.Roots.{finding_begins, finding_on, finding_lower, found_root, root_above, found_above}
use Rattle.mw_geodesic_areas.proofs.forest.find.Goals as goal

pub up-init : goal.up-init
up-init c = finding_begins c.args.parent.now c.args.i c.requires.forest

pub up-smaller : goal.up-smaller
up-smaller c =
    let p = c.up.parent in
    let at = c.up.at in
    finding_lower c.args.parent.now p c.args.i at (get_or p at 0) (get_or p (get_or p at 0) 0) c.requires.within refl refl c.up-test.true c.up.invariant

pub up-preserved : goal.up-preserved
up-preserved c =
    let p = c.up.parent in
    let at = c.up.at in
    finding_on c.args.parent.now p c.args.i at (get_or p at 0) (get_or p (get_or p at 0) 0) c.requires.within refl refl c.up-test.true c.up.invariant

pub returns-clause-keeps : goal.returns-clause-keeps
returns-clause-keeps c = c.up.invariant.keeps

pub returns-clause-root : goal.returns-clause-root
returns-clause-root c = λ d are. found_root c.args.parent.now c.up.parent c.args.i c.up.at d c.requires.within c.up-test.false c.up.invariant are

pub returns-then-next-up-clause-lower : goal.returns-then-next-up-clause-lower
returns-then-next-up-clause-lower c = root_above c.args.parent.now c.up.parent c.args.i c.up.at (get_or c.up.parent c.up.at 0) c.requires.within refl c.up.invariant

pub returns-then-next-up-clause-keeps : goal.returns-then-next-up-clause-keeps
returns-then-next-up-clause-keeps c = c.up.invariant.keeps

pub returns-then-next-up-clause-root : goal.returns-then-next-up-clause-root
returns-then-next-up-clause-root c = λ d are. found_above c.args.parent.now c.up.parent c.args.i c.up.at (get_or c.up.parent c.up.at 0) d c.requires.within refl c.if-next-up.true c.up.invariant are
