use Rattle.std.proofs.Common.{get_or, refl}
use Rattle.mw_geodesic_runs.proofs.Classes.{finding_begins, finding_on, finding_lower}
use Rattle.mw_geodesic_runs.proofs.forest.find.Goals as goal

pub up-init : goal.up-init
up-init c = finding_begins c.args.parent.now c.args.i c.requires.forest

pub up-smaller : goal.up-smaller
up-smaller c =
    let p = c.up.parent in
    let at = c.up.at in
    finding_lower c.args.parent.now p c.args.i at (get_or p at 0) (get_or p (get_or p at 0) 0) c.requires.within refl refl c.up-test.true c.up.invariant

pub up-preserved : goal.up-preserved
up-preserved c =
    let p = c.up.parent in
    let at = c.up.at in
    finding_on c.args.parent.now p c.args.i at (get_or p at 0) (get_or p (get_or p at 0) 0) c.requires.within refl refl c.up-test.true c.up.invariant

pub returns-clause-roots : goal.returns-clause-roots
returns-clause-roots c = c.up.invariant.roots

pub returns-clause-colours : goal.returns-clause-colours
returns-clause-colours c = c.up.invariant.colours

pub returns-clause-one : goal.returns-clause-one
returns-clause-one c = c.up.invariant.one
