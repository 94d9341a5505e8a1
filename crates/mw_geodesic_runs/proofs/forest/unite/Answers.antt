use Rattle.std.proofs.Common.{arith}
use Rattle.mw_geodesic_runs.proofs.Classes.{set_forest, linked_down, linked_up}
use Rattle.mw_geodesic_runs.proofs.forest.unite.Goals as goal

pub returns-then-root-other-clause-forest : goal.returns-then-root-other-clause-forest
returns-then-root-other-clause-forest c = set_forest c.find-other.new.parent c.find-other.result c.find-root.result (omega arith) (omega arith) c.find-other.ensures.forest

pub returns-then-root-other-clause-joined : goal.returns-then-root-other-clause-joined
returns-then-root-other-clause-joined c =
    linked_down c.args.parent.now c.find-root.new.parent c.find-other.new.parent c.args.a c.args.b c.find-root.result c.find-other.result (omega arith) c.find-other.ensures.root c.find-root.ensures.colours c.find-other.ensures.colours
    c.find-root.ensures.one c.find-other.ensures.one

pub returns-else-root-other-clause-joined : goal.returns-else-root-other-clause-joined
returns-else-root-other-clause-joined c =
    linked_up c.args.parent.now c.find-root.new.parent c.find-other.new.parent c.args.a c.args.b c.find-root.result c.find-other.result (omega arith) (c.find-other.ensures.roots c.find-root.result c.find-root.ensures.root) c.find-root.ensures.colours
    c.find-other.ensures.colours c.find-root.ensures.one c.find-other.ensures.one
