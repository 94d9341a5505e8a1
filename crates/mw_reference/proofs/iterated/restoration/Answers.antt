use Rattle.std.proofs.Common.{◌+◌}
use Rattle.mw_reference.proofs.Iterates.{part_maxval, restored_more}
use Rattle.mw_reference.proofs.iterated.restoration.Goals as goal

pub union-requires : goal.union-requires
union-requires c =
    part_maxval c.args.element.now c.loop-n.n (c.loop-n.n + 1) c.args.marks.now c.loop-n.restored c.in_ok-level.level c.in_ok-part.part c.loop-n.invariant c.in_ok-level.ensures c.in_ok-part.ensures

pub loop-n-preserved : goal.loop-n-preserved
loop-n-preserved c =
    restored_more c.args.element.now c.loop-n.n c.args.marks.now c.loop-n.restored c.in_ok-level.level c.in_ok-part.part c.in_ok-restored-2.restored c.loop-n.invariant c.in_ok-level.ensures
    c.in_ok-part.ensures c.in_ok-restored-2.ensures
