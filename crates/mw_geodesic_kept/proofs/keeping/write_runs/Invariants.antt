use Rattle.std.proofs.Common.{length, get_or}
use Rattle.mw_pixel.specs.Images.{set_of}
use Rattle.mw_geodesic_kept.specs.Keeping.{LieHeld, RunsWritten}
use Rattle.mw_geodesic_kept.proofs.keeping.write_runs.Given as goal

abbrev pub invariant-loop-y : goal.invariant-loop-y
invariant-loop-y l =
    (held : LieHeld l.set.width l.set.height (length l.marks) l.spans l.starts l.numbers) → RunsWritten (set_of l.set) held.runs l.numbers l.marks l.wanted (get_or l.starts l.y 0) (set_of l.initial.out) (set_of l.out)

abbrev pub invariant-loop-k : goal.invariant-loop-k
invariant-loop-k l =
    (held : LieHeld l.set.width l.set.height (length l.marks) l.spans l.starts l.numbers) → RunsWritten (set_of l.set) held.runs l.numbers l.marks l.wanted l.k (set_of l.fn.out) (set_of l.out)
