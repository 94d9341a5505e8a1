use Rattle.std.proofs.Common.{length, get_or}
use Rattle.mw_geodesic_labels.specs.Painting.{RunsFit, HeldRuns}
use Rattle.mw_geodesic_labels.proofs.Written.{WrittenUpTo}
use Rattle.mw_geodesic_kept.proofs.showing.show_spans.Given as goal

abbrev pub invariant-loop-y : goal.invariant-loop-y
invariant-loop-y l =
    (held : HeldRuns (RunsFit l.width (length l.initial.out)) l.height l.spans l.starts l.told) → WrittenUpTo l.width held.runs l.told (get_or l.starts l.y 0) l.at (length l.initial.out) l.out

abbrev pub invariant-loop-k : goal.invariant-loop-k
invariant-loop-k l =
    (held : HeldRuns (RunsFit l.width (length l.fn.out)) l.height l.spans l.starts l.told) → WrittenUpTo l.width held.runs l.told l.k l.at (length l.fn.out) l.out
