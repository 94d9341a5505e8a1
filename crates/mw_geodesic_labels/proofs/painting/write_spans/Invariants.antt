use Rattle.std.proofs.Common.{length, get_or}
use Rattle.mw_geodesic_labels.specs.Painting.{RunsFit, HeldRuns}
use Rattle.mw_geodesic_labels.proofs.Written.{WrittenUpTo}
use Rattle.mw_geodesic_labels.proofs.painting.write_spans.Given as goal

abbrev pub invariant-loop-y : goal.invariant-loop-y
invariant-loop-y l =
    (held : HeldRuns (RunsFit l.width (length l.initial.labels)) l.height l.spans l.starts l.numbers) → WrittenUpTo l.width held.runs l.numbers (get_or l.starts l.y 0) l.at (length l.initial.labels) l.labels

abbrev pub invariant-loop-k : goal.invariant-loop-k
invariant-loop-k l =
    (held : HeldRuns (RunsFit l.width (length l.fn.labels)) l.height l.spans l.starts l.numbers) → WrittenUpTo l.width held.runs l.numbers l.k l.at (length l.fn.labels) l.labels
