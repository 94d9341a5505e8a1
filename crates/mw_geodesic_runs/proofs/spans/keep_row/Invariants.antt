use Rattle.std.proofs.Common.{◌≡◌, ◌+◌, ◌<◌, ℕ, length}
use Rattle.std.specs.Prelude.{vec_capacity}
use Rattle.mw_geodesic_runs.specs.Runs.{run_numbered}
use Rattle.mw_geodesic_runs.specs.Rows.{span_numbered, IsSpanOf}
use Rattle.mw_geodesic_runs.proofs.spans.keep_row.Given as goal

abbrev pub invariant-loop-k : goal.invariant-loop-k
invariant-loop-k l = record {
  size : length l.spans.items ≡ length l.initial.spans.items + l.k;
  before : (i : ℕ) → i < length l.initial.spans.items → span_numbered l.spans.items i ≡ span_numbered l.initial.spans.items i;
  added : (i : ℕ) → i < l.k → IsSpanOf (run_numbered l.row i) (span_numbered l.spans.items (length l.initial.spans.items + i));
  room : vec_capacity l.spans ≡ vec_capacity l.initial.spans;
}
