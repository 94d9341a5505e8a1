use Rattle.std.proofs.Common.{◌≡◌, ◌≤◌, ◌++◌, length, drop, vec_len}
use Rattle.std.specs.Prelude.{vec_capacity}
use Rattle.mw_core_planes.specs.StepPlanes.{planes_shown}
use Rattle.mw_core_progress.specs.ProgressView.{numbers_of}
use Rattle.mw_core_progress.proofs.progress.add_numbers.Given as goal

abbrev pub invariant-loop-k : goal.invariant-loop-k
invariant-loop-k l = record {
  left : l.numbers.items ++ numbers_of (drop l.k l.plan) (planes_shown l.grid (drop l.k l.places)) ≡ numbers_of l.plan (planes_shown l.grid l.places);
  few : vec_len l.numbers ≤ l.k;
  room : length l.plan ≤ vec_capacity l.numbers;
}
