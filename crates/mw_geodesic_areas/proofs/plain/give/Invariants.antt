use Rattle.std.proofs.Common.{◌≡◌, ◌<◌, ◌≤◌, ℕ, length}
use Rattle.std.specs.Prelude.{◌==◌, ◌&&◌, if◌then◌else◌, slice_index}
use Rattle.mw_geodesic_areas.proofs.plain.give.Given as goal

abbrev pub invariant-loop-i : goal.invariant-loop-i
invariant-loop-i l = record {
  size : length l.levels ≡ length l.initial.levels;
  done : (k : ℕ) → k < l.i → slice_index l.levels k ≡ (if slice_index l.set k == 1 && slice_index l.initial.levels k == 0 then l.level else slice_index l.initial.levels k);
  rest : (k : ℕ) → l.i ≤ k → slice_index l.levels k ≡ slice_index l.initial.levels k;
}
