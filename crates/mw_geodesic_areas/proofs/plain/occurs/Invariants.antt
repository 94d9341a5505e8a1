use Rattle.std.proofs.Common.{◌≡◌, ◌<◌, ℕ}
use Rattle.std.specs.Prelude.{slice_index}
use Rattle.mw_geodesic_areas.proofs.plain.occurs.Given as goal

abbrev pub invariant-loop-i : goal.invariant-loop-i
invariant-loop-i l = record { none : (k : ℕ) → k < l.i → slice_index l.samples k ≡ l.level → ⊥ }
