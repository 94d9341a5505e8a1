use Rattle.std.proofs.Common.{◌≡◌, ℕ, ◌⊎◌, drop}
use Rattle.mw_geodesic.specs.Neighbours.{ElementCovers}
use Rattle.mw_c_geodesic.proofs.alike.covers_others.Given as goal

abbrev pub invariant-loop-i : goal.invariant-loop-i
invariant-loop-i l = (x y u v : ℕ) → ElementCovers l.other x y u v → (ElementCovers l.element x y u v ⊎ ((x ≡ u) × (y ≡ v))) ⊎ ElementCovers (drop l.i l.other) x y u v
