use Rattle.std.proofs.Common.{ℕ, ◌⊎◌, drop}
use Rattle.mw_geodesic.specs.Neighbours.{ElementCovers}
use Rattle.mw_geodesic.proofs.symmetry.is_symmetric.Given as goal

abbrev pub invariant-loop-i : goal.invariant-loop-i
invariant-loop-i l = (x y u v : ℕ) → ElementCovers l.element x y u v → ElementCovers l.element u v x y ⊎ ElementCovers (drop l.i l.element) x y u v
