-- Elements that tell the same of what hangs together.
use Rattle.std.specs.Prelude.{◌≡◌, ◌⊎◌, ℕ, List}
use Rattle.mw_model.specs.declared.offsets.Offset.{Offset}
use Rattle.mw_geodesic.specs.Neighbours.{ElementCovers}

-- from each place the element covers what the other one does, but for the place itself
abbrev pub CoversOthers : List Offset → List Offset → Type 0
CoversOthers element other = (x y u v : ℕ) → ElementCovers other x y u v → ElementCovers element x y u v ⊎ ((x ≡ u) × (y ≡ v))

-- from each place both elements cover the same others
pub record CoverAlike (element other : List Offset) : Type 0 where
  pub there : CoversOthers element other
  pub back : CoversOthers other element
