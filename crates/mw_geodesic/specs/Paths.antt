-- Paths within a level of the mask (Vincent 1993: threshold decomposition), and what connected means (Serra).
use Rattle.std.specs.Prelude.{ℕ, ◌≤◌, List, ◌==◌, ◌&&◌, if◌then◌else◌}
use Rattle.mw_model.specs.declared.offsets.Offset.{Offset}
use Rattle.mw_model.specs.Pictures.{Picture, sample, redrawn}
use Rattle.mw_geodesic.specs.Neighbours.{IsPlace, ElementCovers}

-- A path leads from the place to one where the marker is at level k or more, from each place to one that the element covers there, and the mask is at level k or more all along.
pub data Joined (element : List Offset) (mask marker : Picture) (k : ℕ) : ℕ → ℕ → Type 0 where
  ends : (x y : ℕ) → IsPlace marker x y → k ≤ sample mask x y → k ≤ sample marker x y → Joined element mask marker k x y
  goes : (x y u v : ℕ) → IsPlace marker x y → k ≤ sample mask x y → ElementCovers element x y u v → Joined element mask marker k u v → Joined element mask marker k x y

-- the set of one place
abbrev pub point : Picture → ℕ → ℕ → Picture
point f u v = redrawn f (λ x y. if x == u && y == v then 1 else 0)

-- a path within the set leads from the place to (u, v)
abbrev pub AreConnected : List Offset → Picture → ℕ → ℕ → ℕ → ℕ → Type 0
AreConnected element f x y u v = Joined element f (point f u v) 1 x y
