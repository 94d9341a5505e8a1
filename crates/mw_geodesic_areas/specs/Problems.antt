-- What is asked for at the places of an image, by their numbers.
use Rattle.std.specs.Prelude.{ℕ, zero, suc, ◌+◌, ◌*◌, ◌/◌, ◌%◌, ◌<◌, ◌≤◌, Bool, List, nat_le, if◌then◌else◌}
use Rattle.mw_model.specs.declared.offsets.Offset.{Offset}
use Rattle.mw_model.specs.declared.shapes.Kind.TheVariants.{Bit}
use Rattle.mw_model.specs.Pictures.{Picture, drawn}
use Rattle.mw_geodesic.specs.Paths.{AreConnected}
use Rattle.mw_geodesic.specs.Components.{area, component_at}
use Rattle.mw_geodesic_levels.specs.declared.frame.Frame.{Frame}
use Rattle.mw_geodesic_levels.specs.Pictures.{element_with_corners}

-- an image by the levels of its places, what hangs together, and from how many places on a component is large
pub record Problem : Type 0 where
  pub around : List Offset
  pub width : ℕ
  pub height : ℕ
  pub levels : ℕ → ℕ
  pub least : ℕ

-- the one of a frame and the levels of its places
abbrev pub problem : Frame → (ℕ → ℕ) → ℕ → Problem
problem frame levels least = record {
  around = element_with_corners frame.corners;
  width = frame.width;
  height = frame.height;
  levels = levels;
  least = least;
}

-- the set of the places of level k or more
abbrev pub at_level : Problem → ℕ → Picture
at_level a k = drawn Bit a.width a.height 1 (λ x y. if nat_le k (a.levels (y * a.width + x)) then 1 else 0)

-- how many places the component of a place has among those of level k or more
unfoldable pub area_at : Problem → ℕ → ℕ → ℕ
area_at a k i = area (component_at a.around (at_level a k) i)

-- a path leads from one place to the other over places of level k or more
pub record AreJoined (a : Problem) (k i j : ℕ) : Type 0 where
  pub way : AreConnected a.around (at_level a k) (i % a.width) (i / a.width) (j % a.width) (j / a.width)

-- how many of the first n numbers pass
unfoldable pub tally_below : (ℕ → Bool) → ℕ → ℕ
tally_below s zero = 0
tally_below s (suc n) = (if s zero then 1 else 0) + tally_below (λ i. s (suc i)) n

-- At this level the component of the place is large, and at none above.
pub record IsValue (a : Problem) (v i : ℕ) : Type 0 where
  pub low : v ≤ a.levels i
  pub large : a.least ≤ area_at a v i
  pub above : (k : ℕ) → v < k → k ≤ a.levels i → area_at a k i < a.least

-- the same of a place that may have no such level, which then has the value 0
pub record IsOpened (a : Problem) (v i : ℕ) : Type 0 where
  pub low : 1 ≤ v → v ≤ a.levels i
  pub large : 1 ≤ v → a.least ≤ area_at a v i
  pub above : (k : ℕ) → 1 ≤ k → v < k → k ≤ a.levels i → area_at a k i < a.least
