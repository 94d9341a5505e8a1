-- Images by the levels of their places, and how they grow. The place in column x of row y of a frame has number y * width + x.
use Rattle.std.specs.Prelude.{◌≡◌, ℕ, zero, suc, ◌+◌, ◌-◌, ◌*◌, ◌<◌, ◌≤◌, ◌⊎◌, Bool, true, List, map, min, slice_index}
use Rattle.mw_geodesic_levels.specs.declared.frame.Frame.{Frame}

-- the levels of samples, by their numbers
abbrev pub level_numbered : {A : Type 0} → (A → ℕ) → List A → ℕ → ℕ
level_numbered level samples i = slice_index (map level samples) i

-- the second levels are the first, but for number i, which is this one
pub record IsPut (s i : ℕ) (f g : ℕ → ℕ) : Type 0 where
  pub here : g i ≡ s
  pub others : (j : ℕ) → (j ≡ i → ⊥) → g j ≡ f j

-- the first levels are nowhere over the second
abbrev pub AreUnder : Frame → (ℕ → ℕ) → (ℕ → ℕ) → Type 0
AreUnder frame f g = (i : ℕ) → i < frame.height * frame.width → f i ≤ g i

-- one place is the other or beside it; across a corner only where those count
pub record IsNearby (corners : Bool) (x y u v : ℕ) : Type 0 where
  pub left : x ≤ u + 1
  pub right : u ≤ x + 1
  pub above : y ≤ v + 1
  pub below : v ≤ y + 1
  pub across : (corners ≡ true) ⊎ ((u ≡ x) ⊎ (v ≡ y))

-- the place in column x of row y cannot be raised by that in column u of row v, within the mask
abbrev pub IsStillTo : Frame → (ℕ → ℕ) → (ℕ → ℕ) → ℕ → ℕ → ℕ → ℕ → Type 0
IsStillTo frame mask f x y u v = min (f (v * frame.width + u)) (mask (y * frame.width + x)) ≤ f (y * frame.width + x)

-- nor by any of row v that is near it
abbrev pub IsStillBy : Frame → (ℕ → ℕ) → (ℕ → ℕ) → ℕ → ℕ → ℕ → Type 0
IsStillBy frame mask f x y v = (u : ℕ) → u < frame.width → IsNearby frame.corners x y u v → IsStillTo frame mask f x y u v

-- no place can be raised by one that is near it, within the mask
pub record IsStill (frame : Frame) (mask f : ℕ → ℕ) : Type 0 where
  pub still : (x y v : ℕ) → x < frame.width → y < frame.height → v < frame.height → IsStillBy frame mask f x y v

-- at number i this level is over that of no still image over this one
abbrev pub StaysUnderStill : Frame → (ℕ → ℕ) → (ℕ → ℕ) → ℕ → ℕ → Type 0
StaysUnderStill frame mask f i s = (h : ℕ → ℕ) → IsStill frame mask h → AreUnder frame f h → s ≤ h i

-- The second image is nowhere under the first, and under each still image that the first is under.
pub record IsRaised (frame : Frame) (mask f g : ℕ → ℕ) : Type 0 where
  pub over : AreUnder frame f g
  pub within : (h : ℕ → ℕ) → IsStill frame mask h → AreUnder frame f h → AreUnder frame g h

-- Number i can be raised to this level: it is over the one that stands there, not over its mask, and allowed.
pub record CanRise (frame : Frame) (mask f : ℕ → ℕ) (i s : ℕ) : Type 0 where
  pub inside : i < frame.height * frame.width
  pub more : f i < s
  pub masked : s ≤ mask i
  pub allowed : StaysUnderStill frame mask f i s

-- of the places of row v that are no more than `reach` columns away from column x, the greatest level
pub record IsHighest (frame : Frame) (f : ℕ → ℕ) (x v reach s : ℕ) : Type 0 where
  pub most : (u : ℕ) → u < frame.width → x ≤ u + reach → u ≤ x + reach → f (v * frame.width + u) ≤ s
  pub least : (t : ℕ) → ((u : ℕ) → u < frame.width → x ≤ u + reach → u ≤ x + reach → f (v * frame.width + u) ≤ t) → s ≤ t

-- by how much the first n levels can still rise under the mask
abbrev pub room : (ℕ → ℕ) → (ℕ → ℕ) → ℕ → ℕ
room mask f zero = 0
room mask f (suc n) = room mask f n + (mask n - f n)

-- what is left to do: twice what the levels can still rise, and the places that wait
abbrev pub cost : Frame → (ℕ → ℕ) → (ℕ → ℕ) → ℕ → ℕ
cost frame mask f waiting = 2 * room mask f (frame.height * frame.width) + waiting

-- the image was raised, and no more is left to do than before
pub record IsFlooded (frame : Frame) (mask f : ℕ → ℕ) (waiting : ℕ) (g : ℕ → ℕ) (after : ℕ) : Type 0 where
  pub raised : IsRaised frame mask f g
  pub cheaper : cost frame mask g after ≤ cost frame mask f waiting

-- The marker, cut to the mask, was raised, and no place can be raised any more.
pub record IsRebuilt (frame : Frame) (mask marker g : ℕ → ℕ) : Type 0 where
  pub raised : IsRaised frame mask (λ i. min (marker i) (mask i)) g
  pub still : IsStill frame mask g
