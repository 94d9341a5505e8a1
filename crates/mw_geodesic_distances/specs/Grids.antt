-- Numbers of the places of a frame, and how they are lowered to one more than those near them.
use Rattle.std.specs.Prelude.{◌≡◌, ◌⊎◌, ℕ, ◌+◌, ◌*◌, ◌<◌, ◌≤◌, List, slice_index}
use Rattle.mw_geodesic_distances.specs.declared.frame.Frame.{Frame}

-- the numbers of rows of this width, by column and row
abbrev pub grid : ℕ → List ℕ → ℕ → ℕ → ℕ
grid width numbers x y = slice_index numbers (y * width + x)

-- no number of the frame is over the top
abbrev pub AreUpTo : Frame → ℕ → (ℕ → ℕ → ℕ) → Type 0
AreUpTo frame top g = (x y : ℕ) → x < frame.width → y < frame.height → g x y ≤ top

-- a place is beside another in its row, or near it in the next one, or it is that place
abbrev pub IsAdjoining : ℕ → ℕ → ℕ → ℕ → ℕ → Type 0
IsAdjoining reach x y u v = ((v ≡ y) × (x ≤ u + 1) × (u ≤ x + 1)) ⊎ ((x ≤ u + reach) × (u ≤ x + reach) × (y ≤ v + 1) × (v ≤ y + 1))

-- some place of the frame that is near has a lesser number
pub record HasLower (frame : Frame) (g : ℕ → ℕ → ℕ) (x y s : ℕ) : Type 0 where
  pub column : ℕ
  pub row : ℕ
  pub across : column < frame.width
  pub down : row < frame.height
  pub near : IsAdjoining frame.reach x y column row
  pub lower : g column row + 1 ≤ s

-- no number is over what it was, and each is what it was or over that of a place near it
pub record IsLowered (frame : Frame) (f g : ℕ → ℕ → ℕ) : Type 0 where
  pub less : (x y : ℕ) → x < frame.width → y < frame.height → g x y ≤ f x y
  pub reason : (x y : ℕ) → x < frame.width → y < frame.height → (g x y ≡ f x y) ⊎ HasLower frame g x y (g x y)

-- each number is at most one more than the one to its left, and than those near it in the row above
pub record IsForward (frame : Frame) (g : ℕ → ℕ → ℕ) : Type 0 where
  pub along : (u x v : ℕ) → u + 1 ≡ x → x < frame.width → v < frame.height → g x v ≤ g u v + 1
  pub across : (x u v y : ℕ) → x < frame.width → u < frame.width → v + 1 ≡ y → y < frame.height → x ≤ u + frame.reach → u ≤ x + frame.reach → g x y ≤ g u v + 1

-- each number is at most one more than that of each place near it
pub record IsSmooth (frame : Frame) (g : ℕ → ℕ → ℕ) : Type 0 where
  pub smooth : (x y u v : ℕ) → x < frame.width → y < frame.height → u < frame.width → v < frame.height → IsAdjoining frame.reach x y u v → g x y ≤ g u v + 1
