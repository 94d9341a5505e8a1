-- How far the places of a frame are from what is not in the set, within their columns.
use Rattle.std.specs.Prelude.{◌≡◌, ◌⊎◌, ℕ, ◌+◌, ◌-◌, ◌<◌, ◌≤◌, min}
use Rattle.mw_geodesic_distances.specs.declared.columns.TheConstants.{FAR}

-- each row is lowered by the one above it
pub record IsLoweredDown (width height : ℕ) (f g : ℕ → ℕ → ℕ) : Type 0 where
  pub first : (x : ℕ) → x < width → 0 < height → g x 0 ≡ f x 0
  pub next : (x v y : ℕ) → x < width → v + 1 ≡ y → y < height → g x y ≡ min (f x y) (g x v + 1)

-- each row is lowered by the one below it
pub record IsLoweredUp (width height : ℕ) (f g : ℕ → ℕ → ℕ) : Type 0 where
  pub last : (x y : ℕ) → x < width → y + 1 ≡ height → g x y ≡ f x y
  pub next : (x y v : ℕ) → x < width → y + 1 ≡ v → v < height → g x y ≡ min (f x y) (g x v + 1)

-- how far two numbers are apart
abbrev pub gap_between : ℕ → ℕ → ℕ
gap_between a b = a - b + (b - a)

-- so far place y of a column is from the nearest one that is not in the set
pub record IsGapTo (height y : ℕ) (column : ℕ → ℕ) (g : ℕ) : Type 0 where
  pub row : ℕ
  pub within : row < height
  pub outside : column row ≡ 0
  pub is : g ≡ gap_between y row

-- the least of the distances of place y of a column to those that are not in the set, or what counts as far
pub record IsGap (height y : ℕ) (column : ℕ → ℕ) (g : ℕ) : Type 0 where
  pub low : g ≤ FAR
  pub least : (v : ℕ) → v < height → column v ≡ 0 → g ≤ gap_between y v
  pub reason : (g ≡ FAR) ⊎ IsGapTo height y column g

-- each place of the frame has its gap
abbrev pub AreGaps : ℕ → ℕ → (ℕ → ℕ → ℕ) → (ℕ → ℕ → ℕ) → Type 0
AreGaps width height set g = (x y : ℕ) → x < width → y < height → IsGap height y (set x) (g x y)
