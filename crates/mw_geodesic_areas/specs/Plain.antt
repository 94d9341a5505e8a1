-- What a plain area opening has behind each level, from the greatest down.
use Rattle.std.specs.Prelude.{◌≡◌, ◌==◌, ℕ, ◌*◌, ◌<◌, ◌≤◌, Bool, true, false, List, length, slice_index}
use Rattle.mw_model.specs.declared.offsets.Offset.{Offset}
use Rattle.mw_model.specs.Pictures.{Picture}
use Rattle.mw_model.specs.Flat.{threshold}
use Rattle.mw_geodesic.specs.Components.{large_components}

-- whether the place of this number belongs to a component that is large at a level
abbrev pub is_large_at : List Offset → ℕ → Picture → ℕ → ℕ → Bool
is_large_at around least f i k = slice_index (large_components around least (threshold k f)).samples i == 1

-- the greatest number that passes of those over m and up to the top, or 0 where none does
pub record IsGreatestOver (pass : ℕ → Bool) (m top v : ℕ) : Type 0 where
  pub low : v ≤ top
  pub over : 1 ≤ v → m < v
  pub here : 1 ≤ v → pass v ≡ true
  pub above : (k : ℕ) → m < k → v < k → k ≤ top → pass k ≡ false

-- each place has the greatest level over m at which it belongs to a large component, or 0
pub record AreOpenedOver (around : List Offset) (least : ℕ) (f : Picture) (m : ℕ) (levels : List ℕ) : Type 0 where
  pub size : length levels ≡ f.height * f.width
  pub each : (i : ℕ) → i < f.height * f.width → IsGreatestOver (is_large_at around least f i) m f.maxval (slice_index levels i)
