-- Offsets of an element, one by one, and what is seen of a set under them.
use Rattle.std.specs.Prelude.{◌≡◌, ℕ, ◌+◌, ◌-◌, ◌*◌, ◌<◌, List, length, Option, Some, None, pos, ◌+ℤ◌, min, slice_get, slice_index}
use Rattle.std.specs.List.{sum_by}
use Rattle.mw_model.specs.declared.offsets.Offset.{Offset}
use Rattle.mw_model.specs.declared.offsets.Rect.{Rect}
use Rattle.mw_model.specs.PlanSteps.{ranked}
use Rattle.mw_model.specs.Rasters.{Raster, Sight, seen_under}
use Rattle.mw_bits.specs.mw_element_runs.declared.runs.Run.{Run}
use Rattle.mw_bits.specs.mw_pixel_words.Packed.{bit_of, stride_of}

-- an offset as a run of its own
abbrev pub single_run : Offset → Run
single_run b = record { dx = b.dx; dy = b.dy; count = 1 }

-- 1 where a pixel is seen that is not of the set
abbrev pub lack_at : Option ℕ → ℕ
lack_at None = 0
lack_at (Some s) = 1 - s

-- how many pixels are seen from a place that are not of the set
abbrev pub lacks_under : Sight ℕ → List Run → ℕ → ℕ → ℕ
lacks_under sight runs x y = sum_by (λ (r : Run). lack_at (sight (pos x +ℤ r.dx) (pos y +ℤ r.dy))) runs

-- at each place of the tile, of the pixels that are seen under the element in rising order, number min(k, m) of m
pub record IsSetRank (k : ℕ) (sight : Sight ℕ) (element : List Offset) (tile : Rect) (r : Raster ℕ) : Type 0 where
  pub width : r.width ≡ tile.width
  pub height : r.height ≡ tile.height
  pub size : length r.cells ≡ tile.height * tile.width
  pub cells : (x y : ℕ) → x < tile.width → y < tile.height → slice_get r.cells (y * tile.width + x) ≡ Some (ranked k (seen_under sight element (tile.x + x) (tile.y + y)))

-- the pixels of words that a plane has too
pub record IsMet (words : List ℕ) (plane made : Raster ℕ) : Type 0 where
  pub width : made.width ≡ plane.width
  pub height : made.height ≡ plane.height
  pub size : length made.cells ≡ plane.height * plane.width
  pub cells : (x y : ℕ) → x < plane.width → y < plane.height
      → slice_get made.cells (y * plane.width + x) ≡ Some (min (bit_of words (y * (64 * stride_of plane.width) + x)) (slice_index plane.cells (y * plane.width + x)))
