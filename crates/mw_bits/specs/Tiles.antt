-- Pixels of a tile, as words.
use Rattle.std.specs.Prelude.{◌≡◌, ℕ, ◌+◌, ◌*◌, ◌<◌, List, fold}
use Rattle.mw_model.specs.declared.offsets.Offset.{Offset}
use Rattle.mw_model.specs.declared.offsets.Rect.{Rect}
use Rattle.mw_model.specs.Rasters.{Sight, seen_under}
use Rattle.mw_offset.specs.mw_pixel_words.Packed.{bit_of, stride_of}

-- the words have, by rows of words, at each place of the tile the extremum of n and the pixels seen under the element there
abbrev pub WordsHoldExtrema : (ℕ → ℕ → ℕ) → ℕ → Sight ℕ → List Offset → Rect → List ℕ → Type 0
WordsHoldExtrema merge n sight element tile words =
    (x y : ℕ) → x < tile.width → y < tile.height → bit_of words (y * (64 * stride_of tile.width) + x) ≡ fold merge n (seen_under sight element (tile.x + x) (tile.y + y))
