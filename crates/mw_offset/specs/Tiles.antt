-- Samples of a tile.
use Rattle.std.specs.Prelude.{◌≡◌, ℕ, ◌+◌, ◌*◌, ◌<◌, List, fold, slice_index_or}
use Rattle.mw_model.specs.declared.offsets.Offset.{Offset}
use Rattle.mw_model.specs.declared.offsets.Rect.{Rect}
use Rattle.mw_model.specs.Rasters.{Sight, seen_under}

-- at each place of the tile the samples have the extremum of n and the samples that are seen under the element there
abbrev pub HoldsExtrema : {A : Type 0} → (A → A → A) → A → Sight A → List Offset → Rect → List A → Type 0
HoldsExtrema merge n sight element tile samples =
    (x y : ℕ) → x < tile.width → y < tile.height → slice_index_or samples (y * tile.width + x) n ≡ fold merge n (seen_under sight element (tile.x + x) (tile.y + y))
