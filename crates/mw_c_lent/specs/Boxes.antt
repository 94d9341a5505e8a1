-- What is made of the levels that are seen under an element (own).
use Rattle.std.specs.Prelude.{◌≡◌, ℕ, ◌+◌, ◌*◌, ◌<◌, List, length, slice_index_or}
use Rattle.mw_model.specs.declared.offsets.Offset.{Offset}
use Rattle.mw_model.specs.declared.offsets.Rect.{Rect}
use Rattle.mw_model.specs.Rasters.{Sight}
use Rattle.mw_rank_lent.specs.mw_rank.Ranks.{levels_under}

-- the cells have at each place of the tile this value of the levels that are seen under the element there
pub record IsMadeUnder {A : Type 0} (value : List ℕ → ℕ) (level : A → ℕ) (sight : Sight A) (element : List Offset) (tile : Rect) (made : List A) : Type 0 where
  pub size : length made ≡ tile.height * tile.width
  pub cells : (x y : ℕ) (d : A) → x < tile.width → y < tile.height
      → level (slice_index_or made (y * tile.width + x) d) ≡ value (levels_under level sight element (tile.x + x) (tile.y + y))
