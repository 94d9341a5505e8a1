-- What is seen of the numbers of a Sum step, and what they add up to (own).
use Rattle.std.specs.Prelude.{◌≡◌, ℕ, ◌<◌, ◌^◌, All, List, [], ◌∷◌, length, map, sum, Option, Some, None, option_map, slice_index, unwrap_or}
use Rattle.mw_model.specs.declared.shapes.Kind.{Kind}
use Rattle.mw_grid.specs.Grids.{Tiling, tile_count}
use Rattle.mw_tile_planes.specs.Tiles.{Tiled}

-- the number as the only cell of its tile
abbrev pub alone : ℕ → List ℕ
alone n = n ∷ []

-- a plane of these numbers, one for each tile that is placed
abbrev pub summed : Kind → ℕ → Tiling → List (Option ℕ) → Tiled
summed kind maxval g numbers = record { kind = kind; maxval = maxval; tiling = g; tiles = map (option_map alone) numbers }

-- the number of a tile that is placed, or 0
abbrev pub number_or_zero : Option ℕ → ℕ
number_or_zero o = unwrap_or o 0

-- each tile has a place, and no number is too large for the sum of all to fit 64 bits
pub record HasNumbers (g : Tiling) (numbers : List (Option ℕ)) : Type 0 where
  pub count : length numbers ≡ tile_count g
  pub small : All (λ o. number_or_zero o < 2 ^ 40) numbers

-- the first cell of a tile that is placed, or 0
abbrev pub first_cell : Option (List ℕ) → ℕ
first_cell None = 0
first_cell (Some cells) = slice_index cells 0

-- the number that the numbers of the tiles add up to
abbrev pub number_in : Tiled → ℕ
number_in p = sum (map first_cell p.tiles)
