-- How many tiles windows span, by columns and by rows; no public contract speaks of it.
use Rattle.std.specs.Prelude.{ℕ, ◌≡◌, ◌+◌, ◌-◌, ◌*◌, ◌/◌, ◌%◌, ◌<◌, ◌≤◌, min, slice_index}
use Rattle.mw_grid.specs.Grids.{Tiling, columns_of, rows_of, tile_count}
use Rattle.mw_ready.specs.declared.spans.Spans.{Spans}

-- how many of so many pieces of a line one spans that is grown so far before and behind
abbrev pub span_of : ℕ → ℕ → ℕ → ℕ → ℕ → ℕ
span_of count side at before after = min count ((at * side + side - 1 + after) / side + 1) - (at * side - before) / side

-- how many tiles the window of a tile spans: so many rows of so many columns
abbrev pub tiles_spanned : Tiling → Spans → ℕ → ℕ
tiles_spanned g s tile = slice_index s.down (tile / columns_of g) * slice_index s.across (tile % columns_of g)

-- they are the numbers of tiles for each tile of the grid
pub record AreSpans (g : Tiling) (s : Spans) (number : ℕ → ℕ) : Type 0 where
  pub each : (tile : ℕ) → tile < tile_count g → tiles_spanned g s tile ≡ number tile
  pub low : (row : ℕ) → row < rows_of g → slice_index s.down row ≤ 128
