-- Cells of a window, in columns and rows that are counted from its first place.
use Rattle.std.specs.Prelude.{ℕ, ℤ, pos, ◌+ℤ◌}
use Rattle.std.specs.Option.{unwrap_or}
use Rattle.mw_model.specs.Rasters.{raster, cell_at, Sight}
use Rattle.mw_model.specs.Windows.{View}
use Rattle.mw_lane.specs.Shifted.{merge_at}

-- the cell in a column and row of the window, where it has one
abbrev pub window_cell : {A : Type 0} → View A → Sight A
window_cell w column row = cell_at (raster w.place.width w.place.height w.cells) column row

-- what the window has x columns and y rows from a place on, or the other cell where it has nothing there
abbrev pub spread_cell : {A : Type 0} → A → View A → ℤ → ℤ → ℕ → ℕ → A
spread_cell other w column row x y = unwrap_or (window_cell w (column +ℤ pos x) (row +ℤ pos y)) other

-- a cell merged with what the window has x columns and y rows from a place on
abbrev pub merged_cell : {A : Type 0} → (A → A → A) → A → View A → ℤ → ℤ → ℕ → ℕ → A
merged_cell merge best w column row x y = merge_at merge best (window_cell w (column +ℤ pos x) (row +ℤ pos y))
