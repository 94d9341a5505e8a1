-- What is seen of tiles, and of how a plane holds them.
use Rattle.std.specs.Prelude.{ℕ, ◌≤◌, List, Option}
use Rattle.std.specs.Arc.{arc_value}
use Rattle.mw_model.specs.declared.shapes.Kind.{Kind}
use Rattle.mw_model.specs.declared.shapes.Kind.TheVariants as kind
use Rattle.mw_model.specs.Rasters.{Raster}
use Rattle.mw_model.specs.Pictures.{Picture}
use Rattle.mw_grid.specs.Grids.{Tiling}
use Rattle.mw_step_task.specs.mw_pixel.Images.{set_of, grey_of}
use Rattle.mw_tile_slots.specs.Tiles.{cells_of, HasSides}
use Rattle.mw_tile_planes.specs.Tiles.{Tiled, AreBounded}
use Rattle.mw_tile_planes.specs.declared.tile.Tile.{Tile}
use Rattle.mw_tile_planes.specs.declared.tile.Tile.TheVariants as tile
use Rattle.mw_tile_planes.specs.declared.plane.Samples.{Samples}
use Rattle.mw_tile_planes.specs.declared.plane.Samples.TheVariants.{Bits, Grey8, Grey16}

-- the image that a tile is
abbrev pub image_of_tile : Tile → Picture
image_of_tile (tile.Bits f) = set_of (arc_value f)
image_of_tile (tile.Grey8 f maxval) = grey_of (arc_value f) maxval
image_of_tile (tile.Grey16 f maxval) = grey_of (arc_value f) maxval

-- samples of two bytes are there for a maxval that wants them
abbrev pub IsTile : Tile → Type 0
IsTile (tile.Bits f) = Unit {0}
IsTile (tile.Grey8 f maxval) = Unit {0}
IsTile (tile.Grey16 f maxval) = 256 ≤ maxval

-- a plane of these tiles
abbrev pub tiled : Kind → ℕ → Tiling → List (Option (Raster ℕ)) → Tiled
tiled kind maxval g tiles = record { kind = kind; maxval = maxval; tiling = g; tiles = cells_of tiles }

-- the plane that is held
abbrev pub tiled_held : Tiling → Samples → Tiled
tiled_held g (Bits tiles) = tiled kind.Bit 1 g tiles.items
tiled_held g (Grey8 tiles maxval) = tiled kind.Grey maxval g tiles.items
tiled_held g (Grey16 tiles maxval) = tiled kind.Grey maxval g tiles.items

-- tiles have the sides of their places, no sample is over the maxval, and that is one of this size of samples
abbrev pub TilesAreHeld : Tiling → Samples → Type 0
TilesAreHeld g (Bits tiles) = HasSides g tiles.items × AreBounded 1 (cells_of tiles.items)
TilesAreHeld g (Grey8 tiles maxval) = HasSides g tiles.items × AreBounded maxval (cells_of tiles.items) × (1 ≤ maxval) × (maxval ≤ 255)
TilesAreHeld g (Grey16 tiles maxval) = HasSides g tiles.items × AreBounded maxval (cells_of tiles.items) × (256 ≤ maxval)
