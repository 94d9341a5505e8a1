-- What is seen of a whole plane (own).
use Rattle.std.specs.Prelude.{◌≡◌, ◌≤◌}
use Rattle.mw_model.specs.Pictures.{Picture}
use Rattle.mw_step_task.specs.mw_pixel.Images.{grey_of, raster_of, set_of}
use Rattle.mw_tile_slots.specs.Rows.{AreCutFrom}
use Rattle.mw_tile_planes.specs.declared.tiles_view.TilesView.{TilesView}
use Rattle.mw_tile_planes.specs.declared.tiles_view.TilesView.TheVariants as view

-- what is looked at is this image, in tiles
abbrev pub ShowsInTiles : Picture → TilesView → Type 0
ShowsInTiles f (view.Bits t) = (f ≡ set_of (raster_of f)) × AreCutFrom (raster_of f) t
ShowsInTiles f (view.Grey8 t maxval) = (f ≡ grey_of (raster_of f) maxval) × (maxval ≤ 255) × AreCutFrom (raster_of f) t
ShowsInTiles f (view.Grey16 t maxval) = (f ≡ grey_of (raster_of f) maxval) × (256 ≤ maxval) × AreCutFrom (raster_of f) t
