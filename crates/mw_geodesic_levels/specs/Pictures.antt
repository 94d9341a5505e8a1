-- Planes of grey samples as pictures, and neighbours by their names.
use Rattle.std.specs.Prelude.{ℕ, Bool, true, false, List, map}
use Rattle.mw_model.specs.declared.offsets.Offset.{Offset}
use Rattle.mw_model.specs.declared.shapes.Kind.TheVariants as kind
use Rattle.mw_model.specs.Pictures.{Picture, picture}
use Rattle.mw_model.specs.Rasters.{Raster}
use Rattle.mw_geodesic.specs.Neighbours.{four_neighbours, eight_neighbours}

-- the picture in levels of grey up to the maxval
abbrev pub picture_by : {A : Type 0} → (A → ℕ) → ℕ → Raster A → Picture
picture_by level maxval p = picture kind.Grey p.width p.height maxval (map level p.cells)

-- the element of the four neighbours, or of the eight, where places that touch at a corner count
abbrev pub element_with_corners : Bool → List Offset
element_with_corners true = eight_neighbours
element_with_corners false = four_neighbours
