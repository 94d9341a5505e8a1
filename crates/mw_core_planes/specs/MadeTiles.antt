-- What was made of a tile, as it is placed in the plane of its step (own).
use Rattle.std.specs.Prelude.{ℕ, ◌≡◌, ◌<◌, ◌≤◌, ◌^◌, All, List, [], ◌∷◌}
use Rattle.std.specs.Arc.{arc_value}
use Rattle.mw_model.specs.Pictures.{Picture}
use Rattle.mw_model.specs.Plans.{no_picture}
use Rattle.mw_grid.specs.Grids.{tile_at}
use Rattle.mw_plan.specs.mw_pixel.Images.{set_of, grey_of}
use Rattle.mw_plan.specs.mw_step_task.Products.{HoldsImage}
use Rattle.mw_plan.specs.mw_step_task.declared.tile_result.TileResult.{TileResult}
use Rattle.mw_plan.specs.mw_step_task.declared.tile_result.TileResult.TheVariants as made
use Rattle.mw_tile_planes.specs.Tiles.{Tiled}

-- the image that was made of a tile
abbrev pub image_of_made : TileResult → Picture
image_of_made (made.Bits p) = set_of (arc_value p)
image_of_made (made.Grey8 p maxval) = grey_of (arc_value p) maxval
image_of_made (made.Grey16 p maxval) = grey_of (arc_value p) maxval
image_of_made (made.Number n) = no_picture

-- its samples; or the number, alone
abbrev pub cells_of_made : TileResult → List ℕ
cells_of_made (made.Number n) = n ∷ []
cells_of_made m = (image_of_made m).samples

-- the image may be placed in this tile of the plane: it has the plane's kind and maxval and the sides of the tile, and no sample is over the maxval
pub record IsTileFor (p : Tiled) (i : ℕ) (m : TileResult) : Type 0 where
  pub held : HoldsImage (image_of_made m) m
  pub bounded : All (λ n. n ≤ (image_of_made m).maxval) (image_of_made m).samples
  pub kind : (image_of_made m).kind ≡ p.kind
  pub maxval : (image_of_made m).maxval ≡ p.maxval
  pub width : (image_of_made m).width ≡ (tile_at p.tiling i).width
  pub height : (image_of_made m).height ≡ (tile_at p.tiling i).height

-- what was made is a number of less than 2 to the 40, the sum of a tile
pub record IsSmallNumber (m : TileResult) : Type 0 where
  pub number : ℕ
  pub is : m ≡ made.Number number
  pub small : number < 2 ^ 40
