-- Arrays with which nothing is wrong.
use Rattle.std.specs.Prelude.{◌≡◌, ◌≢◌, ◌*◌, ◌≤◌, [], length}
use Rattle.mw_model.specs.Bitmaps.{SidesFit}
use Rattle.mw_model.specs.Elements.{HoldsPlace, element_side}
use Rattle.mw_model.specs.Pictures.{IsImage}
use Rattle.mw_c_arrays.specs.declared.arrays.Bitmap.{Bitmap}
use Rattle.mw_c_arrays.specs.declared.arrays.Grey16.{Grey16}
use Rattle.mw_c_arrays.specs.declared.arrays.Grey8.{Grey8}
use Rattle.mw_c_arrays.specs.Arrays.{bitmap_raster, element_in, grey16_picture, grey8_picture}

-- an image whose levels stand in one byte each
pub record IsGrey8 (f : Grey8) : Type 0 where
  pub image : IsImage (grey8_picture f)
  pub byte : f.maxval ≤ 255

-- an image whose levels need two bytes
pub record IsGrey16 (f : Grey16) : Type 0 where
  pub image : IsImage (grey16_picture f)
  pub high : 256 ≤ f.maxval

-- a bitmap within its limits, with its origin in it and a pixel of the element
pub record IsElementBitmap (b : Bitmap) : Type 0 where
  pub sides : SidesFit element_side b.width b.height
  pub size : length b.pixels.now ≡ b.height * b.width
  pub origin : HoldsPlace (bitmap_raster b) b.origin_x b.origin_y
  pub some : element_in b ≢ []
