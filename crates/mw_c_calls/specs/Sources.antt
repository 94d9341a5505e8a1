-- Images and elements that stand in arrays.
use Rattle.std.specs.Prelude.{ℕ, ◌≤◌}
use Rattle.mw_model.specs.Elements.{Figure, figure_of}
use Rattle.mw_c_arrays.specs.declared.arrays.Bitmap.{Bitmap}
use Rattle.mw_c_arrays.specs.Arrays.{bitmap_raster}
use Rattle.mw_c_arrays.specs.declared.sources.ArrayImage.{ArrayImage}
use Rattle.mw_c_arrays.specs.declared.sources.ArrayImage.TheVariants as source

-- levels up to this maxval stand in samples as those of the image do
abbrev pub LevelsStandIn : ArrayImage → ℕ → Type 0
LevelsStandIn (source.Grey8 f) maxval = maxval ≤ 255
LevelsStandIn (source.Grey16 f) maxval = 256 ≤ maxval
LevelsStandIn (source.Pixels f) maxval = maxval ≤ 255

-- the element of a bitmap
abbrev pub bitmap_figure : Bitmap → Figure
bitmap_figure b = figure_of (bitmap_raster b) b.origin_x b.origin_y
