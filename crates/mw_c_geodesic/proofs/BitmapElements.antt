-- Elements of bitmaps.
use Rattle.std.proofs.Common.{◌≡◌, ℕ, List, ap, ◌∙◌}
use Rattle.mw_model.specs.declared.offsets.Offset.{Offset}
use Rattle.mw_model.specs.Elements.{Figure, figure_of}
use Rattle.mw_model.specs.Rasters.{Raster}
use Rattle.mw_c_arrays.specs.declared.arrays.Bitmap.{Bitmap}
use Rattle.mw_c_arrays.specs.Arrays.{bitmap_raster, element_in}
use Rattle.mw_c_calls.specs.Sources.{bitmap_figure}

pub element_found : (b : Bitmap) (p : Raster ℕ) (e : Figure) → p ≡ bitmap_raster b → e ≡ figure_of p b.origin_x b.origin_y → e ≡ bitmap_figure b
element_found b p e is found = found ∙ ap (λ (q : Raster ℕ). figure_of q b.origin_x b.origin_y) is

-- its offsets are those of the bitmap
pub offsets_found : (b : Bitmap) (e : Figure) (offsets : List Offset) → offsets ≡ e.offsets → e ≡ bitmap_figure b → offsets ≡ element_in b
offsets_found b e offsets is found = is ∙ ap (λ (t : Figure). t.offsets) found
