-- Elements of bitmaps.
use Rattle.std.proofs.Common.{◌≡◌, ℕ, ap, ◌∙◌}
use Rattle.mw_model.specs.Elements.{Figure, figure_of}
use Rattle.mw_model.specs.Rasters.{Raster}
use Rattle.mw_c_arrays.specs.declared.arrays.Bitmap.{Bitmap}
use Rattle.mw_c_arrays.specs.Arrays.{bitmap_raster}
use Rattle.mw_c_calls.specs.Sources.{bitmap_figure}

pub element_found : (b : Bitmap) (p : Raster ℕ) (e : Figure) → p ≡ bitmap_raster b → e ≡ figure_of p b.origin_x b.origin_y → e ≡ bitmap_figure b
element_found b p e is found = found ∙ ap (λ (q : Raster ℕ). figure_of q b.origin_x b.origin_y) is
