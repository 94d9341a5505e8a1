-- Bitmaps that are an element, and bitmaps that are none.
use Rattle.std.specs.Prelude.{◌≡◌, ◌≢◌, ℕ, []}
use Rattle.mw_model.specs.declared.codes.Code.{Code}
use Rattle.mw_model.specs.declared.codes.Code.TheVariants as code
use Rattle.mw_model.specs.Rasters.{Raster}
use Rattle.mw_model.specs.Bitmaps.{SidesFit}
use Rattle.mw_model.specs.Elements.{Figure, HoldsPlace, element_side, figure_of, offsets_of}

-- the bitmap, with this origin, is this element
pub record IsElementOf (f : Raster ℕ) (ox oy : ℕ) (figure : Figure) : Type 0 where
  pub sides : SidesFit element_side f.width f.height
  pub origin : HoldsPlace f ox oy
  pub some : offsets_of f ox oy ≢ []
  pub shows : figure ≡ figure_of f ox oy

-- the bitmap, with this origin, is no element, and this code tells why: the first case that holds
pub data IsNoElement (f : Raster ℕ) (ox oy : ℕ) : Code → Type 0 where
  bad_sides : ¬ SidesFit element_side f.width f.height → IsNoElement f ox oy code.Size
  bad_origin : SidesFit element_side f.width f.height → ¬ HoldsPlace f ox oy → IsNoElement f ox oy code.Origin
  no_ones : SidesFit element_side f.width f.height → HoldsPlace f ox oy → offsets_of f ox oy ≡ [] → IsNoElement f ox oy code.Empty
