-- What an image is, and what is seen of it.
use Rattle.std.specs.Prelude.{◌≡◌, ℕ, ◌≤◌, All}
use Rattle.mw_model.specs.Rasters.{Raster, raster}
use Rattle.mw_model.specs.Pictures.{Picture}
use Rattle.mw_model.specs.declared.shapes.Kind.TheVariants as kind
use Rattle.std.specs.Arc.{arc_value}
use Rattle.mw_pixel.specs.declared.image.SharedView.{SharedView}
use Rattle.mw_pixel.specs.declared.image.SharedView.TheVariants as shared
use Rattle.mw_pixel.specs.declared.image.View.{View}
use Rattle.mw_pixel.specs.declared.image.View.TheVariants as view
use Rattle.mw_pixel.specs.declared.image.Samples.{Samples}
use Rattle.mw_pixel.specs.declared.image.Samples.TheVariants.{Bits, Grey8, Grey16}

-- the samples of a picture, without its kind and maxval
abbrev pub raster_of : Picture → Raster ℕ
raster_of f = raster f.width f.height f.samples

-- the set of the places with a sample of 1
abbrev pub set_of : Raster ℕ → Picture
set_of p = record { kind = kind.Bit; width = p.width; height = p.height; maxval = 1; samples = p.cells }

-- the picture in levels of grey up to the maxval
abbrev pub grey_of : Raster ℕ → ℕ → Picture
grey_of p maxval = record { kind = kind.Grey; width = p.width; height = p.height; maxval = maxval; samples = p.cells }

-- the picture that is held
abbrev pub picture_of : Samples → Picture
picture_of (Bits p) = set_of (arc_value p)
picture_of (Grey8 p maxval) = grey_of (arc_value p) maxval
picture_of (Grey16 p maxval) = grey_of (arc_value p) maxval

-- no sample is over the maxval, and the maxval is one of its kind of samples
abbrev pub IsHeld : Samples → Type 0
IsHeld (Bits p) = All (λ s. s ≤ 1) (arc_value p).cells
IsHeld (Grey8 p maxval) = All (λ s. s ≤ maxval) (arc_value p).cells × (1 ≤ maxval) × (maxval ≤ 255)
IsHeld (Grey16 p maxval) = All (λ s. s ≤ maxval) (arc_value p).cells × (256 ≤ maxval)

-- what is looked at is this picture
abbrev pub Shows : Picture → View → Type 0
Shows f (view.Bits p) = f ≡ set_of p.now
Shows f (view.Grey8 p maxval) = (f ≡ grey_of p.now maxval) × (1 ≤ maxval)
Shows f (view.Grey16 p maxval) = (f ≡ grey_of p.now maxval) × (256 ≤ maxval)

-- what is shared is this picture
abbrev pub SharesAs : Picture → SharedView → Type 0
SharesAs f (shared.Bits p) = f ≡ set_of (arc_value p)
SharesAs f (shared.Grey8 p maxval) = (f ≡ grey_of (arc_value p) maxval) × (1 ≤ maxval)
SharesAs f (shared.Grey16 p maxval) = (f ≡ grey_of (arc_value p) maxval) × (256 ≤ maxval)
