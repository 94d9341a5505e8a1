-- Plain bitmaps, whose sides stay within a limit of the caller: what they are, and why bytes are none (own).
use Rattle.std.specs.Prelude.{◌≡◌, ℕ, ◌*◌, ◌<◌, ◌≤◌, List}
use Rattle.mw_model.specs.declared.codes.Code.{Code}
use Rattle.mw_model.specs.declared.codes.Code.TheVariants as code
use Rattle.mw_model.specs.declared.formats.Format.TheVariants.{PlainBits}
use Rattle.mw_model.specs.declared.formats.Header.{Header}
use Rattle.mw_model.specs.Rasters.{Raster, raster}
use Rattle.mw_model.specs.NetpbmGrammar.{BeginsImage, IsPixel, IsRaster}
use Rattle.mw_model.specs.NetpbmRefusals.{HasMagic, PlainRefuses}

-- there is a pixel, and no side is over the limit (own)
pub record SidesFit (side width height : ℕ) : Type 0 where
  pub some_column : 0 < width
  pub some_row : 0 < height
  pub narrow : width ≤ side
  pub low : height ≤ side

-- a header of a plain bitmap stands at the front, and the raster follows
pub record BeginsBitmap (bytes : List ℕ) (h : Header) (pixels : List ℕ) : Type 0 where
  pub begins : BeginsImage bytes h pixels
  pub format : h.format ≡ PlainBits

-- the bytes are a plain bitmap of these pixels
pub record IsBitmap (bytes : List ℕ) (side : ℕ) (f : Raster ℕ) : Type 0 where
  pub header : Header
  pub pixels : List ℕ
  pub begins : BeginsBitmap bytes header pixels
  pub sides_fit : SidesFit side header.width header.height
  pub is_raster : IsRaster header pixels f.cells
  pub shows : f ≡ raster header.width header.height f.cells

-- the bytes are no plain bitmap, and this code tells why: the first case that holds
pub data BitmapRefuses (bytes : List ℕ) (side : ℕ) : Code → Type 0 where
  not_plain : ¬ HasMagic PlainBits bytes → BitmapRefuses bytes side code.NotPlain
  no_header : HasMagic PlainBits bytes → ((h : Header) (pixels : List ℕ) → ¬ BeginsBitmap bytes h pixels) → BitmapRefuses bytes side code.Header
  bad_sides : (h : Header) (pixels : List ℕ) → BeginsBitmap bytes h pixels → ¬ SidesFit side h.width h.height → BitmapRefuses bytes side code.Size
  bad_pixels : (h : Header) (pixels : List ℕ) (c : Code) → BeginsBitmap bytes h pixels → SidesFit side h.width h.height → PlainRefuses IsPixel 1 (h.height * h.width) pixels c → BitmapRefuses bytes side c
