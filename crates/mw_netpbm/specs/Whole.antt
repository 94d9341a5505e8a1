-- Reading whole files.
use Rattle.std.specs.Prelude.{ℕ, ◌*◌, List, Result, Ok, nat_lt, if◌then◌else◌}
use Rattle.mw_model.specs.declared.formats.Format.{Format}
use Rattle.mw_model.specs.declared.formats.Format.TheVariants.{PlainBits, PlainGrey, RawBits, RawGrey}
use Rattle.mw_model.specs.declared.formats.Header.{Header as Head}
use Rattle.mw_model.specs.NetpbmGrammar.{picture_under}
use Rattle.mw_model.specs.Pictures.{Picture}
use Rattle.mw_netpbm_plain.specs.declared.fault.ReadFault.{ReadFault}
use Rattle.mw_netpbm_plain.specs.Reading.{◌>>=◌}
use Rattle.mw_netpbm_plain.specs.Heading.{head_at, limits}
use Rattle.mw_netpbm.specs.Rasters.{grey8_at, grey16_at, bits_in_raster}
use Rattle.mw_netpbm_plain.specs.Plain.{plain_at, pixel_in_text, sample_in_text}

-- a set of these sides
abbrev pub set_from : ℕ → ℕ → Result (List ℕ) ReadFault → Result Picture ReadFault
set_from width height read = read >>= λ xs. Ok (picture_under (record { format = RawBits; width = width; height = height; maxval = 1 }) xs)

-- an image in levels of grey of these sides
abbrev pub grey_from : ℕ → ℕ → ℕ → Result (List ℕ) ReadFault → Result Picture ReadFault
grey_from width height maxval read = read >>= λ xs. Ok (picture_under (record { format = RawGrey; width = width; height = height; maxval = maxval }) xs)

-- the image that the raster under a header gives
unfoldable pub raster_as : Format → ℕ → ℕ → ℕ → List ℕ → Result Picture ReadFault
raster_as PlainBits width height maxval bytes = set_from width height (plain_at pixel_in_text (height * width) bytes)
raster_as PlainGrey width height maxval bytes = grey_from width height maxval (plain_at (sample_in_text maxval) (height * width) bytes)
raster_as RawBits width height maxval bytes = set_from width height (bits_in_raster width height bytes)
raster_as RawGrey width height maxval bytes = grey_from width height maxval (if nat_lt maxval 256 then grey8_at (height * width) maxval bytes else grey16_at (height * width) maxval bytes)

-- the image of the raster that the header announces
abbrev pub image_at : Head → List ℕ → Result Picture ReadFault
image_at h bytes = raster_as h.format h.width h.height h.maxval bytes

-- the image of a file
unfoldable pub reading : List ℕ → Result Picture ReadFault
reading bytes = do
  h ← head_at bytes
  l ← limits h.0
  image_at h.0 h.1
