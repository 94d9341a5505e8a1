-- Reading plain bitmaps.
use Rattle.std.specs.Prelude.{◌≡◌, ◌≤◌, All, length, ℕ, ◌*◌, List, Result, Ok, Err}
use Rattle.mw_model.specs.declared.formats.Format.{Format}
use Rattle.mw_model.specs.declared.formats.Format.TheVariants.{PlainBits}
use Rattle.mw_model.specs.declared.formats.Header.{Header as Head}
use Rattle.mw_model.specs.Rasters.{Raster, raster}
use Rattle.mw_netpbm_plain.specs.declared.fault.ReadFault.{ReadFault}
use Rattle.mw_netpbm_plain.specs.declared.fault.ReadFault.TheVariants.{Magic}
use Rattle.mw_netpbm_plain.specs.Reading.{◌>>=◌}
use Rattle.mw_netpbm_plain.specs.Heading.{magic_at, head_at, side_limits}
use Rattle.mw_netpbm_plain.specs.Plain.{plain_at, pixel_in_text}

-- as many samples as places, and none over the maxval
abbrev pub IsFit : ℕ → ℕ → List ℕ → Type 0
IsFit count maxval xs = (length xs ≡ count) × All (λ s. s ≤ maxval) xs

-- Magic, unless the format is that of plain bitmaps
unfoldable pub plain_only : Format → Result (Unit {0}) ReadFault
plain_only PlainBits = Ok tt
plain_only other = Err Magic

-- the header of a plain bitmap whose sides are within the limit, and what follows it
unfoldable pub bitmap_head_at : ℕ → List ℕ → Result (Head × List ℕ) ReadFault
bitmap_head_at side bytes = do
  m ← magic_at bytes
  p ← plain_only m.0
  h ← head_at bytes
  l ← side_limits side h.0
  Ok h

-- the samples that are read, in rows of these sides
abbrev pub raster_from : ℕ → ℕ → Result (List ℕ) ReadFault → Result (Raster ℕ) ReadFault
raster_from width height read = read >>= λ xs. Ok (raster width height xs)

-- the pixels of these sides
abbrev pub pixels_from : Head → Result (List ℕ) ReadFault → Result (Raster ℕ) ReadFault
pixels_from h read = raster_from h.width h.height read

-- the pixels of a plain bitmap
unfoldable pub bitmap_at : ℕ → List ℕ → Result (Raster ℕ) ReadFault
bitmap_at side bytes = bitmap_head_at side bytes >>= λ h. pixels_from h.0 (plain_at pixel_in_text (h.0.height * h.0.width) h.1)
