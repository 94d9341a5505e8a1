-- Reading the rasters.
use Rattle.std.specs.Prelude.{ℕ, zero, suc, ◌+◌, ◌-◌, ◌*◌, ◌/◌, List, [], ◌∷◌, ◌++◌, length, take, drop, Result, Ok, Err, nat_lt, if◌then◌else◌, min, max, fold}
use Rattle.mw_model.specs.NetpbmGrammar.{bits_of}
use Rattle.mw_netpbm_plain.specs.declared.fault.ReadFault.{ReadFault}
use Rattle.mw_netpbm_plain.specs.declared.fault.ReadFault.TheVariants.{Short, Sample, Trailing}

-- one byte for each sample
unfoldable pub grey8_at : ℕ → ℕ → List ℕ → Result (List ℕ) ReadFault
grey8_at count maxval raster =
    if nat_lt (length raster) count then Err Short
    else (if nat_lt maxval (fold max 0 (take count raster)) then Err Sample
    else (if nat_lt count (length raster) then Err Trailing else Ok (take count raster)))

-- two bytes to a sample, the higher first
unfoldable pub two_byte_samples : List ℕ → List ℕ
two_byte_samples [] = []
two_byte_samples (a ∷ []) = []
two_byte_samples (a ∷ b ∷ bs) = (a * 256 + b) ∷ two_byte_samples bs

-- two bytes for each sample
unfoldable pub grey16_at : ℕ → ℕ → List ℕ → Result (List ℕ) ReadFault
grey16_at count maxval raster =
    if nat_lt (length raster) (2 * count) then Err Short
    else (if nat_lt maxval (fold max 0 (two_byte_samples (take (2 * count) raster))) then Err Sample
    else (if nat_lt (2 * count) (length raster) then Err Trailing else Ok (two_byte_samples (take (2 * count) raster))))

-- so many pixels of a row's bytes
unfoldable pub row_bits : ℕ → List ℕ → List ℕ
row_bits left [] = []
row_bits left (b ∷ bs) = take (min left 8) (bits_of b) ++ row_bits (left - 8) bs

-- the pixels of rows of whole bytes
unfoldable pub rows_bits : ℕ → ℕ → List ℕ → List ℕ
rows_bits width zero raster = []
rows_bits width (suc height) raster = row_bits width (take ((width + 7) / 8) raster) ++ rows_bits width height (drop ((width + 7) / 8) raster)

-- eight pixels to a byte
unfoldable pub bits_in_raster : ℕ → ℕ → List ℕ → Result (List ℕ) ReadFault
bits_in_raster width height raster =
    if nat_lt (length raster) (height * ((width + 7) / 8)) then Err Short
    else (if nat_lt (height * ((width + 7) / 8)) (length raster) then Err Trailing else Ok (rows_bits width height raster))
