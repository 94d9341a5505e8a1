-- What stands at the places of a plain raster.
use Rattle.std.specs.Prelude.{ℕ, ◌==◌, List, Result, Ok, count_by}
use Rattle.mw_netpbm_plain.specs.declared.fault.ReadFault.{ReadFault}
use Rattle.mw_netpbm_plain.specs.declared.plain.Places.{Places}
use Rattle.mw_netpbm_plain.specs.declared.plain.Places.TheVariants.{Pixels, Samples}
use Rattle.mw_netpbm_plain.specs.Reading.{◌>>=◌}
use Rattle.mw_netpbm_plain.specs.Plain.{pixel_in_text, sample_in_text}

-- a pixel or a sample, with so many to come
abbrev pub place_in_text : Places → ℕ → List ℕ → Result (ℕ × List ℕ) ReadFault
place_in_text Pixels = pixel_in_text
place_in_text (Samples maxval) = sample_in_text maxval

-- the greatest number at a place
abbrev pub top_of : Places → ℕ
top_of Pixels = 1
top_of (Samples maxval) = maxval

-- how many of the places that are read have a 1
abbrev pub ones_of : Result (List ℕ) ReadFault → Result ℕ ReadFault
ones_of read = read >>= λ xs. Ok (count_by (λ s. s == 1) xs)
