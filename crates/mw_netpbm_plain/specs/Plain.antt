-- Reading plain rasters.
use Rattle.std.specs.Prelude.{ℕ, zero, suc, ◌-◌, false, ◌||◌, List, [], ◌∷◌, Result, Ok, Err, nat_lt, ◌==◌, if◌then◌else◌}
use Rattle.mw_netpbm_plain.specs.declared.fault.ReadFault.{ReadFault}
use Rattle.mw_netpbm_plain.specs.declared.fault.ReadFault.TheVariants.{Short, Sample, Trailing}
use Rattle.mw_netpbm_plain.specs.Reading.{◌>>=◌, skip_from, digits_from}
use Rattle.mw_model.specs.NetpbmGrammar.{is_white, is_digit}

-- what follows the last place
unfoldable pub tail_at : List ℕ → Result (List ℕ) ReadFault
tail_at [] = Ok []
tail_at (b ∷ bs) = if is_white b then Ok [] else Err Trailing

-- the places of a raster; each is told how many come after it
unfoldable pub plain_at : (ℕ → List ℕ → Result (ℕ × List ℕ) ReadFault) → ℕ → List ℕ → Result (List ℕ) ReadFault
plain_at place zero bytes = tail_at bytes
plain_at place (suc left) bytes = do
  first ← place left bytes
  others ← plain_at place left first.1
  Ok (first.0 ∷ others)

-- a pixel, where no white space or comment stands
unfoldable pub bit_at : List ℕ → Result (ℕ × List ℕ) ReadFault
bit_at [] = Err Short
bit_at (b ∷ bs) = if (b == 48) || (b == 49) then Ok (b - 48, bs) else Err Sample

-- a pixel, with so many to come
unfoldable pub pixel_in_text : ℕ → List ℕ → Result (ℕ × List ℕ) ReadFault
pixel_in_text left bytes = bit_at (skip_from false bytes)

-- so many pixels at the front, and what follows them
unfoldable pub front_at : ℕ → List ℕ → Result (List ℕ × List ℕ) ReadFault
front_at zero bytes = Ok ([], bytes)
front_at (suc n) bytes = do
  first ← pixel_in_text n bytes
  others ← front_at n first.1
  Ok (first.0 ∷ others.0, others.1)

-- a sample is told from the next by white space
unfoldable pub apart : ℕ → ℕ × List ℕ → Result (ℕ × List ℕ) ReadFault
apart zero found = Ok found
apart (suc left) (n, []) = Ok (n, [])
apart (suc left) (n, b ∷ bs) = if is_white b then Ok (n, b ∷ bs) else Err Sample

-- a sample, where no white space or comment stands
unfoldable pub level_in_text : ℕ → ℕ → List ℕ → Result (ℕ × List ℕ) ReadFault
level_in_text maxval left [] = Err Short
level_in_text maxval left (b ∷ bs) =
    if is_digit b then (if nat_lt maxval ((digits_from 0 (b ∷ bs)).0) then Err Sample else apart left (digits_from 0 (b ∷ bs))) else Err Sample

-- a sample, with so many to come
unfoldable pub sample_in_text : ℕ → ℕ → List ℕ → Result (ℕ × List ℕ) ReadFault
sample_in_text maxval left bytes = level_in_text maxval left (skip_from false bytes)
