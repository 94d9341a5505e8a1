-- Reading the header.
use Rattle.std.specs.Prelude.{ℕ, ◌*◌, ◌||◌, List, [], ◌∷◌, Result, Ok, Err, nat_lt, ◌==◌, if◌then◌else◌}
use Rattle.mw_model.specs.declared.formats.Format.{Format}
use Rattle.mw_model.specs.declared.formats.Format.TheVariants.{PlainBits, PlainGrey, RawBits, RawGrey}
use Rattle.mw_model.specs.declared.formats.Header.{Header as Head}
use Rattle.mw_model.specs.declared.limits.TheConstants.{LEVEL_LIMIT, PIXEL_LIMIT, SIDE_LIMIT}
use Rattle.mw_model.specs.NetpbmGrammar.{is_white}
use Rattle.mw_netpbm_plain.specs.declared.fault.ReadFault.{ReadFault}
use Rattle.mw_netpbm_plain.specs.declared.fault.ReadFault.TheVariants.{Magic, Header, Size, Maxval}
use Rattle.mw_netpbm_plain.specs.Reading.{◌>>=◌, field_at}

-- the format that the first two bytes name
unfoldable pub magic_at : List ℕ → Result (Format × List ℕ) ReadFault
magic_at [] = Err Magic
magic_at (p ∷ []) = Err Magic
magic_at (p ∷ d ∷ bs) =
    if p == 80
    then (if d == 49 then Ok (PlainBits, bs) else (if d == 50 then Ok (PlainGrey, bs) else (if d == 52 then Ok (RawBits, bs) else (if d == 53 then Ok (RawGrey, bs) else Err Magic))))
    else Err Magic

-- the maxval, which a set does not write
unfoldable pub maxval_at : Format → List ℕ → Result (ℕ × List ℕ) ReadFault
maxval_at PlainBits bytes = Ok (1, bytes)
maxval_at RawBits bytes = Ok (1, bytes)
maxval_at PlainGrey bytes = field_at bytes
maxval_at RawGrey bytes = field_at bytes

-- one white space byte
unfoldable pub white_at : List ℕ → Result (List ℕ) ReadFault
white_at [] = Err Header
white_at (b ∷ bs) = if is_white b then Ok bs else Err Header

-- the header at the front, and the raster
unfoldable pub head_at : List ℕ → Result (Head × List ℕ) ReadFault
head_at bytes = do
  format ← magic_at bytes
  width ← field_at format.1
  height ← field_at width.1
  maxval ← maxval_at format.0 height.1
  raster ← white_at maxval.1
  Ok (record { format = format.0; width = width.0; height = height.0; maxval = maxval.0 }, raster)

-- the sides and the maxval that are read
unfoldable pub limits : Head → Result (Unit {0}) ReadFault
limits h =
    if (h.width == 0) || (h.height == 0) || nat_lt SIDE_LIMIT h.width || nat_lt SIDE_LIMIT h.height || nat_lt PIXEL_LIMIT (h.height * h.width) then Err Size
    else (if (h.maxval == 0) || nat_lt LEVEL_LIMIT h.maxval then Err Maxval else Ok tt)

-- the sides of a bitmap that are read
unfoldable pub side_limits : ℕ → Head → Result (Unit {0}) ReadFault
side_limits side h = if (h.width == 0) || (h.height == 0) || nat_lt side h.width || nat_lt side h.height then Err Size else Ok tt
