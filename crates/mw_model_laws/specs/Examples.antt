-- Small images and elements, for worked examples.
use Rattle.std.specs.Prelude.{ℕ, List, [], ◌∷◌, pos, negsuc, length}
use Rattle.mw_model.specs.declared.shapes.Kind.TheVariants.{Bit, Grey}
use Rattle.mw_model.specs.declared.offsets.Offset.{Offset}
use Rattle.mw_model.specs.Pictures.{Picture}

-- one row of samples
abbrev pub grey_row : ℕ → List ℕ → Picture
grey_row maxval samples = record { kind = Grey; width = length samples; height = 1; maxval = maxval; samples = samples }

-- one row of a set
abbrev pub bit_row : List ℕ → Picture
bit_row samples = record { kind = Bit; width = length samples; height = 1; maxval = 1; samples = samples }

-- a row of five samples from 0 to 9
abbrev pub five_samples : Picture
five_samples = grey_row 9 (3 ∷ 1 ∷ 4 ∷ 1 ∷ 5 ∷ [])

-- the pixel to the left of the origin
abbrev pub left_pixel : List Offset
left_pixel = record { dx = negsuc 0; dy = pos 0 } ∷ []

-- the origin alone
abbrev pub origin_pixel : List Offset
origin_pixel = record { dx = pos 0; dy = pos 0 } ∷ []

-- the pixel to the right of the origin
abbrev pub right_pixel : List Offset
right_pixel = record { dx = pos 1; dy = pos 0 } ∷ []

-- three pixels side by side, with the origin in the middle
abbrev pub centred_bar : List Offset
centred_bar = record { dx = negsuc 0; dy = pos 0 } ∷ record { dx = pos 0; dy = pos 0 } ∷ record { dx = pos 1; dy = pos 0 } ∷ []

-- the two ends of the centred bar, without its middle
abbrev pub two_ends : List Offset
two_ends = record { dx = negsuc 0; dy = pos 0 } ∷ record { dx = pos 1; dy = pos 0 } ∷ []

-- what the two ends make with themselves: three pixels, each two steps from the next
abbrev pub two_ends_doubled : List Offset
two_ends_doubled = record { dx = negsuc 1; dy = pos 0 } ∷ record { dx = pos 0; dy = pos 0 } ∷ record { dx = pos 2; dy = pos 0 } ∷ []
