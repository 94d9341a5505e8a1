-- Small images and elements, for worked examples.
use Rattle.std.specs.Prelude.{ℕ, List, [], ◌∷◌, pos, negsuc, length}
use Rattle.mw_model.specs.declared.shapes.Kind.TheVariants.{Bit, Grey}
use Rattle.mw_model.specs.declared.offsets.Offset.{Offset}
use Rattle.mw_model.specs.Pictures.{Picture}
use Rattle.mw_geodesic.specs.Components.{Region}

-- one row of samples
abbrev pub row_of_levels : ℕ → List ℕ → Picture
row_of_levels maxval samples = record { kind = Grey; width = length samples; height = 1; maxval = maxval; samples = samples }

-- one row of a set
abbrev pub row_of_set : List ℕ → Picture
row_of_set samples = record { kind = Bit; width = length samples; height = 1; maxval = 1; samples = samples }

-- three rows of three samples
abbrev pub three_rows : List ℕ → Picture
three_rows samples = record { kind = Grey; width = 3; height = 3; maxval = 9; samples = samples }

-- in a row, the neighbour to the left and the one to the right
abbrev pub left_and_right : List Offset
left_and_right = record { dx = negsuc 0; dy = pos 0 } ∷ record { dx = pos 1; dy = pos 0 } ∷ []

-- the origin and both neighbours in a row
abbrev pub bar : List Offset
bar = record { dx = negsuc 0; dy = pos 0 } ∷ record { dx = pos 0; dy = pos 0 } ∷ record { dx = pos 1; dy = pos 0 } ∷ []

-- the origin, and the place two columns to the right
abbrev pub gapped : List Offset
gapped = record { dx = pos 0; dy = pos 0 } ∷ record { dx = pos 2; dy = pos 0 } ∷ []

-- two places that begin a row
abbrev pub two_places : Region
two_places = record { x = 0; y = 0; area = 2; left = 0; top = 0; right = 1; bottom = 0 }
