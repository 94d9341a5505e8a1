-- What reconstruction from a marker of the image itself makes, after Soille, Morphological Image Analysis, chapter 6. The element "around" tells what hangs together, as the four or the eight neighbours.
use Rattle.std.specs.Prelude.{ℕ, ◌+◌, ◌||◌, ◌==◌, Bool, List, if◌then◌else◌}
use Rattle.mw_model.specs.declared.offsets.Offset.{Offset}
use Rattle.mw_model.specs.Pictures.{Picture, sample, redrawn}
use Rattle.mw_model.specs.Flat.{erosion, dilation, minus}
use Rattle.mw_model.specs.Iterates.{times}
use Rattle.mw_geodesic.specs.Geodesics.{reconstruction, reconstruction_by_erosion}

-- n erosions, and the reconstruction of the image from what they leave
abbrev pub opening_by_reconstruction : List Offset → List Offset → ℕ → Picture → Picture
opening_by_reconstruction around element n f = reconstruction around f (times n (erosion element) f)

-- n dilations, and the reconstruction by erosion of the image from what they make
abbrev pub closing_by_reconstruction : List Offset → List Offset → ℕ → Picture → Picture
closing_by_reconstruction around element n f = reconstruction_by_erosion around f (times n (dilation element) f)

-- the place stands in the first or the last column or row
abbrev pub at_border : Picture → ℕ → ℕ → Bool
at_border f x y = x == 0 || y == 0 || x + 1 == f.width || y + 1 == f.height

-- f at the border of the frame, and this value within
abbrev pub border_over : ℕ → Picture → Picture
border_over value f = redrawn f (λ x y. if at_border f x y then sample f x y else value)

-- f with its holes filled: each place comes to the least level that a path from it to the border has to reach
abbrev pub holes_filled : List Offset → Picture → Picture
holes_filled around f = reconstruction_by_erosion around f (border_over f.maxval f)

-- f less what is reconstructed from its border; of a set, without the components that touch the border
abbrev pub border_cleared : List Offset → Picture → Picture
border_cleared around f = minus f (reconstruction around f (border_over 0 f))
