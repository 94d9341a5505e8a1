-- Extrema of an image, after Soille, Morphological Image Analysis, chapter 6, and Vincent 1993. The element "around" tells what hangs together.
use Rattle.std.specs.Prelude.{ℕ, ◌+◌, ◌-◌, List, min}
use Rattle.mw_model.specs.declared.offsets.Offset.{Offset}
use Rattle.mw_model.specs.Pictures.{Picture, sample, redrawn}
use Rattle.mw_model.specs.Flat.{minus, threshold}
use Rattle.mw_geodesic.specs.Geodesics.{reconstruction, reconstruction_by_erosion}

-- f less h at each place, stopping at 0
abbrev pub lowered_by : ℕ → Picture → Picture
lowered_by h f = redrawn f (λ x y. sample f x y - h)

-- f and h at each place, stopping at the maxval
abbrev pub raised_by : ℕ → Picture → Picture
raised_by h f = redrawn f (λ x y. min (sample f x y + h) f.maxval)

-- f with h cut off each of its domes, and without those of a height up to h
abbrev pub h_maxima : List Offset → ℕ → Picture → Picture
h_maxima around h f = reconstruction around f (lowered_by h f)

-- f with each of its basins filled up by h, and without those of a depth up to h
abbrev pub h_minima : List Offset → ℕ → Picture → Picture
h_minima around h f = reconstruction_by_erosion around f (raised_by h f)

-- the set of what the cut by 1 takes away: the plateaus of a level over 0 that have no higher neighbour
abbrev pub regional_maxima : List Offset → Picture → Picture
regional_maxima around f = threshold 1 (minus f (h_maxima around 1 f))

-- the set of what the filling by 1 adds: the plateaus of a level under the maxval that have no lower neighbour
abbrev pub regional_minima : List Offset → Picture → Picture
regional_minima around f = threshold 1 (minus (h_minima around 1 f) f)
