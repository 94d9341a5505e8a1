-- Geodesic operators, after Soille, Morphological Image Analysis, chapter 6, and Vincent 1993.
use Rattle.std.specs.Prelude.{◌*◌, List, min}
use Rattle.mw_model.specs.declared.offsets.Offset.{Offset}
use Rattle.mw_model.specs.Pictures.{Picture, sample, redrawn}
use Rattle.mw_model.specs.Flat.{erosion, dilation}
use Rattle.mw_model.specs.Iterates.{times, union}

-- the lesser of the two samples at each place; of sets, their intersection
abbrev pub meet : Picture → Picture → Picture
meet f g = redrawn f (λ x y. min (sample f x y) (sample g x y))

-- at each place the greater of the sample and the dilation by the element, cut to the mask
abbrev pub geodesic_dilation : List Offset → Picture → Picture → Picture
geodesic_dilation element mask f = meet (union f (dilation element f)) mask

-- the marker, cut to the mask, dilated within the mask as many times as the frame has places: from there on nothing changes
abbrev pub reconstruction : List Offset → Picture → Picture → Picture
reconstruction element mask marker = times (marker.height * marker.width) (geodesic_dilation element mask) (meet marker mask)

-- at each place the lesser of the sample and the erosion by the element, raised to the mask
abbrev pub geodesic_erosion : List Offset → Picture → Picture → Picture
geodesic_erosion element mask f = union (meet f (erosion element f)) mask

-- the marker, raised to the mask, eroded above the mask as many times as the frame has places: from there on nothing changes
abbrev pub reconstruction_by_erosion : List Offset → Picture → Picture → Picture
reconstruction_by_erosion element mask marker = times (marker.height * marker.width) (geodesic_erosion element mask) (union marker mask)
