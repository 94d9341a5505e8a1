-- Distances of the places of a set to what is not in it, after Soille, Morphological Image Analysis, chapter 2.
use Rattle.std.specs.Prelude.{ℕ, ◌+◌, ◌-◌, ◌*◌, ◌==◌, List, map, flat_map, filter, count_by}
use Rattle.std.specs.List.{range_with_len}
use Rattle.mw_model.specs.declared.offsets.Offset.{Offset}
use Rattle.mw_model.specs.declared.shapes.Kind.TheVariants.{Grey}
use Rattle.mw_model.specs.Pictures.{Picture, sample, drawn}
use Rattle.mw_model.specs.Flat.{erosion, least}
use Rattle.mw_model.specs.Iterates.{times}

-- of the n-fold erosions for n below the top, how many hold the place. By the cross this is the city-block distance to the nearest place that is not in the set, by the square of 3 x 3 the chessboard distance
abbrev pub distance : List Offset → ℕ → Picture → Picture
distance element top f =
    drawn Grey f.width f.height top (λ x y. count_by (λ n. sample (times n (erosion element) f) x y == 1) (range_with_len 0 top))

-- the square of how far two numbers are apart
abbrev pub apart_squared : ℕ → ℕ → ℕ
apart_squared a b = (a - b + (b - a)) * (a - b + (b - a))

-- the squares of the distances of a place to those of row v that are not in the set
abbrev pub squares_in_row : Picture → ℕ → ℕ → ℕ → List ℕ
squares_in_row f x y v = map (λ u. apart_squared x u + apart_squared y v) (filter (λ u. sample f u v == 0) (range_with_len 0 f.width))

-- the least square of the distance of a place to one that is not in the set, or the top where that is less
abbrev pub squared_distance : ℕ → Picture → Picture
squared_distance top f =
    drawn Grey f.width f.height top (λ x y. least top (flat_map (λ v. squares_in_row f x y v) (range_with_len 0 f.height)))
