-- What the distance of a set by a metric is.
use Rattle.std.specs.Prelude.{ℕ, List, ◌∷◌, pos}
use Rattle.mw_model.specs.declared.offsets.Offset.{Offset}
use Rattle.mw_model.specs.Pictures.{Picture}
use Rattle.mw_geodesic.specs.declared.neighbours.Neighbours.{Neighbours}
use Rattle.mw_geodesic.specs.declared.neighbours.Neighbours.TheVariants.{Four, Eight}
use Rattle.mw_geodesic.specs.Neighbours.{neighbours_of}
use Rattle.mw_geodesic.specs.Distances.{distance, squared_distance}
use Rattle.mw_geodesic_distances.specs.declared.metric.Metric.{Metric}
use Rattle.mw_geodesic_distances.specs.declared.metric.Metric.TheVariants.{CityBlock, Chessboard, SquaredEuclid}

-- the origin and its neighbours: the cross of the four, or the square of the eight
abbrev pub metric_element : Neighbours → List Offset
metric_element neighbours = record { dx = pos 0; dy = pos 0 } ∷ neighbours_of neighbours

-- the distance of each place of a set to the nearest place that is not in it, or the top where that is less
abbrev pub metric_distance : Metric → ℕ → Picture → Picture
metric_distance CityBlock top f = distance (metric_element Four) top f
metric_distance Chessboard top f = distance (metric_element Eight) top f
metric_distance SquaredEuclid top f = squared_distance top f

-- how many columns further than above and below a place reaches in the next row
abbrev pub diagonal_reach : Neighbours → ℕ
diagonal_reach Four = 0
diagonal_reach Eight = 1
