-- How many distances are made, and where they stand.
use Rattle.std.proofs.Common.{◌≡◌, ℕ, ◌*◌, ℤ, pos, List, length, sym, ◌∙◌}
use Rattle.std.specs.Prelude.{◌==◌, count_by, flat_map, IfOk, Result, Ok, Err}
use Rattle.std.specs.List.{range_with_len}
use Rattle.mw_model.specs.Flat.{erosion, least}
use Rattle.mw_model.specs.Iterates.{times}
use Rattle.mw_model.specs.Pictures.{Picture, sample}
use Rattle.mw_model.proofs.ImagePlaces.{length-rows}
use Rattle.mw_geodesic.specs.Distances.{squares_in_row}
use Rattle.mw_geodesic.specs.declared.neighbours.Neighbours.TheVariants.{Four, Eight}
use Rattle.mw_geodesic_distances.specs.declared.metric.Metric.{Metric}
use Rattle.mw_geodesic_distances.specs.declared.metric.Metric.TheVariants as metric
use Rattle.mw_geodesic_distances.specs.Metrics.{metric_element, metric_distance}
use Rattle.mw_c_geodesic.specs.declared.refusals.Refusal.{Refusal}
use Rattle.mw_c_geodesic.specs.Told.{answer_told}
use Rattle.mw_c_geodesic.proofs.Answered.{told_not_zero}

pub distance_size : (m : Metric) (top : ℕ) (f : Picture) → length (metric_distance m top f).samples ≡ f.height * f.width
distance_size metric.CityBlock top f = length-rows (λ x y. count_by (λ n. sample (times n (erosion (metric_element Four)) f) x y == 1) (range_with_len 0 top)) f.width 0 f.height
distance_size metric.Chessboard top f = length-rows (λ x y. count_by (λ n. sample (times n (erosion (metric_element Eight)) f) x y == 1) (range_with_len 0 top)) f.width 0 f.height
distance_size metric.SquaredEuclid top f = length-rows (λ x y. least top (flat_map (λ v. squares_in_row f x y v) (range_with_len 0 f.height))) f.width 0 f.height

-- on 0 the array has the numbers
pub numbers_zero : {A : Type 0} (items : A → List ℕ) (r : Result A Refusal) (wanted new : List ℕ) (answer : ℤ) → answer ≡ answer_told r → IfOk r (λ t. items t ≡ wanted) → IfOk r (λ t. new ≡ items t) → answer ≡ pos 0 → new ≡ wanted
numbers_zero {A} items (Ok t) wanted new answer is value made zero = made ∙ value
numbers_zero {A} items (Err c) wanted new answer is value made zero = absurd (told_not_zero c (sym is ∙ zero))
