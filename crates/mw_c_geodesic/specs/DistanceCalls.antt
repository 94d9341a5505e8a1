-- Calls for distances.
use Rattle.std.specs.Prelude.{◌==◌, ℕ, not, nat_lt, [], ◌∷◌, Option, if◌then◌else◌}
use Rattle.mw_model.specs.declared.codes.Code.{Code}
use Rattle.mw_model.specs.declared.codes.Code.TheVariants as code
use Rattle.mw_model.specs.Refusals.{first_of, when}
use Rattle.mw_geodesic_distances.specs.declared.metric.Metric.{Metric}
use Rattle.mw_geodesic_distances.specs.declared.metric.Metric.TheVariants as metric
use Rattle.mw_c_geodesic.specs.CallFaults.{nothing_case}

-- the metric of a number
abbrev pub metric_of : ℕ → Metric
metric_of number = if number == 0 then metric.CityBlock else if number == 1 then metric.Chessboard else metric.SquaredEuclid

-- no metric has the number, or the top is 0
abbrev pub metric_case : ℕ → ℕ → Option Code
metric_case number top = first_of (when (not (nat_lt number 3)) code.Param ∷ nothing_case top ∷ [])
