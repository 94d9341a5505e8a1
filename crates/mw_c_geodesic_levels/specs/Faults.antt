-- What is wrong with the numbers of geodesic calls on levels of grey: the first case that holds.
use Rattle.std.specs.Prelude.{ℕ, not, nat_lt, [], ◌∷◌, Option}
use Rattle.mw_model.specs.declared.codes.Code.{Code}
use Rattle.mw_model.specs.declared.codes.Code.TheVariants as code
use Rattle.mw_model.specs.declared.limits.TheConstants.{LEVEL_LIMIT}
use Rattle.mw_model.specs.Refusals.{first_of, param_case, when}

-- it is the number of neither kind
abbrev pub kind_case : ℕ → Option Code
kind_case kind = when (not (nat_lt kind 2)) code.Param

-- the kind of extrema, and the height by which they are cut off or filled up, in this order
abbrev pub height_fault : ℕ → ℕ → Option Code
height_fault kind h = first_of (kind_case kind ∷ param_case 1 LEVEL_LIMIT h ∷ [])
