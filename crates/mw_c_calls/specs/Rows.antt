-- Calls for some rows of what a flat operator of one step makes, and what is wrong with them.
use Rattle.std.specs.Prelude.{ℕ, ◌==◌, ◌||◌, Bool, not, Option}
use Rattle.mw_model.specs.declared.codes.Code.{Code}
use Rattle.mw_model.specs.declared.codes.Code.TheVariants as code
use Rattle.mw_model.specs.Refusals.{when}
use Rattle.mw_c_strips.specs.Rows.{are_rows}

-- the flat operator of the number has one step: an erosion, a dilation, a gradient or a rank
abbrev pub has_one_step : ℕ → Bool
has_one_step operation = (operation == 0 || operation == 1) || (operation == 4 || operation == 7)

-- no flat operator of one step has the number
abbrev pub row_operation_case : ℕ → Option Code
row_operation_case operation = when (not (has_one_step operation)) code.Param

-- the caller's array has not the places of rows from row `first` on of an image of this width and so many samples
abbrev pub rows_case : ℕ → ℕ → ℕ → ℕ → Option Code
rows_case first room width count = when (not (are_rows first room width count)) code.Length
