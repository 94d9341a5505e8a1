-- How many steps a plan may have.
use Rattle.std.specs.Prelude.{ℕ, ◌+◌, ◌*◌, ◌/◌, ◌≤◌, List}
use Rattle.mw_model.specs.declared.limits.TheConstants.{SIZE_LIMIT, TURN_LIMIT}
use Rattle.mw_model.specs.declared.operations.GranOp.{GranOp}
use Rattle.mw_model.specs.declared.operations.GranOp.TheVariants.{Skeleton, Restore, Spectrum}
use Rattle.mw_model.specs.declared.offsets.Offset.{Offset}
use Rattle.mw_model.specs.Iterates.{skeleton, restoration}
use Rattle.mw_model.specs.Pictures.{IsPicture, IsSet}
use Rattle.mw_model.specs.Plans.{Plan}
use Rattle.mw_gran.specs.Turns.{Draws, TellsSpectrum}

-- the most steps of a plan
abbrev pub most_steps : GranOp → ℕ
most_steps (Skeleton f b levels) = 3 * levels + 2
most_steps (Restore f b levels) = 3 * levels + 1
most_steps (Spectrum f b levels) = levels + levels * (levels + 1) / 2 + levels + 1

-- the most steps of a plan where the element is a full rectangle that holds its origin
abbrev pub most_steps_by_box : GranOp → ℕ
most_steps_by_box (Spectrum f b levels) = 3 * levels + 1
most_steps_by_box o = most_steps o

-- the levels are within their limits
abbrev pub LevelsFit : GranOp → Type 0
LevelsFit (Skeleton f b levels) = levels ≤ TURN_LIMIT
LevelsFit (Restore f b levels) = levels ≤ TURN_LIMIT
LevelsFit (Spectrum f b levels) = levels ≤ SIZE_LIMIT

-- the plan makes the operation by this element
abbrev pub MakesGran : GranOp → List Offset → Plan → Type 0
MakesGran (Skeleton f e levels) b p = Draws IsSet p (3 * levels + 2) (skeleton b levels)
MakesGran (Restore f e levels) b p = Draws IsPicture p (3 * levels + 1) (restoration b levels)
MakesGran (Spectrum f e levels) b p = TellsSpectrum b levels p
