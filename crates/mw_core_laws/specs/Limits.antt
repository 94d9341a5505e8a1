-- Shapes within the limits.
use Rattle.std.specs.Prelude.{ℕ, ◌*◌, ◌<◌, ◌≤◌, length}
use Rattle.mw_model.specs.declared.limits.TheConstants.{PIXEL_LIMIT, SIDE_LIMIT}
use Rattle.mw_model.specs.declared.shapes.Shape.{Shape}
use Rattle.mw_model.specs.declared.shapes.Shape.TheVariants as shape
use Rattle.mw_model.specs.Pictures.{FitsKind}
use Rattle.mw_model.specs.Refusals.{Table, shape_at}

-- an image's sides, area and maxval are within the limits, and a curve has a volume
abbrev pub FitsLimits : Shape → Type 0
FitsLimits (shape.Image k w h m) = ((1 ≤ w) × (w ≤ SIDE_LIMIT)) × ((1 ≤ h) × (h ≤ SIDE_LIMIT)) × FitsKind k m × (h * w ≤ PIXEL_LIMIT)
FitsLimits (shape.Element w h) = Unit {0}
FitsLimits (shape.Curve n) = 1 ≤ n

abbrev pub ShapesFit : Table → Type 0
ShapesFit w = (t : ℕ) → t < length w.names → FitsLimits (shape_at w.submissions t)
