-- The values that a store keeps.
use Rattle.std.specs.Prelude.{ℕ, List, Option, Some, None}
use Rattle.std.specs.Arc.{arc_value}
use Rattle.mw_model.specs.Values.{Value, ImageValue, ElementValue, CurveValue}
use Rattle.mw_store.specs.declared.kept.StoredValue.{StoredValue}
use Rattle.mw_store.specs.declared.kept.StoredValue.TheVariants as kept
pub use Rattle.mw_gran.specs.mw_plan.Tables.{figure_in}

-- the value that is kept so
abbrev pub kept_value : StoredValue → Value
kept_value (kept.Image f) = ImageValue f
kept_value (kept.Tiles f) = ImageValue f
kept_value (kept.Element b) = ElementValue (arc_value b)
kept_value (kept.Curve volumes) = CurveValue volumes

-- the value that stands in the place of what is kept
abbrev pub one_kept : StoredValue → Option Value
one_kept k = Some (kept_value k)

-- the volumes of the curve in the place of a value, if one stands there
abbrev pub curve_of : Option Value → Option (List ℕ)
curve_of (Some (CurveValue volumes)) = Some volumes
curve_of v = None
