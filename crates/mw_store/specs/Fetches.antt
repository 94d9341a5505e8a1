-- What a FETCH hands out.
use Rattle.std.specs.Prelude.{◌≡◌, ℕ, Option, Some, None}
use Rattle.mw_model.specs.declared.calls.Reply.{Reply}
use Rattle.mw_model.specs.declared.calls.Reply.TheVariants as reply
use Rattle.mw_model.specs.Values.{Value, ImageValue, ElementValue, CurveValue, value_at}
use Rattle.mw_model.specs.Stands.{CoreView}
use Rattle.mw_store.specs.declared.fetched.FetchedValue.{FetchedValue}
use Rattle.mw_store.specs.declared.fetched.FetchedValue.TheVariants as shown

-- the value that is handed out, if one is
abbrev pub shown_value : FetchedValue → Option Value
shown_value shown.Nothing = None
shown_value (shown.Image f) = Some (ImageValue f)
shown_value (shown.Curve volumes) = Some (CurveValue volumes)

-- a value that may be handed out: any but an element
abbrev pub fetchable : Option Value → Option Value
fetchable (Some (ElementValue b)) = None
fetchable v = v

-- what the core hands out with this reply
abbrev pub IsShown : CoreView → Reply → FetchedValue → Type 0
IsShown c (reply.Shown t) v = shown_value v ≡ fetchable (value_at c.kept t)
IsShown c r v = shown_value v ≡ None

-- the reply shows a ticket
abbrev pub ShowsSome : Reply → Type 0
ShowsSome r = (t : ℕ) × (r ≡ reply.Shown t)
