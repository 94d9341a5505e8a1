-- Why a call is refused, in the parts in which the core tests it.
use Rattle.std.specs.Prelude.{[], ◌∷◌, List, map, Option, Some, None, Result, Ok, Err}
use Rattle.mw_model.specs.declared.names.Name.{Name}
use Rattle.mw_model.specs.declared.codes.Code.{Code}
use Rattle.mw_model.specs.declared.codes.Code.TheVariants as code
use Rattle.mw_model.specs.declared.calls.Outcome.{Outcome}
use Rattle.mw_model.specs.declared.calls.Given.{Given}
use Rattle.mw_model.specs.Refusals.{Table, Wanted, first_of, when, is_dead, is_released, name_taken, no_room, fault_of, wanted_case}

-- why a check refuses, if it does
abbrev pub refused : {X : Type 0} → Result X Code → Option Code
refused (Ok x) = None
refused (Err c) = Some c

-- an input may be neither dead nor released
abbrev pub state_case : Outcome → Option Code
state_case o = first_of (when (is_dead o) code.Dead ∷ when (is_released o) code.Released ∷ [])

-- why an input is refused, if one is: the first such case
abbrev pub inputs_case : Table → List Wanted → Option Code
inputs_case w wanted = first_of (map (wanted_case w) wanted)

-- why a LOAD or an ELEMENT is refused, if it is
abbrev pub given_case : Table → Name → Given → Option Code
given_case w n g = first_of (name_taken w n ∷ no_room w ∷ fault_of g ∷ [])
