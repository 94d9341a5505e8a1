-- Calls with which nothing is wrong.
use Rattle.std.proofs.Common.{◌≡◌, ℕ, [], ◌∷◌, Option, Some, None}
use Rattle.std.specs.Prelude.{IfNone, ◌==◌}
use Rattle.std.proofs.lemmas.Bool.{eqb-true}
use Rattle.mw_model.specs.declared.codes.Code.{Code}
use Rattle.mw_model.specs.declared.codes.Code.TheVariants as code
use Rattle.mw_c_arrays.proofs.FirstCases.{first_of-none, when_not-none}
use Rattle.mw_c_calls.specs.Calls.{call_fault, room_case}

-- none of the four cases holds
pub record Passed (a b c d : Option Code) : Type 0 where
  pub number : a ≡ None
  pub image : b ≡ None
  pub room : c ≡ None
  pub element : d ≡ None

pub passed : (number image room element : Option Code) → call_fault number image room element ≡ None → Passed number image room element
passed number image room element none =
    let first = first_of-none number (image ∷ room ∷ element ∷ []) none in
    let second = first_of-none image (room ∷ element ∷ []) first.1 in
    let third = first_of-none room (element ∷ []) second.1 in
    let fourth = first_of-none element [] third.1 in
    record { number = first.0; image = second.0; room = third.0; element = fourth.0 }

-- what holds where there is no case
pub where_none : (r : Option Code) (P : Type 0) → r ≡ None → IfNone r P → P
where_none None P e holds = holds
where_none (Some c) P e holds = absurd cc

-- the room is as many
pub room_is : (room count : ℕ) → room_case room count ≡ None → room ≡ count
room_is room count none = eqb-true room count (when_not-none (room == count) code.Length none)
