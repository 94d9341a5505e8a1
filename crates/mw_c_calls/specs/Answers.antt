-- What C is answered: 0, or the number of a refusal.
use Rattle.std.specs.Prelude.{◌≡◌, ◌⊎◌, ℤ, pos, Option, Some, None, Result, Ok, Err}
use Rattle.mw_model.specs.declared.codes.Code.{Code}
use Rattle.mw_model.specs.declared.codes.Code.TheVariants as code
use Rattle.mw_model.specs.Codes.{number_and_word}

-- the number of a refusal
abbrev pub refusal_number : Code → ℤ
refusal_number c = pos (number_and_word c).0

-- The first is what is wrong with the arrays, the second what the operation misses in what stands in them. Memory may be
-- refused between the two, and behind them.
abbrev pub IsAnswer : Option Code → Option Code → ℤ → Type 0
IsAnswer (Some c) asked answer = answer ≡ refusal_number c
IsAnswer None (Some c) answer = (answer ≡ refusal_number c) ⊎ (answer ≡ refusal_number code.Memory)
IsAnswer None None answer = (answer ≡ pos 0) ⊎ (answer ≡ refusal_number code.Memory)

-- a result tells what is wrong, what is missed, or that memory was refused
abbrev pub IsTold : {A : Type 0} → Option Code → Option Code → Result A Code → Type 0
IsTold (Some c) asked r = r ≡ Err c
IsTold None (Some c) r = (r ≡ Err c) ⊎ (r ≡ Err code.Memory)
IsTold None None (Ok a) = Unit {0}
IsTold None None (Err c) = c ≡ code.Memory

-- how a result is answered
abbrev pub answer_number : {A : Type 0} → Result A Code → ℤ
answer_number (Ok a) = pos 0
answer_number (Err c) = refusal_number c
