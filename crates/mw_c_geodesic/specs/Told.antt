-- What C is answered by geodesic calls: 0, or the number of a refusal.
use Rattle.std.specs.Prelude.{◌≡◌, ◌⊎◌, ℤ, pos, List, Option, Some, None, Result, Ok, Err}
use Rattle.mw_model.specs.declared.codes.Code.{Code}
use Rattle.mw_model.specs.declared.codes.Code.TheVariants as code
use Rattle.mw_model.specs.declared.offsets.Offset.{Offset}
use Rattle.mw_geodesic.specs.Neighbours.{IsSymmetric}
use Rattle.mw_c_calls.specs.Answers.{refusal_number}
use Rattle.mw_c_geodesic.specs.declared.refusals.Refusal.{Refusal}
use Rattle.mw_c_geodesic.specs.declared.refusals.Refusal.TheVariants as refusal

-- the number of a refusal: that of its code, or one of three that no command is answered
abbrev pub number_told : Refusal → ℤ
number_told (refusal.Of c) = refusal_number c
number_told refusal.Frame = pos 53
number_told refusal.Levels = pos 54
number_told refusal.OneWay = pos 55

-- how a result is answered
abbrev pub answer_told : {A : Type 0} → Result A Refusal → ℤ
answer_told (Ok a) = pos 0
answer_told (Err c) = number_told c

-- the refusal of a code
abbrev pub of_code : Option Code → Option Refusal
of_code (Some c) = Some (refusal.Of c)
of_code None = None

-- ---- calls that take any element

-- The first is what is wrong with the numbers and the arrays. Where nothing is, the answer is 0, or memory was refused.
abbrev pub IsGeodesicAnswer : Option Refusal → ℤ → Type 0
IsGeodesicAnswer (Some c) answer = answer ≡ number_told c
IsGeodesicAnswer None answer = (answer ≡ pos 0) ⊎ (answer ≡ number_told (refusal.Of code.Memory))

-- a result tells the same
abbrev pub IsToldFirst : {A : Type 0} → Option Refusal → Result A Refusal → Type 0
IsToldFirst (Some c) r = r ≡ Err c
IsToldFirst None (Ok a) = Unit {0}
IsToldFirst None (Err c) = c ≡ refusal.Of code.Memory

-- ---- calls whose element is symmetric

-- The code is what is wrong with the numbers and the arrays. Where nothing is, the element is symmetric, or it is told that it is not; or memory was refused.
abbrev pub IsSymmetricAnswer : List Offset → Option Code → ℤ → Type 0
IsSymmetricAnswer e (Some c) answer = answer ≡ refusal_number c
IsSymmetricAnswer e None answer =
    ((answer ≡ pos 0) × IsSymmetric e) ⊎ (((answer ≡ number_told refusal.OneWay) × (IsSymmetric e → ⊥)) ⊎ (answer ≡ refusal_number code.Memory))

-- a result tells the same
abbrev pub IsToldBySymmetry : {A : Type 0} → List Offset → Option Code → Result A Refusal → Type 0
IsToldBySymmetry e (Some c) r = r ≡ Err (refusal.Of c)
IsToldBySymmetry e None (Ok a) = IsSymmetric e
IsToldBySymmetry e None (Err c) = ((c ≡ refusal.OneWay) × (IsSymmetric e → ⊥)) ⊎ (c ≡ refusal.Of code.Memory)
