-- Numbers that C is answered.
use Rattle.std.proofs.Common.{◌≡◌, ℕ, ◌≤◌, ℤ, pos, List, Option, Some, None, refl, ap, subst, sym, ◌∙◌, inl, inr, arith}
use Rattle.std.specs.Prelude.{IfErr, IfOk, Result, Ok, Err}
use Rattle.mw_model.specs.declared.codes.Code.{Code}
use Rattle.mw_model.specs.declared.codes.Code.TheVariants as code
use Rattle.mw_model.specs.declared.offsets.Offset.{Offset}
use Rattle.mw_model.specs.Codes.{number_and_word}
use Rattle.mw_model.specs.Pictures.{Picture}
use Rattle.mw_geodesic.specs.Labels.{IsLabelling}
use Rattle.mw_c_calls.specs.Answers.{IsAnswer, refusal_number}
use Rattle.mw_c_geodesic.specs.declared.refusals.Refusal.{Refusal}
use Rattle.mw_c_geodesic.specs.declared.refusals.Refusal.TheVariants as refusal
use Rattle.mw_c_geodesic.specs.Told.{IsGeodesicAnswer, IsSymmetricAnswer, IsToldBySymmetry, IsToldFirst, answer_told, number_told, of_code}

number_above : (c : Code) → 1 ≤ (number_and_word c).0
number_above code.Line = omega arith
number_above code.Length = omega arith
number_above code.Cut = omega arith
number_above code.Magic = omega arith
number_above code.Header = omega arith
number_above code.Size = omega arith
number_above code.Maxval = omega arith
number_above code.Short = omega arith
number_above code.Sample = omega arith
number_above code.Trailing = omega arith
number_above code.NotPlain = omega arith
number_above code.Origin = omega arith
number_above code.Empty = omega arith
number_above code.NameTaken = omega arith
number_above code.Unknown = omega arith
number_above code.Kind = omega arith
number_above code.Dead = omega arith
number_above code.Binary = omega arith
number_above code.NoOrigin = omega arith
number_above code.Overlap = omega arith
number_above code.Param = omega arith
number_above code.Full = omega arith
number_above code.Settled = omega arith
number_above code.Memory = omega arith
number_above code.Released = omega arith
number_above code.Pending = omega arith

code_not_zero : (c : Code) → refusal_number c ≡ pos 0 → ⊥
code_not_zero c e =
    let zero : (number_and_word c).0 ≡ 0 = cc in
    let above : 1 ≤ (number_and_word c).0 = number_above c in
    omega (arith, zero, above)

not_zero : (n : ℕ) → 1 ≤ n → pos n ≡ pos 0 → ⊥
not_zero n above e =
    let zero : n ≡ 0 = cc in
    omega (arith, zero, above)

pub told_not_zero : (c : Refusal) → number_told c ≡ pos 0 → ⊥
told_not_zero (refusal.Of c) e = code_not_zero c e
told_not_zero refusal.Frame e = not_zero 53 (omega arith) e
told_not_zero refusal.Levels e = not_zero 54 (omega arith) e
told_not_zero refusal.OneWay e = not_zero 55 (omega arith) e

-- else the array is as it was
pub kept_else : {A : Type 0} (r : Result A Refusal) (answer : ℤ) (P : Type 0) → answer ≡ answer_told r → IfErr r (λ _. P) → (answer ≡ pos 0 → ⊥) → P
kept_else {A} (Ok a) answer P is kept not_zero = absurd (not_zero is)
kept_else {A} (Err c) answer P is kept not_zero = kept

-- on 0 the array has the samples
pub image_zero : (r : Result Picture Refusal) (f : Picture) (new : List ℕ) (answer : ℤ) → answer ≡ answer_told r → IfOk r (λ g. g ≡ f) → IfOk r (λ g. new ≡ g.samples) → answer ≡ pos 0 → new ≡ f.samples
image_zero (Ok g) f new answer is value made zero = made ∙ ap (λ (h : Picture). h.samples) value
image_zero (Err c) f new answer is value made zero = absurd (told_not_zero c (sym is ∙ zero))

-- on 0 holds what a result that is there says
pub made_zero : {A : Type 0} (r : Result A Refusal) (P : Type 0) (answer : ℤ) → answer ≡ answer_told r → IfOk r (λ _. P) → answer ≡ pos 0 → P
made_zero {A} (Ok a) P answer is made zero = made
made_zero {A} (Err c) P answer is made zero = absurd (told_not_zero c (sym is ∙ zero))

-- ---- labels

pub labels_zero : (r : Result ℕ Refusal) (e : List Offset) (f : Picture) (new : List ℕ) (count : ℕ) (answer : ℤ) → answer ≡ answer_told r
    → IfOk r (λ n. IsLabelling e f n new) → IfOk r (λ n. count ≡ n) → answer ≡ pos 0 → IsLabelling e f count new
labels_zero (Ok n) e f new count answer is value made zero = subst (λ (t : ℕ). IsLabelling e f t new) (sym made) value
labels_zero (Err c) e f new count answer is value made zero = absurd (told_not_zero c (sym is ∙ zero))

-- ---- the number is the one that is told

told_symmetric : {A : Type 0} (e : List Offset) (first : Option Code) (r : Result A Refusal) → IsToldBySymmetry e first r → IsSymmetricAnswer e first (answer_told r)
told_symmetric {A} e (Some c) r told = ap (λ (s : Result A Refusal). answer_told s) told
told_symmetric {A} e None (Ok a) told = inl (refl, told)
told_symmetric {A} e None (Err c) told =
    elim told [
      | inl one_way ↦ inr (inl (ap number_told one_way.0, one_way.1))
      | inr memory ↦ inr (inr (ap number_told memory))
    ]

pub symmetric_answered : {A : Type 0} (e : List Offset) (first : Option Code) (r : Result A Refusal) (answer : ℤ) → answer ≡ answer_told r → IsToldBySymmetry e first r → IsSymmetricAnswer e first answer
symmetric_answered {A} e first r answer is told = subst (λ (n : ℤ). IsSymmetricAnswer e first n) (sym is) (told_symmetric e first r told)

told_answered : {A : Type 0} (first : Option Refusal) (r : Result A Refusal) → IsToldFirst first r → IsGeodesicAnswer first (answer_told r)
told_answered {A} (Some c) r told = ap (λ (s : Result A Refusal). answer_told s) told
told_answered {A} None (Ok a) told = inl refl
told_answered {A} None (Err c) told = inr (ap number_told told)

pub first_answered : {A : Type 0} (first : Option Refusal) (r : Result A Refusal) (answer : ℤ) → answer ≡ answer_told r → IsToldFirst first r → IsGeodesicAnswer first answer
first_answered {A} first r answer is told = subst (λ (n : ℤ). IsGeodesicAnswer first n) (sym is) (told_answered first r told)

by_code : (first : Option Code) (answer : ℤ) → IsGeodesicAnswer (of_code first) answer → IsAnswer first None answer
by_code (Some c) answer is = is
by_code None answer is = is

pub code_answered : {A : Type 0} (first : Option Code) (r : Result A Refusal) (answer : ℤ) → answer ≡ answer_told r → IsToldFirst (of_code first) r → IsAnswer first None answer
code_answered {A} first r answer is told = by_code first answer (first_answered (of_code first) r answer is told)
