-- Numbers that C is answered.
use Rattle.std.proofs.Common.{◌≡◌, ℕ, ◌≤◌, ℤ, pos, List, Option, Some, None, refl, ap, subst, sym, ◌∙◌, inl, inr, arith}
use Rattle.std.specs.Prelude.{IfErr, IfOk, Result, Ok, Err}
use Rattle.mw_model.specs.declared.codes.Code.{Code}
use Rattle.mw_model.specs.declared.codes.Code.TheVariants as code
use Rattle.mw_model.specs.Codes.{number_and_word}
use Rattle.mw_model.specs.Pictures.{Picture}
use Rattle.mw_c_calls.specs.Answers.{IsAnswer, IsTold, answer_number, refusal_number}

number_above : (c : Code) → 1 ≤ (number_and_word c).0
number_above code.Line = omega arith
number_above code.Length = omega arith
number_above code.Cut = omega arith
number_above code.Magic = omega arith
number_above code.Header = omega arith
number_above code.Size = omega arith
number_above code.Maxval = omega arith
number_above code.Short = omega arith
number_above code.Sample = omega arith
number_above code.Trailing = omega arith
number_above code.NotPlain = omega arith
number_above code.Origin = omega arith
number_above code.Empty = omega arith
number_above code.NameTaken = omega arith
number_above code.Unknown = omega arith
number_above code.Kind = omega arith
number_above code.Dead = omega arith
number_above code.Binary = omega arith
number_above code.NoOrigin = omega arith
number_above code.Overlap = omega arith
number_above code.Param = omega arith
number_above code.Full = omega arith
number_above code.Settled = omega arith
number_above code.Memory = omega arith
number_above code.Released = omega arith
number_above code.Pending = omega arith

number_not_zero : (c : Code) → refusal_number c ≡ pos 0 → ⊥
number_not_zero c e =
    let zero : (number_and_word c).0 ≡ 0 = cc in
    let above : 1 ≤ (number_and_word c).0 = number_above c in
    omega (arith, zero, above)

-- on 0 the array has the samples
pub made_zero : (r : Result Picture Code) (f : Picture) (new : List ℕ) (answer : ℤ) → answer ≡ answer_number r → IfOk r (λ g. g ≡ f) → IfOk r (λ g. new ≡ g.samples) → answer ≡ pos 0 → new ≡ f.samples
made_zero (Ok g) f new answer is value made zero = made ∙ ap (λ (h : Picture). h.samples) value
made_zero (Err c) f new answer is value made zero = absurd (number_not_zero c (sym is ∙ zero))

pub measured_zero : (r : Result (List ℕ) Code) (v new : List ℕ) (answer : ℤ) → answer ≡ answer_number r → IfOk r (λ w. w ≡ v) → IfOk r (λ w. new ≡ w) → answer ≡ pos 0 → new ≡ v
measured_zero (Ok w) v new answer is value made zero = made ∙ value
measured_zero (Err c) v new answer is value made zero = absurd (number_not_zero c (sym is ∙ zero))

-- what was written stands on 0
pub written_zero : {A : Type 0} (r : Result A Code) (answer : ℤ) (P : Type 0) → answer ≡ answer_number r → IfOk r (λ _. P) → answer ≡ pos 0 → P
written_zero {A} (Ok a) answer P is written zero = written
written_zero {A} (Err c) answer P is written zero = absurd (number_not_zero c (sym is ∙ zero))

-- else the array is as it was
pub kept_else : {A : Type 0} (r : Result A Code) (answer : ℤ) (P : Type 0) → answer ≡ answer_number r → IfErr r (λ _. P) → (answer ≡ pos 0 → ⊥) → P
kept_else {A} (Ok a) answer P is kept not_zero = absurd (not_zero is)
kept_else {A} (Err c) answer P is kept not_zero = kept

-- and the number is the one that is told
told_answered : {A : Type 0} (first asked : Option Code) (r : Result A Code) → IsTold first asked r → IsAnswer first asked (answer_number r)
told_answered {A} (Some c) asked r told = ap (λ (s : Result A Code). answer_number s) told
told_answered {A} None (Some c) r told =
    elim told [
      | inl e ↦ inl (ap (λ (s : Result A Code). answer_number s) e)
      | inr e ↦ inr (ap (λ (s : Result A Code). answer_number s) e)
    ]
told_answered {A} None None (Ok a) told = inl refl
told_answered {A} None None (Err c) told = inr (ap refusal_number told)

pub answered : {A : Type 0} (first asked : Option Code) (r : Result A Code) (answer : ℤ) → answer ≡ answer_number r → IsTold first asked r → IsAnswer first asked answer
answered {A} first asked r answer is told = subst (λ (n : ℤ). IsAnswer first asked n) (sym is) (told_answered first asked r told)
