-- What is told, from one result to another.
use Rattle.std.proofs.Common.{◌≡◌, Option, Some, None, refl, ap, subst, inl, inr}
use Rattle.std.specs.Prelude.{Result, Ok, Err, option_map}
use Rattle.mw_model.specs.declared.codes.Code.{Code}
use Rattle.mw_model.specs.declared.codes.Code.TheVariants as code
use Rattle.mw_plan.specs.Asked.{IsRefusedBy}
use Rattle.mw_plan.specs.Faults.{plan_code}
use Rattle.mw_plan.specs.declared.faults.PlanFault.{PlanFault}
use Rattle.mw_c_calls.specs.Answers.{IsTold}

-- memory may be refused
pub told_memory : (A : Type 0) (asked : Option Code) → IsTold {A = A} None asked (Err code.Memory)
told_memory A None = refl
told_memory A (Some c) = inr refl

-- something is made only where nothing is missed
pub told_ok : {A B : Type 0} (o : Option PlanFault) (asked : Option Code) (a : A) (b : B) → option_map plan_code o ≡ asked → IsRefusedBy o (Ok a) → IsTold None asked (Ok b)
told_ok {A} {B} (Some f) asked a b is refused = absurd cc
told_ok {A} {B} None asked a b is refused = subst (λ (x : Option Code). IsTold {A = B} None x (Ok b)) is tt

-- the fault of a plan is told by its number
pub told_err : (A B : Type 0) (o : Option PlanFault) (asked : Option Code) (e : PlanFault) → option_map plan_code o ≡ asked → IsRefusedBy {A = A} o (Err e) → IsTold {A = B} None asked (Err (plan_code e))
told_err A B (Some f) asked e is refused =
    let same : e ≡ f = cc in
    subst (λ (x : Option Code). IsTold {A = B} None x (Err (plan_code e))) is (inl (ap (λ (g : PlanFault). let r : Result B Code = Err (plan_code g) in r) same))
told_err A B None asked e is refused =
    subst (λ (x : Option Code). IsTold {A = B} None x (Err (plan_code e))) is (ap plan_code refused)

-- what is told of a result is told of one that is made of it
pub told_same_ok : {A B : Type 0} (asked : Option Code) (a : A) (b : B) → IsTold None asked (Ok a) → IsTold None asked (Ok b)
told_same_ok {A} {B} None a b told = tt
told_same_ok {A} {B} (Some c) a b told = elim told [ inl e ↦ absurd cc | inr e ↦ absurd cc ]

pub told_same_err : (A B : Type 0) (asked : Option Code) (c : Code) → IsTold {A = A} None asked (Err c) → IsTold {A = B} None asked (Err c)
told_same_err A B None c told = told
told_same_err A B (Some d) c told =
    elim told [
      | inl e ↦ let same : c ≡ d = cc in inl (ap (λ (x : Code). let r : Result B Code = Err x in r) same)
      | inr e ↦ let same : c ≡ code.Memory = cc in inr (ap (λ (x : Code). let r : Result B Code = Err x in r) same)
    ]

-- what is wrong with the arrays is told
pub told_first : (A : Type 0) (first asked : Option Code) (c : Code) → first ≡ Some c → IsTold {A = A} first asked (Err c)
told_first A (Some d) asked c e =
    let same : c ≡ d = cc in
    ap (λ (x : Code). let r : Result A Code = Err x in r) same
told_first A None asked c e = absurd cc

-- what is missed is told
pub told_asked : (A : Type 0) (asked : Option Code) (c : Code) → asked ≡ Some c → IsTold {A = A} None asked (Err c)
told_asked A (Some d) c e =
    let same : c ≡ d = cc in
    inl (ap (λ (x : Code). let r : Result A Code = Err x in r) same)
told_asked A None c e = absurd cc

-- where nothing is missed something is made
pub told_made : {A : Type 0} (asked : Option Code) (a : A) → asked ≡ None → IsTold None asked (Ok a)
told_made {A} (Some c) a e = absurd cc
told_made {A} None a e = tt

-- where nothing is wrong with them, what is told stands behind it
pub told_behind : {A : Type 0} (first asked : Option Code) (r : Result A Code) → first ≡ None → IsTold None asked r → IsTold first asked r
told_behind {A} (Some d) asked r e told = absurd cc
told_behind {A} None asked r e told = told
