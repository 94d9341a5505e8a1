-- What is told, from one result to another.
use Rattle.std.proofs.Common.{◌≡◌, List, Option, Some, None, refl, ap}
use Rattle.std.specs.Prelude.{Result, Ok, Err}
use Rattle.mw_model.specs.declared.codes.Code.{Code}
use Rattle.mw_model.specs.declared.codes.Code.TheVariants as code
use Rattle.mw_model.specs.declared.offsets.Offset.{Offset}
use Rattle.mw_c_geodesic.specs.declared.refusals.Refusal.{Refusal}
use Rattle.mw_c_geodesic.specs.declared.refusals.Refusal.TheVariants as refusal
use Rattle.mw_c_geodesic.specs.Told.{IsToldBySymmetry, IsToldFirst, of_code}

-- ---- calls whose element is symmetric

pub told_wrong : (A : Type 0) (e : List Offset) (first : Option Code) (c : Code) → first ≡ Some c → IsToldBySymmetry {A = A} e first (Err (refusal.Of c))
told_wrong A e (Some d) c is =
    let same : c ≡ d = cc in
    ap (λ (x : Code). let r : Result A Refusal = Err (refusal.Of x) in r) same
told_wrong A e None c is = absurd cc

pub told_behind : {A : Type 0} (e : List Offset) (first : Option Code) (r : Result A Refusal) → first ≡ None → IsToldBySymmetry e None r → IsToldBySymmetry e first r
told_behind {A} e (Some d) r is told = absurd cc
told_behind {A} e None r is told = told

-- ---- calls that take any element

pub told_refused : (A : Type 0) (first : Option Refusal) (c : Refusal) → first ≡ Some c → IsToldFirst {A = A} first (Err c)
told_refused A (Some d) c is =
    let same : c ≡ d = cc in
    ap (λ (x : Refusal). let r : Result A Refusal = Err x in r) same
told_refused A None c is = absurd cc

pub told_made : {A : Type 0} (first : Option Refusal) (a : A) → first ≡ None → IsToldFirst first (Ok a)
told_made {A} (Some d) a is = absurd cc
told_made {A} None a is = tt

pub told_memory : (A : Type 0) (first : Option Refusal) → first ≡ None → IsToldFirst {A = A} first (Err (refusal.Of code.Memory))
told_memory A (Some d) is = absurd cc
told_memory A None is = refl

pub code_refused : (first : Option Code) (c : Code) → first ≡ Some c → of_code first ≡ Some (refusal.Of c)
code_refused first c is = ap of_code is

pub code_passed : (first : Option Code) → first ≡ None → of_code first ≡ None
code_passed first is = ap of_code is
