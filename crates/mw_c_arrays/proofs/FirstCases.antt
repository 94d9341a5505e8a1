-- Cases that do not hold.
use Rattle.std.proofs.Common.{◌≡◌, ℕ, ◌+◌, ◌<◌, ◌≤◌, Bool, true, false, not, List, [], ◌∷◌, length, get_or, drop, Option, Some, None, refl, sym, add-one, drop-cons}
use Rattle.std.specs.Prelude.{IfNone}
use Rattle.mw_model.specs.declared.codes.Code.{Code}
use Rattle.mw_model.specs.Refusals.{first_of, when}

-- where no case holds, neither the first does nor any behind it
pub first_of-none : (o : Option Code) (os : List (Option Code)) → first_of (o ∷ os) ≡ None → (o ≡ None) × (first_of os ≡ None)
first_of-none None os e = (refl, e)
first_of-none (Some c) os e = absurd cc

-- a case that does not hold is passed over
pub first_of-next : (cases : List (Option Code)) (i : ℕ) (o : Option Code) → i < length cases → get_or cases i o ≡ None → first_of (drop i cases) ≡ first_of (drop (i + 1) cases)
first_of-next cases i o within none =
    rw (add-one, drop-cons cases i o, none) refl

-- the case that stands there is the first
pub first_of-here : (cases : List (Option Code)) (i : ℕ) (o : Option Code) (c : Code) → i < length cases → get_or cases i o ≡ Some c → first_of (drop i cases) ≡ Some c
first_of-here cases i o c within some =
    rw (drop-cons cases i o, some) refl

-- what is asked holds
pub when_not-none : (b : Bool) (c : Code) → when (not b) c ≡ None → b ≡ true
when_not-none true c e = refl
when_not-none false c e = absurd cc

-- the case does not hold
pub when-none : (b : Bool) (c : Code) → when b c ≡ None → b ≡ false
when-none true c e = absurd cc
when-none false c e = refl

-- where there is no case, what follows from that holds
pub if_none : (r first : Option Code) (P : Type 0) → r ≡ first → (first ≡ None → P) → IfNone r P
if_none None first P is sound = sound (sym is)
if_none (Some c) first P is sound = tt
