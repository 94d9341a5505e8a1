-- Reading from left to right, with the first fault that is met: what the code computes. That this is the grammar of files is proved.
use Rattle.std.specs.Prelude.{◌≡◌, ℕ, ◌+◌, ◌-◌, ◌*◌, Bool, true, false, not, List, [], ◌∷◌, Option, Some, None, Result, Ok, Err, ◌==◌, if◌then◌else◌, min, IsOk, ◌⊎◌}
use Rattle.mw_model.specs.NetpbmGrammar.{is_white, is_eol, is_digit}
use Rattle.mw_netpbm_plain.specs.declared.fault.ReadFault.{ReadFault}
use Rattle.mw_netpbm_plain.specs.declared.fault.ReadFault.TheVariants.{Header, NoMemory}

-- a step, and the next one on what it gives
infixl 10 ◌>>=◌
abbrev pub ◌>>=◌ : {A B : Type 0} → Result A ReadFault → (A → Result B ReadFault) → Result B ReadFault
(Ok x) >>= f = f x
(Err e) >>= f = Err e

-- a result, seen by view
abbrev pub result_viewed : {X Y : Type 0} → (X → Y) → Result X ReadFault → Result Y ReadFault
result_viewed view (Ok x) = Ok (view x)
result_viewed view (Err e) = Err e

-- what stands after white space and comments; the flag says whether the bytes begin inside a comment
unfoldable pub skip_from : Bool → List ℕ → List ℕ
skip_from inside [] = []
skip_from true (b ∷ bs) = skip_from (not (is_eol b)) bs
skip_from false (b ∷ bs) = if is_white b then skip_from false bs else (if b == 35 then skip_from true bs else b ∷ bs)

-- what stands after a gap
unfoldable pub gap_at : List ℕ → Result (List ℕ) ReadFault
gap_at [] = Err Header
gap_at (b ∷ bs) = if is_white b then Ok (skip_from false bs) else Err Header

-- the digits at the front after the number n, which stops growing at 2 ^ 32
unfoldable pub digits_from : ℕ → List ℕ → ℕ × List ℕ
digits_from n [] = (n, [])
digits_from n (b ∷ bs) = if is_digit b then digits_from (min (10 * n + (b - 48)) 4294967296) bs else (n, b ∷ bs)

-- a number at the front
unfoldable pub number_in_text : List ℕ → Result (ℕ × List ℕ) ReadFault
number_in_text [] = Err Header
number_in_text (b ∷ bs) = if is_digit b then Ok (digits_from 0 (b ∷ bs)) else Err Header

-- a gap and a number at the front
unfoldable pub field_at : List ℕ → Result (ℕ × List ℕ) ReadFault
field_at bytes = gap_at bytes >>= number_in_text

-- the fault is what reading gives; memory is wanting only where reading gives no fault
abbrev pub Fails : {Y : Type 0} → ReadFault → Result Y ReadFault → Type 0
Fails NoMemory read = IsOk read ⊎ (read ≡ Err NoMemory)
Fails e read = read ≡ Err e

-- what a function returned, seen by view, is what reading gives
abbrev pub Gives : {X Y : Type 0} → (X → Y) → Result X ReadFault → Result Y ReadFault → Type 0
Gives view (Ok x) read = read ≡ Ok (view x)
Gives view (Err e) read = Fails e read

-- the fault alone
abbrev pub fault_alone : {X : Type 0} → Result X ReadFault → Option ReadFault
fault_alone (Ok x) = None
fault_alone (Err e) = Some e
