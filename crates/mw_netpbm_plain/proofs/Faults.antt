-- Faults that are handed on.
use Rattle.std.proofs.Common.{◌≡◌, ℕ, true, false, Some, None, List, [], ◌∷◌, map, Result, Ok, Err, refl, ap, inl, inr}
use Rattle.mw_netpbm_plain.specs.declared.fault.ReadFault.{ReadFault}
use Rattle.mw_netpbm_plain.specs.declared.fault.ReadFault.TheVariants.{Magic, Header, Size, Maxval, Short, Sample, Trailing, NoMemory}
use Rattle.mw_netpbm_plain.specs.Reading.{◌>>=◌, Fails, fault_alone}

pub Fails_from : {Y : Type 0} (e : ReadFault) (read : Result Y ReadFault) → read ≡ Err e → Fails e read
Fails_from Magic read h = h
Fails_from Header read h = h
Fails_from Size read h = h
Fails_from Maxval read h = h
Fails_from Short read h = h
Fails_from Sample read h = h
Fails_from Trailing read h = h
Fails_from NoMemory read h = inr h

pub Fails_fault : {Y : Type 0} (e : ReadFault) (read : Result Y ReadFault) → fault_alone read ≡ Some e → Fails e read
Fails_fault e (Ok x) h = absurd (let clash : None ≡ Some e = h in cc)
Fails_fault e (Err f) h = let same : f ≡ e = cc in Fails_from e (Err f) (ap (λ (x : ReadFault). Err x) same)

pub Fails_then : {X Y : Type 0} (e : ReadFault) (read : Result X ReadFault) (f : X → Y) → Fails e read → Fails e (read >>= λ x. Ok (f x))
Fails_then Magic read f h = ap (λ r. r >>= λ x. Ok (f x)) h
Fails_then Header read f h = ap (λ r. r >>= λ x. Ok (f x)) h
Fails_then Size read f h = ap (λ r. r >>= λ x. Ok (f x)) h
Fails_then Maxval read f h = ap (λ r. r >>= λ x. Ok (f x)) h
Fails_then Short read f h = ap (λ r. r >>= λ x. Ok (f x)) h
Fails_then Sample read f h = ap (λ r. r >>= λ x. Ok (f x)) h
Fails_then Trailing read f h = ap (λ r. r >>= λ x. Ok (f x)) h
Fails_then NoMemory (Ok x) f h = inl refl
Fails_then NoMemory (Err e) f (inl h) = absurd cc
Fails_then NoMemory (Err e) f (inr h) = inr (let same : e ≡ NoMemory = cc in ap (λ (x : ReadFault). Err x) same)

pub Fails_back : {X Y : Type 0} (e : ReadFault) (read : Result X ReadFault) (f : X → Y) → Fails e (read >>= λ x. Ok (f x)) → Fails e read
Fails_back NoMemory (Ok x) f h = inl refl
Fails_back NoMemory (Err d) f (inl h) = absurd (let clash : false ≡ true = h in cc)
Fails_back NoMemory (Err d) f (inr h) = inr (let same : d ≡ NoMemory = cc in ap (λ (x : ReadFault). Err x) same)
Fails_back e (Ok x) f h = absurd cc
Fails_back e (Err d) f h = let same : d ≡ e = cc in Fails_from e (Err d) (ap (λ (x : ReadFault). Err x) same)

pub Fails_same : (Y : Type 0) (e d : ReadFault) → Fails {Y = Y} e (Err d) → d ≡ e
Fails_same Y NoMemory d (inl h) = absurd (let clash : false ≡ true = h in cc)
Fails_same Y NoMemory d (inr h) = cc
Fails_same Y e d h = cc

pub map_same : (xs : List ℕ) → map (λ x. x) xs ≡ xs
map_same [] = refl
map_same (x ∷ xs) = ap (λ (ys : List ℕ). x ∷ ys) (map_same xs)
