-- One more place of a plain raster.
use Rattle.std.proofs.Common.{Some, None, ◌≡◌, ℕ, suc, map, ◌+◌, ◌-◌, ◌<◌, ◌≤◌, List, [], ◌∷◌, ◌++◌, Result, Ok, Err, refl, sym, ap, ◌∙◌, Bool, true, false, cond, eqb, append_assoc, arith}
use Rattle.std.proofs.lemmas.List.{append-nil, map-append}
use Rattle.std.proofs.lemmas.List.Sums.{sum_by-cons}
use Rattle.mw_netpbm_plain.specs.declared.fault.ReadFault.{ReadFault}
use Rattle.mw_netpbm_plain.specs.declared.fault.ReadFault.TheVariants.{Trailing}
use Rattle.mw_netpbm_plain.specs.Reading.{◌>>=◌, fault_alone}
use Rattle.mw_model.specs.NetpbmGrammar.{is_white}
use Rattle.mw_netpbm_plain.specs.Plain.{plain_at, tail_at}
use Rattle.mw_netpbm_plain.specs.PlainSamples.{ones_of}

-- what was read before, and what is still read
abbrev pub with_front : List ℕ → Result (List ℕ) ReadFault → Result (List ℕ) ReadFault
with_front front read = read >>= λ xs. Ok (front ++ xs)

regroup : (front : List ℕ) (x : ℕ) (read : Result (List ℕ) ReadFault) → with_front front (read >>= λ xs. Ok (x ∷ xs)) ≡ with_front (front ++ x ∷ []) read
regroup front x (Ok xs) = ap (λ (ys : List ℕ). Ok ys) (simp append_assoc)
regroup front x (Err f) = refl

one_more : (place : ℕ → List ℕ → Result (ℕ × List ℕ) ReadFault) (left : ℕ) (bytes after front : List ℕ) (x : ℕ) → 0 < left
    → place (left - 1) bytes ≡ Ok (x, after)
    → with_front front (plain_at place left bytes) ≡ with_front (front ++ x ∷ []) (plain_at place (left - 1) after)
unfolding plain_at
one_more place left bytes after front x lt h =
    let k : left ≡ suc (left - 1) = omega arith in
    let one : with_front front (plain_at place (suc (left - 1)) bytes) ≡ with_front (front ++ x ∷ []) (plain_at place (left - 1) after) = rw h (regroup front x (plain_at place (left - 1) after)) in
    ap (λ n. with_front front (plain_at place n bytes)) k ∙ one

one_fault : (place : ℕ → List ℕ → Result (ℕ × List ℕ) ReadFault) (left : ℕ) (bytes : List ℕ) (f : ReadFault) → 0 < left
    → place (left - 1) bytes ≡ Err f → plain_at place left bytes ≡ Err f
unfolding plain_at
one_fault place left bytes f lt h =
    let k : left ≡ suc (left - 1) = omega arith in
    let one : plain_at place (suc (left - 1)) bytes ≡ Err f = rw h refl in
    ap (λ n. plain_at place n bytes) k ∙ one

all_checked : (place : ℕ → List ℕ → Result (ℕ × List ℕ) ReadFault) (left : ℕ) (bytes : List ℕ) → left ≤ 0
    → plain_at place left bytes ≡ tail_at bytes
unfolding plain_at
all_checked place left bytes le = let e : left ≡ 0 = omega arith in ap (λ n. plain_at place n bytes) e

-- ---- how many of what is read are 1

-- those so far, and what is still read
abbrev pub plus : ℕ → Result ℕ ReadFault → Result ℕ ReadFault
plus n read = read >>= λ k. Ok (n + k)

plus_front : (n x : ℕ) (read : Result (List ℕ) ReadFault) → plus n (ones_of (read >>= λ xs. Ok (x ∷ xs))) ≡ plus (n + cond (eqb x 1) 1 0) (ones_of read)
plus_front n x (Ok xs) = ap (λ (k : ℕ). Ok k) (omega (arith, sum_by-cons (λ (i : ℕ). cond (eqb i 1) 1 0) x xs))
plus_front n x (Err f) = refl

pub one_counted : (place : ℕ → List ℕ → Result (ℕ × List ℕ) ReadFault) (left n : ℕ) (bytes after : List ℕ) (x : ℕ) → 0 < left
    → place (left - 1) bytes ≡ Ok (x, after)
    → plus n (ones_of (plain_at place left bytes)) ≡ plus (n + cond (eqb x 1) 1 0) (ones_of (plain_at place (left - 1) after))
unfolding plain_at
one_counted place left n bytes after x lt h =
    let k : left ≡ suc (left - 1) = omega arith in
    let one : plus n (ones_of (plain_at place (suc (left - 1)) bytes)) ≡ plus (n + cond (eqb x 1) 1 0) (ones_of (plain_at place (left - 1) after)) = rw h (plus_front n x (plain_at place (left - 1) after)) in
    ap (λ i. plus n (ones_of (plain_at place i bytes))) k ∙ one

pub fault_counted : (place : ℕ → List ℕ → Result (ℕ × List ℕ) ReadFault) (left n : ℕ) (bytes : List ℕ) (f : ReadFault) (total : Result ℕ ReadFault) → 0 < left
    → place (left - 1) bytes ≡ Err f → plus n (ones_of (plain_at place left bytes)) ≡ total → Err f ≡ total
fault_counted place left n bytes f total lt h so_far = sym (ap (λ (r : Result (List ℕ) ReadFault). plus n (ones_of r)) (one_fault place left bytes f lt h)) ∙ so_far

tail_sum : (n : ℕ) (read : Result (List ℕ) ReadFault) (f : ReadFault) → fault_alone read ≡ Some f → plus n (ones_of read) ≡ Err f
tail_sum n (Ok xs) f h = absurd (let clash : None ≡ Some f = h in cc)
tail_sum n (Err g) f h = let same : g ≡ f = cc in ap (λ (k : ReadFault). Err k) same

zero_cases : (n : ℕ) (w : Bool) → fault_alone {X = List ℕ} (cond w (Ok []) (Err Trailing)) ≡ None → plus n (ones_of (cond w (Ok []) (Err Trailing))) ≡ Ok n
zero_cases n true h = ap (λ (k : ℕ). Ok k) (omega arith)
zero_cases n false h = absurd (let clash : Some Trailing ≡ None = h in cc)

tail_zero : (n : ℕ) (bytes : List ℕ) → fault_alone (tail_at bytes) ≡ None → plus n (ones_of (tail_at bytes)) ≡ Ok n
unfolding tail_at
tail_zero n [] h = ap (λ (k : ℕ). Ok k) (omega arith)
tail_zero n (b ∷ bs) h = zero_cases n (is_white b) h

pub tail_counted : (place : ℕ → List ℕ → Result (ℕ × List ℕ) ReadFault) (left n : ℕ) (bytes : List ℕ) (f : ReadFault) (total : Result ℕ ReadFault) → left ≤ 0
    → fault_alone (tail_at bytes) ≡ Some f → plus n (ones_of (plain_at place left bytes)) ≡ total → Err f ≡ total
tail_counted place left n bytes f total le h so_far =
    sym (tail_sum n (tail_at bytes) f h) ∙ ap (λ (r : Result (List ℕ) ReadFault). plus n (ones_of r)) (sym (all_checked place left bytes le)) ∙ so_far

pub all_counted : (place : ℕ → List ℕ → Result (ℕ × List ℕ) ReadFault) (left n : ℕ) (bytes : List ℕ) (total : Result ℕ ReadFault) → left ≤ 0
    → fault_alone (tail_at bytes) ≡ None → plus n (ones_of (plain_at place left bytes)) ≡ total → Ok n ≡ total
all_counted place left n bytes total le h so_far =
    sym (tail_zero n bytes h) ∙ ap (λ (r : Result (List ℕ) ReadFault). plus n (ones_of r)) (sym (all_checked place left bytes le)) ∙ so_far

-- ---- one more place of a raster that is filled

pub one_filled : {P : Type 0} (level : P → ℕ) (place : ℕ → List ℕ → Result (ℕ × List ℕ) ReadFault) (left : ℕ) (bytes after : List ℕ) (out : List P) (p : P) (s : ℕ) (total : Result (List ℕ) ReadFault) → 0 < left
    → place (left - 1) bytes ≡ Ok (s, after) → level p ≡ s → with_front (map level out) (plain_at place left bytes) ≡ total
    → with_front (map level (out ++ p ∷ [])) (plain_at place (left - 1) after) ≡ total
one_filled level place left bytes after out p s total lt h is so_far =
    let levels : map level (out ++ p ∷ []) ≡ map level out ++ s ∷ [] = map-append level out (p ∷ []) ∙ ap (λ k. map level out ++ k ∷ []) is in
    ap (λ (front : List ℕ). with_front front (plain_at place (left - 1) after)) levels ∙ sym (one_more place left bytes after (map level out) s lt h) ∙ so_far

pub fault_filled : (place : ℕ → List ℕ → Result (ℕ × List ℕ) ReadFault) (left : ℕ) (bytes front : List ℕ) (f : ReadFault) (total : Result (List ℕ) ReadFault) → 0 < left
    → place (left - 1) bytes ≡ Err f → with_front front (plain_at place left bytes) ≡ total → Err f ≡ total
fault_filled place left bytes front f total lt h so_far = sym (ap (with_front front) (one_fault place left bytes f lt h)) ∙ so_far

tail_front : (front : List ℕ) (read : Result (List ℕ) ReadFault) (f : ReadFault) → fault_alone read ≡ Some f → with_front front read ≡ Err f
tail_front front (Ok xs) f h = absurd (let clash : None ≡ Some f = h in cc)
tail_front front (Err g) f h = let same : g ≡ f = cc in ap (λ (k : ReadFault). Err k) same

pub tail_filled : (place : ℕ → List ℕ → Result (ℕ × List ℕ) ReadFault) (left : ℕ) (bytes front : List ℕ) (f : ReadFault) (total : Result (List ℕ) ReadFault) → left ≤ 0
    → fault_alone (tail_at bytes) ≡ Some f → with_front front (plain_at place left bytes) ≡ total → Err f ≡ total
tail_filled place left bytes front f total le h so_far =
    sym (tail_front front (tail_at bytes) f h) ∙ ap (with_front front) (sym (all_checked place left bytes le)) ∙ so_far

whole_cases : (front : List ℕ) (w : Bool) → fault_alone {X = List ℕ} (cond w (Ok []) (Err Trailing)) ≡ None → with_front front (cond w (Ok []) (Err Trailing)) ≡ Ok front
whole_cases front true h = ap (λ (ys : List ℕ). Ok ys) (append-nil front)
whole_cases front false h = absurd (let clash : Some Trailing ≡ None = h in cc)

tail_whole : (front bytes : List ℕ) → fault_alone (tail_at bytes) ≡ None → with_front front (tail_at bytes) ≡ Ok front
unfolding tail_at
tail_whole front [] h = ap (λ (ys : List ℕ). Ok ys) (append-nil front)
tail_whole front (b ∷ bs) h = whole_cases front (is_white b) h

pub all_filled : (place : ℕ → List ℕ → Result (ℕ × List ℕ) ReadFault) (left : ℕ) (bytes front : List ℕ) (total : Result (List ℕ) ReadFault) → left ≤ 0
    → fault_alone (tail_at bytes) ≡ None → with_front front (plain_at place left bytes) ≡ total → Ok front ≡ total
all_filled place left bytes front total le h so_far =
    sym (tail_whole front bytes h) ∙ ap (with_front front) (sym (all_checked place left bytes le)) ∙ so_far
