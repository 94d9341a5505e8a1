-- How few runs a list of offsets can be cut into: one for each offset that does not continue the one before it.
use Rattle.std.proofs.Common.{◌≡◌, ℕ, zero, suc, ◌+◌, ◌-◌, ◌<◌, ◌≤◌, pos, ◌+ℤ◌, Bool, true, false, IsTrue, ◌↔◌, cond, List, [], ◌∷◌, ◌++◌, length, take, get_or, map, flat_map, reverse, refl, ap, sym, subst, inl, inr, ◌∙◌, arith, Result, Ok, Err, length-append, append_assoc}
use Rattle.std.specs.Ordering.{int_eq}
use Rattle.std.specs.Result.{IfOk}
use Rattle.std.specs.List.{range_with_len, AllByRecursion}
use Rattle.std.proofs.lemmas.Int.{ints}
use Rattle.std.proofs.lemmas.Bool.{and_parts, and_from, cases_Bool, cases_lt}
use Rattle.std.proofs.lemmas.Bool.Decides.{Decides-int_eq}
use Rattle.std.proofs.lemmas.List.{take_more, reverse-append, reverse-reverse, length-reverse, length-map}
use Rattle.std.proofs.lemmas.List.FromFn.{length-range_with_len}
use Rattle.mw_model.specs.declared.offsets.Offset.{Offset}
use Rattle.mw_element_runs.specs.declared.runs.Run.{Run}
use Rattle.mw_element_runs.specs.Runs.{run_offsets, start_offset, Continues, IsRun, AreLongest, AreFewest, follows, follows_back, pairs_from, pairs}

pub follows_true : (a b : Offset) → Continues (record { dx = a.dx; dy = a.dy; count = 1 }) b → follows a b ≡ true
follows_true a b on = and_from (int_eq b.dx (a.dx +ℤ pos 1)) (int_eq b.dy a.dy) ((Decides-int_eq b.dx (a.dx +ℤ pos 1)).1 on.dx) ((Decides-int_eq b.dy a.dy).1 on.dy)

pub follows_on : (a b : Offset) → follows a b ≡ true → Continues (record { dx = a.dx; dy = a.dy; count = 1 }) b
follows_on a b on =
    let parts = and_parts (int_eq b.dx (a.dx +ℤ pos 1)) (int_eq b.dy a.dy) on in
    record { dx = (Decides-int_eq b.dx (a.dx +ℤ pos 1)).0 parts.0; dy = (Decides-int_eq b.dy a.dy).0 parts.1 }

-- a list with one offset more
pairs_from-push : (p : Offset → Offset → Bool) (x : Offset) (ys : List Offset) (b a : Offset) → pairs_from p x (ys ++ b ∷ a ∷ []) ≡ pairs_from p x (ys ++ b ∷ []) + cond (p b a) 1 0
pairs_from-push p x [] b a = omega arith
pairs_from-push p x (y ∷ ys) b a = omega (arith, pairs_from-push p y ys b a)

pairs-push : (p : Offset → Offset → Bool) (xs : List Offset) (b a : Offset) → pairs p (xs ++ b ∷ a ∷ []) ≡ pairs p (xs ++ b ∷ []) + cond (p b a) 1 0
pairs-push p [] b a = omega arith
pairs-push p (x ∷ xs) b a = pairs_from-push p x xs b a

-- the first so many offsets, and one more
pub pairs_more : (p : Offset → Offset → Bool) (xs : List Offset) (i : ℕ) (d : Offset) → i + 1 < length xs → pairs p (take (i + 1 + 1) xs) ≡ pairs p (take (i + 1) xs) + cond (p (get_or xs i d) (get_or xs (i + 1) d)) 1 0
pairs_more p xs i d lt =
    let a = get_or xs i d in
    let b = get_or xs (i + 1) d in
    let first : take (i + 1) xs ≡ take i xs ++ a ∷ [] = take_more xs i d (omega arith) in
    let second : take (i + 1 + 1) xs ≡ take i xs ++ a ∷ b ∷ [] = take_more xs (i + 1) d lt ∙ ap (λ (t : List Offset). t ++ b ∷ []) first ∙ append_assoc (take i xs) (a ∷ []) (b ∷ []) in
    ap (pairs p) second ∙ pairs-push p (take i xs) a b ∙ ap (λ (t : List Offset). pairs p t + cond (p a b) 1 0) (sym first)

pub pairs_onward : (p : Offset → Offset → Bool) (xs : List Offset) (k i : ℕ) (d : Offset) → k + 1 ≡ i → i < length xs → pairs p (take (i + 1) xs) ≡ pairs p (take i xs) + cond (p (get_or xs k d) (get_or xs i d)) 1 0
pairs_onward p xs k i d next lt = subst (λ (t : ℕ). pairs p (take (t + 1) xs) ≡ pairs p (take t xs) + cond (p (get_or xs k d) (get_or xs t d)) 1 0) next (pairs_more p xs k d (omega arith))

-- an answer that says whether the second offset continues the first
pub follows_is : (said : Bool) (a b : Offset) → IsTrue said ↔ Continues (record { dx = a.dx; dy = a.dy; count = 1 }) b → follows a b ≡ said
follows_is true a b known = follows_true a b (known.0 refl)
follows_is false a b known =
    elim (cases_Bool (follows a b)) [
      | inl on ↦ on ∙ sym (known.1 (follows_on a b on))
      | inr not ↦ not
    ]

-- in the opposite order neighbours change places
pairs-reverse : (p q : Offset → Offset → Bool) → ((a b : Offset) → p a b ≡ q b a) → (xs : List Offset) → pairs p (reverse xs) ≡ pairs q xs
pairs-reverse p q turned [] = refl
pairs-reverse p q turned (a ∷ []) = refl
pairs-reverse p q turned (a ∷ b ∷ os) =
    let last : reverse (b ∷ os) ≡ reverse os ++ b ∷ [] = reverse-append (b ∷ []) os in
    let both : reverse (a ∷ b ∷ os) ≡ reverse os ++ b ∷ a ∷ [] = reverse-append (a ∷ []) (b ∷ os) ∙ ap (λ (t : List Offset). t ++ a ∷ []) last ∙ append_assoc (reverse os) (b ∷ []) (a ∷ []) in
    let here : ◌≡◌ {A = ℕ} (cond (p b a) 1 0) (cond (q a b) 1 0) = ap (λ (t : Bool). cond t 1 0) (turned b a) in
    let more = ap (pairs p) both ∙ pairs-push p (reverse os) b a ∙ ap (λ (t : List Offset). pairs p t + cond (p b a) 1 0) (sym last) in
    omega (arith, more, pairs-reverse p q turned (b ∷ os), here)

-- how many more neighbours pass, by such an answer
pub one_more : (b : Bool) → b ≡ true → ◌≡◌ {A = ℕ} (cond b 1 0) 1
one_more b yes-is = rw yes-is refl

pub none_more : (b : Bool) → b ≡ false → ◌≡◌ {A = ℕ} (cond b 1 0) 0
none_more b no-is = rw no-is refl

-- of two neighbours at most one stands right behind the other
pub either_follows : (a b : Offset) → cond (follows a b) 1 0 + cond (follows_back a b) 1 0 ≤ 1
either_follows a b =
    elim (cases_Bool (follows a b)) [
      | inl on ↦
          elim (cases_Bool (follows_back a b)) [
            | inl back ↦
                let first = follows_on a b on in
                let second = follows_on b a back in
                absurd (omega (arith, ints, first.dx, second.dx))
            | inr not ↦ rw (on, not) (omega arith)
          ]
      | inr not ↦ elim (cases_Bool (follows_back a b)) [ inl back ↦ rw (not, back) (omega arith) | inr none ↦ rw (not, none) (omega arith) ]
    ]

both_from : (a : Offset) (os : List Offset) → pairs_from follows a os + pairs_from follows_back a os ≤ length os
both_from a [] = omega arith
both_from a (b ∷ os) = omega (arith, either_follows a b, both_from b os)

both_ways : (xs : List Offset) → pairs follows xs + pairs follows_back xs ≤ length xs
both_ways [] = omega arith
both_ways (a ∷ os) = omega (arith, both_from a os)

-- a run's offsets, of which each continues the one before, and what stands after them
abbrev place : Run → ℕ → Offset
place r i = record { dx = r.dx +ℤ pos i; dy = r.dy }

run_pairs : (r : Run) (i m : ℕ) (ys : List Offset) → pairs_from follows (place r i) (map (place r) (range_with_len (i + 1) m) ++ ys) ≡ m + pairs_from follows (place r (i + m)) ys
run_pairs r i zero ys =
    let same : pairs_from follows (place r i) ys ≡ pairs_from follows (place r (i + 0)) ys = ap (λ (t : ℕ). pairs_from follows (place r t) ys) (none i) in
    omega (arith, same)
  where
    none : (i : ℕ) → i ≡ i + 0
    none i = omega arith
run_pairs r i (suc m) ys =
    let on : follows (place r i) (place r (i + 1)) ≡ true = follows_true (place r i) (place r (i + 1)) (record { dx = omega (arith, ints); dy = refl }) in
    let here : ◌≡◌ {A = ℕ} (cond (follows (place r i) (place r (i + 1))) 1 0) 1 = rw on refl in
    let further = ap (λ (t : ℕ). pairs_from follows (place r t) ys) (same i m) in
    omega (arith, here, run_pairs r (i + 1) m ys, further)
  where
    same : (i m : ℕ) → i + 1 + m ≡ i + suc m
    same i m = omega arith

-- the last offset of a run
abbrev last : Run → Offset
last r = place r (r.count - 1)

run_and_more : (r : Run) (n : ℕ) (ys : List Offset) → 0 < n → pairs follows (map (place r) (range_with_len 0 n) ++ ys) + 1 ≡ n + pairs_from follows (place r (n - 1)) ys
run_and_more r zero ys some = absurd (omega arith)
run_and_more r (suc m) ys some =
    let further = ap (λ (t : ℕ). pairs_from follows (place r t) ys) (same m) in
    omega (arith, run_pairs r 0 m ys, further)
  where
    same : (m : ℕ) → 0 + m ≡ suc m - 1
    same m = omega arith

after_run : (r : Run) (n : ℕ) (a : Offset) (ys : List Offset) → 0 < n → pairs_from follows a (map (place r) (range_with_len 0 n) ++ ys) ≡ cond (follows a (place r 0)) 1 0 + pairs follows (map (place r) (range_with_len 0 n) ++ ys)
after_run r zero a ys some = absurd (omega arith)
after_run r (suc m) a ys some = refl

more_from : (a : Offset) (ys : List Offset) → pairs follows ys ≤ pairs_from follows a ys
more_from a [] = omega arith
more_from a (y ∷ ys) = omega arith

length-run : (r : Run) → length (run_offsets r) ≡ r.count
length-run r = length-map (range_with_len 0 r.count) (place r) ∙ length-range_with_len 0 r.count

-- no list of runs is shorter than this
least_runs : (runs : List Run) → AllByRecursion IsRun runs → length (flat_map run_offsets runs) ≤ length runs + pairs follows (flat_map run_offsets runs)
least_runs [] all = omega arith
least_runs (r ∷ rs) all =
    let ys = flat_map run_offsets rs in
    omega (arith, length-append (run_offsets r) ys, length-run r, run_and_more r r.count ys all.0.some, more_from (last r) ys, least_runs rs all.1)

-- runs that are as long as they can be are no more than that
longest_runs : (runs : List Run) → AllByRecursion IsRun runs → AreLongest runs → length runs + pairs follows (flat_map run_offsets runs) ≤ length (flat_map run_offsets runs)
longest_runs [] all longest = omega arith
longest_runs (r ∷ []) all longest =
    omega (arith, length-append (run_offsets r) [], length-run r, run_and_more r r.count [] all.0.some)
longest_runs (r ∷ s ∷ ss) all longest =
    let zs = flat_map run_offsets ss in
    let ys = flat_map run_offsets (s ∷ ss) in
    let none : ◌≡◌ {A = ℕ} (cond (follows (last r) (place s 0)) 1 0) 0 =
    elim (cases_Bool (follows (last r) (place s 0))) [
      | inl on ↦
          let next = follows_on (last r) (place s 0) on in
          absurd (longest 0 r (omega arith) (record { dx = omega (arith, ints, next.dx, all.0.some); dy = next.dy }))
      | inr not ↦ rw not refl
    ] in
    let tail : AreLongest (s ∷ ss) = λ k d less on. longest (suc k) d (omega (arith, less)) (subst (λ (t : Run). Continues (get_or (s ∷ ss) k d) (start_offset t)) (further k d) on) in
    let shorter = longest_runs (s ∷ ss) all.1 tail in
    omega (arith, length-append (run_offsets r) ys, length-run r, run_and_more r r.count ys all.0.some, after_run s s.count (last r) zs all.1.0.some, none, shorter)
  where
    up : (k : ℕ) → suc (k + 1) ≡ suc k + 1
    up k = omega arith

    further : (k : ℕ) (d : Run) → get_or (s ∷ ss) (k + 1) d ≡ get_or (r ∷ s ∷ ss) (suc k + 1) d
    further k d = ap (λ (t : ℕ). get_or (r ∷ s ∷ ss) t d) (up k)

-- where no more neighbours stand the other way round, the longest runs are the fewest
pub fewest_onward : (offsets : List Offset) (runs : List Run) → flat_map run_offsets runs ≡ offsets → AllByRecursion IsRun runs → AreLongest runs
    → pairs follows_back offsets ≤ pairs follows offsets → AreFewest offsets runs
fewest_onward offsets runs same all longest fewer = λ others each either.
    let here = ap length same in
    let onward = ap (pairs follows) same in
    let made = longest_runs runs all longest in
    let least = least_runs others each in
    elim either [
      | inl e ↦ omega (arith, here, onward, made, least, ap length e, ap (pairs follows) e)
      | inr e ↦ omega (arith, here, onward, made, least, ap length e, ap (pairs follows) e, length-reverse offsets, pairs-reverse follows follows_back (λ a b. refl) offsets, fewer)
    ]

-- runs of two offsets or more, taken together, are the fewest
pub few_enough : (offsets : List Offset) (runs : List Run) → flat_map run_offsets runs ≡ offsets → AllByRecursion IsRun runs → length runs + length runs ≤ length offsets → pairs follows_back offsets ≤ pairs follows offsets
few_enough offsets runs same all few = omega (arith, few, ap length same, ap (pairs follows) same, least_runs runs all, both_ways offsets)

pub fewest_either_way : (offsets : List Offset) (runs : List Run) → AreFewest (reverse offsets) runs → AreFewest offsets runs
fewest_either_way offsets runs fewest = λ others each either.
    fewest others each (elim either [ inl e ↦ inr (e ∙ sym (reverse-reverse offsets)) | inr e ↦ inl e ])

-- in the opposite order, where more neighbours stand that way round
pub fewest_back : (offsets : List Offset) (runs : List Run) → flat_map run_offsets runs ≡ reverse offsets → AllByRecursion IsRun runs → AreLongest runs
    → pairs follows offsets ≤ pairs follows_back offsets → AreFewest offsets runs
fewest_back offsets runs same all longest fewer =
    fewest_either_way offsets runs
    (fewest_onward (reverse offsets) runs same all longest
    (omega (arith, fewer, pairs-reverse follows follows_back (λ a b. refl) offsets, pairs-reverse follows_back follows (λ a b. refl) offsets)))

-- what follows from three facts of an answer
pub ok_all : {X E : Type 0} (r : Result X E) (P Q R S : X → Type 0) → ((x : X) → P x → Q x → R x → S x) → IfOk r P → IfOk r Q → IfOk r R → IfOk r S
ok_all (Ok x) P Q R S follows p q r = follows x p q r
ok_all (Err e) P Q R S follows p q r = tt

-- what an answer no says of two numbers
pub not_fewer : (said : Bool) (m n : ℕ) → (m < n → IsTrue said) → said ≡ false → n ≤ m
not_fewer said m n known no-is =
    elim (cases_lt m n) [
      | inl less ↦ let clash : true ≡ false = sym (known less) ∙ no-is in absurd cc
      | inr le ↦ le
    ]
