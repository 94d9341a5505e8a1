-- Lists that have each number where something is true once.
use Rattle.std.proofs.Common.{◌≡◌, ◌≢◌, ℕ, ◌+◌, ◌-◌, ◌<◌, ◌≤◌, Bool, true, false, nat_eq, List, [], ◌∷◌, ◌++◌, length, refl, ap, sym, ◌∙◌, arith, inl, inr, set, get_or}
use Rattle.std.specs.List.{AllByRecursion, swap_remove}
use Rattle.std.proofs.lemmas.Bool.{cases_eq, cases_lt}
use Rattle.std.proofs.lemmas.List.{get_or_default}
use Rattle.std.proofs.lemmas.List.Sums.{sum_by-swap_remove}
use Rattle.mw_model.proofs.mw_facts.Alls.{all-push, all-take, all-weaker, all-get_or}
use Rattle.mw_grid.specs.Counts.{bit, count_below}
use Rattle.mw_ready_queue.specs.Queues.{count_of, Listed}
use Rattle.mw_grid.proofs.Counts.{bit_true, count-bit, bit-at, bit-other}
use Rattle.mw_ready_queue.proofs.Counts.{length-listed, count-push, all-set, count-has}

pub length-of_listed : (n : ℕ) (p : ℕ → Bool) (xs : List ℕ) → Listed n p xs → length xs ≡ count_below p n
length-of_listed n p xs listed = length-listed n xs p listed.within listed.each

pub listed-same : (n : ℕ) (p q : ℕ → Bool) (xs : List ℕ) → ((t : ℕ) → t < n → q t ≡ p t) → Listed n p xs → Listed n q xs
listed-same n p q xs same listed = record { within = listed.within; each = λ t lt. listed.each t lt ∙ ap bit (sym (same t lt)) }

-- what stands in the list
pub listed-at : (n : ℕ) (p : ℕ → Bool) (xs : List ℕ) (i t : ℕ) → Listed n p xs → i < length xs → t ≡ get_or xs i 0 → (t < n) × (p t ≡ true)
listed-at n p xs i t listed lt is =
    let within = all-get_or (λ y. y < n) xs i 0 lt listed.within in
    let true_there = bit_true (p (get_or xs i 0)) (let h = count-has xs i lt in let e = listed.each (get_or xs i 0) within in omega arith) in
    (omega arith, ap p is ∙ true_there)

-- a number more
pub listed-push : (n : ℕ) (p q : ℕ → Bool) (xs : List ℕ) (t : ℕ) → Listed n p xs → t < n → p t ≡ false → q t ≡ true → ((u : ℕ) → u < n → u ≢ t → q u ≡ p u) → Listed n q (xs ++ t ∷ [])
listed-push n p q xs t listed lt was now other = record {
  within = all-push (λ y. y < n) xs t listed.within lt;
  each = λ u u-lt. elim (cases_eq u t) [
    | inl here ↦ count-push (λ x. nat_eq u x) xs t
        ∙ (let before : bit (p u) ≡ 0 = ap bit (ap p here ∙ was) in
        let after : bit (q u) ≡ 1 = ap bit (ap q here ∙ now) in
        omega (arith, listed.each u u-lt, bit-at u t here))
    | inr ne ↦ count-push (λ x. nat_eq u x) xs t
        ∙ (let same : bit (q u) ≡ bit (p u) = ap bit (other u u-lt ne) in
        omega (arith, listed.each u u-lt, bit-other u t ne))
  ];
}

-- a number less
pub listed-swap_remove : (n : ℕ) (p q : ℕ → Bool) (xs : List ℕ) (i t : ℕ) → Listed n p xs → i < length xs → t ≡ get_or xs i t → q t ≡ false → ((u : ℕ) → u < n → u ≢ t → q u ≡ p u) → Listed n q (swap_remove xs i t)
listed-swap_remove n p q xs i t listed lt t-is now other =
    let t-zero : t ≡ get_or xs i 0 = t-is ∙ get_or_default xs i t 0 lt in
    let there = listed-at n p xs i t listed lt t-zero in
    let last : get_or xs (length xs - 1) t < n = omega (arith, get_or_default xs (length xs - 1) t 0 (omega arith), all-get_or (λ y. y < n) xs (length xs - 1) 0 (omega arith) listed.within) in
    record {
      within = all-take (λ y. y < n) (length xs - 1) (set xs i (get_or xs (length xs - 1) t)) (all-set n xs i (get_or xs (length xs - 1) t) listed.within last);
      each = λ u u-lt.
          let less : count_of u (swap_remove xs i t) + bit (nat_eq u (get_or xs i t)) ≡ count_of u xs = sum_by-swap_remove (λ x. bit (nat_eq u x)) xs i t lt in
          let that : bit (nat_eq u (get_or xs i t)) ≡ bit (nat_eq u t) = ap (λ (k : ℕ). bit (nat_eq u k)) (sym t-is) in
          elim (cases_eq u t) [
            | inl here ↦
                let before : bit (p u) ≡ 1 = ap bit (ap p here ∙ there.1) in
                let after : bit (q u) ≡ 0 = ap bit (ap q here ∙ now) in
                omega (arith, listed.each u u-lt, bit-at u t here)
            | inr ne ↦
                let same : bit (q u) ≡ bit (p u) = ap bit (other u u-lt ne) in
                omega (arith, listed.each u u-lt, bit-other u t ne)
          ];
    }

-- numbers below a bound that grows
none_above : (n t : ℕ) (xs : List ℕ) → AllByRecursion (λ x. x < n) xs → n ≤ t → count_of t xs ≡ 0
none_above n t [] all le = refl
none_above n t (x ∷ xs) all le = omega (arith, count-bit (λ y. nat_eq t y) x xs, bit-other t x (λ e. absurd (let lt = all.0 in omega arith)), none_above n t xs all.1 le)

pub listed-skip : (n : ℕ) (p : ℕ → Bool) (xs : List ℕ) → Listed n p xs → p n ≡ false → Listed (n + 1) p xs
listed-skip n p xs listed not_so = record {
  within = all-weaker (λ x. x < n) (λ x. x < n + 1) xs (λ x lt. omega arith) listed.within;
  each = λ t lt. elim (cases_lt t n) [
    | inl less ↦ listed.each t less
    | inr last ↦
        let e : t ≡ n = omega arith in
        none_above n t xs listed.within last ∙ sym (ap bit (ap p e ∙ not_so))
  ];
}

pub listed-next : (n : ℕ) (p : ℕ → Bool) (xs : List ℕ) → Listed n p xs → p n ≡ true → Listed (n + 1) p (xs ++ n ∷ [])
listed-next n p xs listed so = record {
  within = all-push (λ y. y < n + 1) xs n (all-weaker (λ x. x < n) (λ x. x < n + 1) xs (λ x lt. omega arith) listed.within) (omega arith);
  each = λ t lt. count-push (λ x. nat_eq t x) xs n ∙ elim (cases_lt t n) [
    | inl less ↦ (let ne : bit (nat_eq t n) ≡ 0 = bit-other t n (λ e. absurd (omega arith)) in omega (arith, listed.each t less))
    | inr last ↦
        let e : t ≡ n = omega arith in
        let one : bit (p t) ≡ 1 = ap bit (ap p e ∙ so) in
        omega (arith, none_above n t xs listed.within last, bit-at t n e)
  ];
}
