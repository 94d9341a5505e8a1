-- A sample is found by counting those below it.
use Rattle.std.proofs.Common.{◌≡◌, ℕ, ◌+◌, ◌-◌, ◌<◌, ◌≤◌, List, [], ◌∷◌, length, get_or, min, max, refl, ap, sym, arith, ◌∙◌, inl, inr, cond, Bool}
use Rattle.std.specs.Prelude.{nat_lt, nat_le, count_by}
use Rattle.std.proofs.lemmas.Bool.{cases_lt, cases_order, lt-ltb, le-ltb, le-leb, lt-leb}
use Rattle.std.proofs.lemmas.List.Sums.{sum_by-cons}
use Rattle.mw_model.specs.Flat.{in_rising_order}
use Rattle.mw_model.proofs.RisingOrder.{few_below, enough_up_to}

abbrev pub count_under : ℕ → List ℕ → ℕ
count_under limit ns = count_by (λ s. nat_lt s limit) ns

-- fewer than n numbers are below s, and n or more are not above it
abbrev pub IsNth : List ℕ → ℕ → ℕ → Type 0
IsNth found n s = (count_under s found < n) × (n ≤ count_under (s + 1) found)

one_if_lt : (s a b : ℕ) → a ≤ b → cond (nat_lt s a) 1 0 ≤ cond (nat_lt s b) 1 0
one_if_lt s a b le =
    elim (cases_lt s a) [
      | inl low ↦ rw (lt-ltb s a low, lt-ltb s b (omega arith)) (omega arith)
      | inr high ↦ rw (le-ltb s a high) (omega arith)
    ]

count_rises : (a b : ℕ) (ns : List ℕ) → a ≤ b → count_under a ns ≤ count_under b ns
count_rises a b [] le = omega arith
count_rises a b (n ∷ ns) le =
    omega (arith, sum_by-cons (λ s. cond (nat_lt s a) 1 0) n ns, sum_by-cons (λ s. cond (nat_lt s b) 1 0) n ns, one_if_lt n a b le, count_rises a b ns le)

le_or_lt : (s r : ℕ) → nat_le s r ≡ nat_lt s (r + 1)
le_or_lt s r =
    elim (cases_lt r s) [
      | inl high ↦ lt-leb s r high ∙ sym (le-ltb s (r + 1) (omega arith))
      | inr low ↦ le-leb s r low ∙ sym (lt-ltb s (r + 1) (omega arith))
    ]

count_up_to : (r : ℕ) (ns : List ℕ) → count_by (λ s. nat_le s r) ns ≡ count_under (r + 1) ns
count_up_to r [] = refl
count_up_to r (n ∷ ns) =
    let here : cond (nat_le n r) 1 0 ≡ cond (nat_lt n (r + 1)) 1 0 = ap (λ (t : Bool). one t) (le_or_lt n r) in
    omega (arith, sum_by-cons (λ s. cond (nat_le s r) 1 0) n ns, sum_by-cons (λ s. cond (nat_lt s (r + 1)) 1 0) n ns, here, count_up_to r ns)
  where
    one : Bool → ℕ
    one t = cond t 1 0

IsNth-unique : (found : List ℕ) (n r s : ℕ) → IsNth found n r → IsNth found n s → r ≡ s
IsNth-unique found n r s (low, high) (low', high') =
    elim (cases_order r s) [
      | inl same ↦ same
      | inr (inl less) ↦ absurd (let rise = count_rises (r + 1) s found (omega arith) in omega arith)
      | inr (inr more) ↦ absurd (let rise = count_rises (s + 1) r found (omega arith) in omega arith)
    ]

none_found : (limit : ℕ) (found : List ℕ) → length found ≡ 0 → count_under limit found ≡ 0
none_found limit [] e = refl
none_found limit (n ∷ ns) e = absurd (omega arith)

-- number min(k, m) of m numbers in rising order
abbrev pub nth_of : List ℕ → ℕ → ℕ
nth_of found k = get_or (in_rising_order found) (min k (length found) - 1) 0

pub nth_is : (found : List ℕ) (k n : ℕ) → n ≡ max 1 (min k (length found)) → 0 < length found → IsNth found n (nth_of found k)
nth_is found k n is some =
    let place = min k (length found) - 1 in
    let within : place < length found = omega arith in
    (omega (arith, few_below found place within), omega (arith, enough_up_to found place within, count_up_to (nth_of found k) found))

pub nth_from : (found : List ℕ) (k n s : ℕ) → n ≡ max 1 (min k (length found)) → IsNth found n s → s ≡ nth_of found k
nth_from found k n s is nth =
    elim (cases_lt 0 (length found)) [
      | inl some ↦ IsNth-unique found n s (nth_of found k) nth (nth_is found k n is some)
      | inr none ↦ absurd (let zero_is = none_found (s + 1) found (omega arith) in omega arith)
    ]
