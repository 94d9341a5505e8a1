-- Counting: sums over the numbers of a range.
use Rattle.std.proofs.Common.{◌≡◌, ◌≢◌, ℕ, zero, suc, ◌+◌, ◌-◌, ◌*◌, ◌/◌, ◌%◌, ◌<◌, ◌≤◌, Bool, true, false, ◌&&◌, cond, nat_eq, nat_le, List, ◌∷◌, count_by, refl, ap, sym, ◌∙◌, arith, inl, inr, ne_of_lt, ne_of_gt, add-zero, zero-add}
use Rattle.std.specs.List.{range_with_len}
use Rattle.std.proofs.Math.Bool.{and-false}
use Rattle.std.proofs.lemmas.Bool.{cases_lt, eq-eqb, ne_eqb, lt-ltb, le-ltb, le-leb, lt-leb}
use Rattle.std.proofs.lemmas.Nat.{div-mul-add, mod-mul-add}
use Rattle.std.proofs.lemmas.List.Sums.{sum_by-cons}
use Rattle.mw_model.proofs.mw_facts.Counts.{count_by-same}
use Rattle.mw_model.proofs.mw_facts.Numbers.{one_if-le}
use Rattle.mw_grid.specs.Counts.{bit, count_below, in_range}

abbrev pub total : (ℕ → ℕ) → ℕ → ℕ → ℕ
total f a zero = 0
total f a (suc n) = f a + total f (a + 1) n

pub total-add : (f g : ℕ → ℕ) (a n : ℕ) → total (λ t. f t + g t) a n ≡ total f a n + total g a n
total-add f g a zero = refl
total-add f g a (suc n) = omega (arith, total-add f g (a + 1) n)

pub total-same : (f g : ℕ → ℕ) (a n : ℕ) → ((t : ℕ) → a ≤ t → t < a + n → f t ≡ g t) → total f a n ≡ total g a n
total-same f g a zero same = refl
total-same f g a (suc n) same = omega (arith, same a (omega arith) (omega arith), total-same f g (a + 1) n (λ t from to. same t (omega arith) (omega arith)))

pub bit_true : (b : Bool) → 1 ≤ bit b → b ≡ true
bit_true true le = refl
bit_true false le = absurd (omega arith)

bit-same : (x : ℕ) → bit (nat_eq x x) ≡ 1
bit-same x = ap bit (eq-eqb x x refl)

pub bit-other : (t x : ℕ) → t ≢ x → bit (nat_eq t x) ≡ 0
bit-other t x ne = ap bit (ne_eqb t x ne)

pub bit-at : (t x : ℕ) → t ≡ x → bit (nat_eq t x) ≡ 1
bit-at t x e = ap (λ (k : ℕ). bit (nat_eq k x)) e ∙ bit-same x

total-none : (x a n : ℕ) → x < a → total (λ t. bit (nat_eq t x)) a n ≡ 0
total-none x a zero lt = refl
total-none x a (suc n) lt = omega (arith, bit-other a x (ne_of_gt lt), total-none x (a + 1) n (omega arith))

pub total-one : (x a n : ℕ) → a ≤ x → x < a + n → total (λ t. bit (nat_eq t x)) a n ≡ 1
total-one x a zero from to = absurd (omega arith)
total-one x a (suc n) from to =
    elim (cases_lt a x) [
      | inl less ↦ omega (arith, bit-other a x (ne_of_lt less), total-one x (a + 1) n (omega arith) (omega arith))
      | inr there ↦ omega (arith, bit-at a x (omega arith), total-none x (a + 1) n (omega arith))
    ]

pub count-bit : (p : ℕ → Bool) (x : ℕ) (xs : List ℕ) → count_by p (x ∷ xs) ≡ bit (p x) + count_by p xs
count-bit p x xs = sum_by-cons (λ t. cond (p t) 1 0) x xs

pub count-total : (p : ℕ → Bool) (a n : ℕ) → count_by p (range_with_len a n) ≡ total (λ t. bit (p t)) a n
count-total p a zero = refl
count-total p a (suc n) = omega (arith, count-bit p a (range_with_len (a + 1) n), count-total p (a + 1) n)

-- one more at one place
pub total-more : (f g : ℕ → ℕ) (x n : ℕ) → x < n → ((t : ℕ) → t < n → f t ≡ g t + bit (nat_eq t x)) → total f 0 n ≡ total g 0 n + 1
total-more f g x n lt same =
    total-same f (λ t. g t + bit (nat_eq t x)) 0 n (λ t from to. same t (omega arith))
    ∙ total-add g (λ t. bit (nat_eq t x)) 0 n
    ∙ ap (λ (k : ℕ). total g 0 n + k) (total-one x 0 n (omega arith) (omega arith))

total-most : (p : ℕ → Bool) (a n : ℕ) → total (λ t. bit (p t)) a n ≤ n
total-most p a zero = omega arith
total-most p a (suc n) = omega (arith, one_if-le (p a), total-most p (a + 1) n)

total-less : (p : ℕ → Bool) (x a n : ℕ) → a ≤ x → x < a + n → p x ≡ false → total (λ t. bit (p t)) a n < n
total-less p x a zero from to not_so = absurd (omega arith)
total-less p x a (suc n) from to not_so =
    elim (cases_lt a x) [
      | inl less ↦ omega (arith, one_if-le (p a), total-less p x (a + 1) n (omega arith) (omega arith) not_so)
      | inr there ↦ omega (arith, ap bit (ap p (let e : a ≡ x = omega arith in e) ∙ not_so), total-most p (a + 1) n)
    ]

pub count-less : (p : ℕ → Bool) (x n : ℕ) → x < n → p x ≡ false → count_by p (range_with_len 0 n) < n
count-less p x n lt not_so = omega (arith, count-total p 0 n, total-less p x 0 n (omega arith) (omega arith) not_so)

-- the count of a test that holds at one place more
pub count-more : (p q : ℕ → Bool) (x n : ℕ) → x < n → ((t : ℕ) → t < n → bit (p t) ≡ bit (q t) + bit (nat_eq t x)) → count_by p (range_with_len 0 n) ≡ count_by q (range_with_len 0 n) + 1
count-more p q x n lt each = count-total p 0 n ∙ total-more (λ t. bit (p t)) (λ t. bit (q t)) x n lt each ∙ ap (λ (k : ℕ). k + 1) (sym (count-total q 0 n))

-- one number more
pub total-next : (f : ℕ → ℕ) (a n : ℕ) → total f a (suc n) ≡ total f a n + f (a + n)
total-next f a zero = omega (arith, ap f (add-zero a))
total-next f a (suc n) = omega (arith, total-next f (a + 1) n, ap f (along a n))
  where
    along : (a n : ℕ) → a + suc n ≡ a + 1 + n
    along a n = omega arith

pub count-next : (p : ℕ → Bool) (n : ℕ) → count_below p (suc n) ≡ count_below p n + bit (p n)
count-next p n = count-total p 0 (suc n) ∙ total-next (λ t. bit (p t)) 0 n ∙ ap (λ (k : ℕ). k + bit (p (0 + n))) (sym (count-total p 0 n)) ∙ ap (λ (k : ℕ). count_below p n + bit (p k)) (zero-add n)

pub count-add : (p : ℕ → Bool) (a b : ℕ) → count_below p (a + b) ≡ count_below p a + count_below (λ t. p (a + t)) b
count-add p a zero = ap (count_below p) (add-zero a) ∙ sym (add-zero (count_below p a))
count-add p a (suc b) =
    ap (count_below p) (along a b)
    ∙ count-next p (a + b)
    ∙ (let e = count-add p a b in let f = count-next (λ t. p (a + t)) b in omega arith)
  where
    along : (a b : ℕ) → a + suc b ≡ suc (a + b)
    along a b = omega arith

pub count-if : (b : Bool) (q : ℕ → Bool) (n : ℕ) → count_below (λ t. b && q t) n ≡ bit b * count_below q n
count-if true q n = one (count_below q n)
  where
    one : (k : ℕ) → k ≡ 1 * k
    one k = omega arith
count-if false q n = none n
  where
    none : (n : ℕ) → count_below (λ t. false) n ≡ 0 * count_below q n
    none zero = zeros (count_below q zero)
      where
        zeros : (k : ℕ) → 0 ≡ 0 * k
        zeros k = omega arith
    none (suc n) = omega (arith, count-next (λ t. false) n, none n)

-- numbers by their quotient and their remainder
pub count-product : (p q : ℕ → Bool) (m n : ℕ) → count_below (λ t. p (t / n) && q (t % n)) (m * n) ≡ count_below p m * count_below q n
count-product p q zero n = ap (count_below (λ t. p (t / n) && q (t % n))) (none n) ∙ sym (none (count_below q n))
  where
    none : (n : ℕ) → zero * n ≡ 0
    none n = omega arith
count-product p q (suc m) n =
    ap (count_below (λ t. p (t / n) && q (t % n))) (row m n)
    ∙ count-add (λ t. p (t / n) && q (t % n)) (m * n) n
    ∙ ap (λ (k : ℕ). k + count_below (λ t. p ((m * n + t) / n) && q ((m * n + t) % n)) n) (count-product p q m n)
    ∙ ap (λ (k : ℕ). count_below p m * count_below q n + k) (last ∙ count-if (p m) q n)
    ∙ sym (ap (λ (k : ℕ). k * count_below q n) (count-next p m) ∙ share (count_below p m) (bit (p m)) (count_below q n))
  where
    row : (m n : ℕ) → suc m * n ≡ m * n + n
    row m n = omega arith

    share : (a b c : ℕ) → (a + b) * c ≡ a * c + b * c
    share a b c = omega arith

    last : count_below (λ t. p ((m * n + t) / n) && q ((m * n + t) % n)) n ≡ count_below (λ t. p m && q t) n
    last = count_by-same (λ t. p ((m * n + t) / n) && q ((m * n + t) % n)) (λ t. p m && q t) n (λ t lt. rw (div-mul-add m n t lt, mod-mul-add m n t lt) refl)

-- ranges
pub in-yes : (a b x : ℕ) → a ≤ x → x < b → in_range a b x ≡ true
in-yes a b x from to = rw (le-leb a x from, lt-ltb x b to) refl

pub in-low : (a b x : ℕ) → x < a → in_range a b x ≡ false
in-low a b x lt = rw (lt-leb a x lt) refl

pub in-high : (a b x : ℕ) → b ≤ x → in_range a b x ≡ false
in-high a b x le = rw (le-ltb x b le) (and-false (nat_le a x))

count-in_range : (a b n : ℕ) → a ≤ b → n ≤ b → count_below (in_range a b) n ≡ n - a
count-in_range a b zero le fits = omega arith
count-in_range a b (suc n) le fits =
    let before = count-in_range a b n le (omega arith) in
    elim (cases_lt n a) [
      | inl low ↦ omega (arith, count-next (in_range a b) n, ap bit (in-low a b n low))
      | inr from ↦ omega (arith, count-next (in_range a b) n, ap bit (in-yes a b n from (omega arith)))
    ]

pub count-range : (a b n : ℕ) → a ≤ b → b ≤ n → count_below (in_range a b) n ≡ b - a
count-range a b zero le fits = omega arith
count-range a b (suc n) le fits =
    elim (cases_lt n b) [
      | inl within ↦ (let e = count-in_range a b (suc n) le (omega arith) in omega arith)
      | inr past ↦ omega (arith, count-next (in_range a b) n, ap bit (in-high a b n past), count-range a b n le past)
    ]

pub count-none : (p : ℕ → Bool) (n : ℕ) → ((t : ℕ) → t < n → p t ≡ false) → count_below p n ≡ 0
count-none p zero none = refl
count-none p (suc n) none = omega (arith, count-next p n, ap bit (none n (omega arith)), count-none p n (λ t lt. none t (omega arith)))

pub count-all : (p : ℕ → Bool) (n : ℕ) → ((t : ℕ) → t < n → p t ≡ true) → count_below p n ≡ n
count-all p zero all = refl
count-all p (suc n) all = omega (arith, count-next p n, ap bit (all n (omega arith)), count-all p n (λ t lt. all t (omega arith)))
