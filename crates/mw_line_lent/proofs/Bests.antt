-- Extrema, by what they are to values.
use Rattle.std.proofs.Common.{◌≡◌, ◌⊎◌, ℕ, zero, suc, ◌+◌, ◌-◌, ◌<◌, ◌≤◌, inl, inr, refl, ap, sym, subst, arith, ◌∙◌}
use Rattle.std.proofs.lemmas.Bool.{cases_lt}
use Rattle.mw_line.specs.Extrema.{over}
use Rattle.mw_line.proofs.Folds.{IsExtremum}
use Rattle.mw_line.proofs.Over.{over_same, over_shift, over_swapped}
use Rattle.mw_line_lent.specs.Bests.{IsBest}

-- what is merged lies below both
pub below-left : {A : Type 0} (f : A → A → A) → IsExtremum f → (x y : A) → f (f x y) x ≡ f x y
below-left f laws x y = ap (λ (t : _). f t x) (laws.commutes x y) ∙ laws.associates y x x ∙ ap (f y) (laws.is_idempotent x) ∙ laws.commutes y x

pub below-right : {A : Type 0} (f : A → A → A) → IsExtremum f → (x y : A) → f (f x y) y ≡ f x y
below-right f laws x y = laws.associates x y y ∙ ap (f x) (laws.is_idempotent y)

pub below_both : {A : Type 0} (f : A → A → A) → IsExtremum f → (z x y : A) → f z x ≡ z → f z y ≡ z → f z (f x y) ≡ z
below_both f laws z x y p q = sym (laws.associates z x y) ∙ ap (λ (t : _). f t y) p ∙ q

pub below-trans : {A : Type 0} (f : A → A → A) → IsExtremum f → (x y z : A) → f x y ≡ x → f y z ≡ y → f x z ≡ x
below-trans f laws x y z p q = ap (λ (t : _). f t z) (sym p) ∙ laws.associates x y z ∙ ap (f x) q ∙ p

below-antisym : {A : Type 0} (f : A → A → A) → IsExtremum f → (x y : A) → f x y ≡ x → f y x ≡ y → x ≡ y
below-antisym f laws x y p q = sym p ∙ laws.commutes x y ∙ q

pub best_unique : {A : Type 0} (f : A → A → A) → IsExtremum f → (v : ℕ → A) (a b : ℕ) (r s : A) → IsBest f v a b r → IsBest f v a b s → r ≡ s
best_unique f laws v a b r s one other = below-antisym f laws r s (other.most r one.below) (one.most s other.below)

pub best_one : {A : Type 0} (f : A → A → A) → IsExtremum f → (v : ℕ → A) (a b : ℕ) (r : A) → b ≡ a + 1 → r ≡ v a → IsBest f v a b r
best_one f laws v a b r b-is r-is = record {
  below = λ k from to.
      let here : k ≡ a = omega arith in
      ap (λ (t : ℕ). f r (v t)) here ∙ ap (f r) (sym r-is) ∙ laws.is_idempotent r;
  most = λ z all. ap (f z) r-is ∙ all a (omega arith) (omega arith);
}

-- two runs that meet or overlap
pub best_joined : {A : Type 0} (f : A → A → A) → IsExtremum f → (v : ℕ → A) (a b c d : ℕ) (r s : A) → IsBest f v a b r → IsBest f v c d s → a ≤ c → c ≤ b → b ≤ d → IsBest f v a d (f r s)
best_joined f laws v a b c d r s first last from meets to = record {
  below = λ k low high. elim (cases_lt k b) [
    | inl early ↦ below-trans f laws (f r s) r (v k) (below-left f laws r s) (first.below k low early)
    | inr late ↦ below-trans f laws (f r s) s (v k) (below-right f laws r s) (last.below k (omega (arith, late, meets)) high)
  ];
  most = λ z all. below_both f laws z r s (first.most z (λ k low high. all k low (omega (arith, high, to)))) (last.most z (λ k low high. all k (omega (arith, low, from)) high));
}

pub best_same : {A : Type 0} (f : A → A → A) (v w : ℕ → A) (a b : ℕ) (r : A) → ((k : ℕ) → a ≤ k → k < b → v k ≡ w k) → IsBest f v a b r → IsBest f w a b r
best_same f v w a b r same best = record {
  below = λ k from to. ap (f r) (sym (same k from to)) ∙ best.below k from to;
  most = λ z all. best.most z (λ k from to. ap (f z) (same k from to) ∙ all k from to);
}

-- one value more, where n is merged into each
pub best_more : {A : Type 0} (f : A → A → A) → IsExtremum f → (n : A) (u : ℕ → A) (a b c : ℕ) (r s : A) → a < b → c ≡ b + 1 → s ≡ f r (u b) → IsBest f (λ j. f n (u j)) a b r → IsBest f (λ j. f n (u j)) a c s
best_more f laws n u a b c r s some c-is s-is best =
    let low : f r n ≡ r = below-trans f laws r (f n (u a)) n (best.below a (omega arith) some) (below-left f laws n (u a)) in
    rw (s-is) (record {
      below = λ k from to. elim (cases_lt k b) [
        | inl early ↦ below-trans f laws (f r (u b)) r (f n (u k)) (below-left f laws r (u b)) (best.below k from early)
        | inr late ↦
            let here : k ≡ b = omega (arith, late, to, c-is) in
            ap (λ (t : ℕ). f (f r (u b)) (f n (u t))) here
            ∙ below_both f laws (f r (u b)) n (u b) (below-trans f laws (f r (u b)) r n (below-left f laws r (u b)) low) (below-right f laws r (u b))
      ];
      most = λ z all. below_both f laws z r (u b) (best.most z (λ k from to. all k from (omega (arith, to, c-is))))
          (below-trans f laws z (f n (u b)) (u b) (all b (omega (arith, some)) (omega (arith, c-is))) (below-right f laws n (u b)));
    })

-- one value before them
pub best_before : {A : Type 0} (f : A → A → A) → IsExtremum f → (n : A) (u : ℕ → A) (a b c : ℕ) (r s : A) → b < c → b ≡ a + 1 → s ≡ f r (u a) → IsBest f (λ j. f n (u j)) b c r → IsBest f (λ j. f n (u j)) a c s
best_before f laws n u a b c r s some b-is s-is best =
    let low : f r n ≡ r = below-trans f laws r (f n (u b)) n (best.below b (omega arith) some) (below-left f laws n (u b)) in
    rw (s-is) (record {
      below = λ k from to. elim (cases_lt a k) [
        | inl late ↦ below-trans f laws (f r (u a)) r (f n (u k)) (below-left f laws r (u a)) (best.below k (omega (arith, late, b-is)) to)
        | inr early ↦
            let here : k ≡ a = omega (arith, early, from) in
            ap (λ (t : ℕ). f (f r (u a)) (f n (u t))) here
            ∙ below_both f laws (f r (u a)) n (u a) (below-trans f laws (f r (u a)) r n (below-left f laws r (u a)) low) (below-right f laws r (u a))
      ];
      most = λ z all. below_both f laws z r (u a) (best.most z (λ k from to. all k (omega (arith, from, b-is)) to))
          (below-trans f laws z (f n (u a)) (u a) (all a (omega arith) (omega (arith, b-is, some))) (below-right f laws n (u a)));
    })

-- m values with n merged into each, where all other values are n
pub best_clipped : {A : Type 0} (f : A → A → A) → IsExtremum f → (n : A) (u v : ℕ → A) (m s c d : ℕ) (r : A) → 0 < m → c ≤ s → s + m ≤ d → ((j : ℕ) → j < m → u (s + j) ≡ f n (v j))
    → ((k : ℕ) → c ≤ k → k < d → (k < s) ⊎ (s + m ≤ k) → u k ≡ n) → IsBest f (λ j. f n (v j)) 0 m r → IsBest f u c d r
best_clipped f laws n u v m s c d r some from to inside outside best =
    let low : f r n ≡ r = below-trans f laws r (f n (v 0)) n (best.below 0 (omega arith) some) (below-left f laws n (v 0)) in
    record {
      below = λ k after before. elim (cases_lt k s) [
        | inl early ↦ ap (f r) (outside k after before (inl early)) ∙ low
        | inr not_early ↦ elim (cases_lt k (s + m)) [
          | inl here ↦
              let place : k ≡ s + (k - s) = omega (arith, not_early) in
              ap (λ (t : ℕ). f r (u t)) place ∙ ap (f r) (inside (k - s) (omega (arith, not_early, here))) ∙ best.below (k - s) (omega arith) (omega (arith, not_early, here))
          | inr late ↦ ap (f r) (outside k after before (inr late)) ∙ low
        ]
      ];
      most = λ z all. best.most z (λ j after before. ap (f z) (sym (inside j before)) ∙ all (s + j) (omega (arith, from)) (omega (arith, before, to)));
    }

pub best_none : {A : Type 0} (f : A → A → A) → IsExtremum f → (n : A) (u : ℕ → A) (c d : ℕ) → c < d → ((k : ℕ) → c ≤ k → k < d → u k ≡ n) → IsBest f u c d n
best_none f laws n u c d some same = record {
  below = λ k from to. ap (f n) (same k from to) ∙ laws.is_idempotent n;
  most = λ z all. ap (f z) (sym (same c (omega arith) some)) ∙ all c (omega arith) some;
}

-- an extremum over places is the best of its values
pub best_over : {A : Type 0} (f : A → A → A) → IsExtremum f → (v : ℕ → A) (a m b : ℕ) → b ≡ a + m + 1 → IsBest f v a b (over f v a m)
best_over f laws v a zero b b-is = best_one f laws v a b (v a) (omega (arith, b-is)) refl
best_over f laws v a (suc m) b b-is =
    best_joined f laws v a (a + 1) (a + 1) b (v a) (over f v (a + 1) m) (best_one f laws v a (a + 1) (v a) refl refl) (best_over f laws v (a + 1) m b (omega (arith, b-is))) (omega arith) (omega arith) (omega (arith, b-is))

-- the best of columns that are the best of their cells is the extremum over the box
pub best_box : {A : Type 0} (f : A → A → A) → IsExtremum f → (v : ℕ → ℕ → A) (line : ℕ → A) (x y k l : ℕ) (r : A) → 0 < k → 0 < l → ((j : ℕ) → x ≤ j → j < x + k → IsBest f (v j) y (y + l) (line j)) → IsBest f line x (x + k) r
    → r ≡ over f (λ j. over f (λ i. v (x + i) (y + j)) 0 (k - 1)) 0 (l - 1)
best_box f laws v line x y k l r some_k some_l columns best =
    let column : (j : ℕ) → x ≤ j → j < x + k → line j ≡ over f (v j) y (l - 1) = λ j from to. best_unique f laws (v j) y (y + l) (line j) (over f (v j) y (l - 1)) (columns j from to) (best_over f laws (v j) y (l - 1) (y + l) (omega (arith, some_l))) in
    best_unique f laws (λ j. over f (v j) y (l - 1)) x (x + k) r (over f (λ j. over f (v j) y (l - 1)) x (k - 1))
    (best_same f line (λ j. over f (v j) y (l - 1)) x (x + k) r column best) (best_over f laws (λ j. over f (v j) y (l - 1)) x (k - 1) (x + k) (omega (arith, some_k)))
    ∙ over_swapped f laws v x (k - 1) y (l - 1)
    ∙ over_shift f (λ j. over f (λ i. v i j) x (k - 1)) y 0 y (l - 1) (omega arith)
    ∙ over_same f (λ j. over f (λ i. v i (y + j)) x (k - 1)) (λ j. over f (λ i. v (x + i) (y + j)) 0 (k - 1)) 0 (l - 1) (λ j from to. over_shift f (λ i. v i (y + j)) x 0 x (k - 1) (omega arith))

-- the same best of places that are named otherwise
pub best_at : {A : Type 0} (f : A → A → A) (v : ℕ → A) (a b c d : ℕ) (r s : A) → a ≡ c → b ≡ d → r ≡ s → IsBest f v a b r → IsBest f v c d s
best_at f v a b c d r s from to is best = subst (λ (t : _). IsBest f v c d t) is (subst (λ (t : ℕ). IsBest f v c t r) to (subst (λ (t : ℕ). IsBest f v t b r) from best))

pub best_shift : {A : Type 0} (f : A → A → A) (v : ℕ → A) (s a b : ℕ) (r : A) → IsBest f (λ j. v (s + j)) a b r → IsBest f v (s + a) (s + b) r
best_shift f v s a b r best = record {
  below = λ k from to.
      let place : k ≡ s + (k - s) = omega (arith, from) in
      ap (λ (t : ℕ). f r (v t)) place ∙ best.below (k - s) (omega (arith, from)) (omega (arith, to, from));
  most = λ z all. best.most z (λ k from to. all (s + k) (omega (arith, from)) (omega (arith, to)));
}

-- the bests of two runs, each of a place more than what both have
pub best_pair : {A : Type 0} (f : A → A → A) → IsExtremum f → (n : A) (u : ℕ → A) (count : ℕ) (both upper lower : A) → 2 ≤ count → IsBest f (λ j. f n (u j)) 1 count both → upper ≡ f both (u 0) → lower ≡ f both (u count)
    → IsBest f (λ j. f n (u j)) 0 count upper × IsBest f (λ j. f n (u j)) 1 (1 + count) lower
best_pair f laws n u count both upper lower some best upper-is lower-is = (
  best_before f laws n u 0 1 count both upper (omega (arith, some)) (omega arith) upper-is best,
  best_more f laws n u 1 count (1 + count) both lower (omega (arith, some)) (omega arith) lower-is best,
)

-- the bests of four runs
pub best_fours : {A : Type 0} (f : A → A → A) → IsExtremum f → (n : A) (u : ℕ → A) (count : ℕ) (all third second one two three a b c d : A) → 4 ≤ count → IsBest f (λ j. f n (u j)) 3 count all → third ≡ f all (u 2) → second ≡ f third (u 1) → one ≡ u count
    → two ≡ f one (u (count + 1)) → three ≡ f two (u (count + 2)) → a ≡ f second (u 0) → b ≡ f second one → c ≡ f third two → d ≡ f all three
    → IsBest f (λ j. f n (u j)) 0 count a × IsBest f (λ j. f n (u j)) 1 (1 + count) b × IsBest f (λ j. f n (u j)) 2 (2 + count) c × IsBest f (λ j. f n (u j)) 3 (3 + count) d
best_fours f laws n u count all third second one two three a b c d some best third-is second-is one-is two-is three-is a-is b-is c-is d-is =
    let thirds = best_before f laws n u 2 3 count all third (omega (arith, some)) (omega arith) third-is best in
    let seconds = best_before f laws n u 1 2 count third second (omega (arith, some)) (omega arith) second-is thirds in
    let pair-is : two ≡ f (u count) (u (count + 1)) = two-is ∙ ap (λ (t : _). f t (u (count + 1))) one-is in
    let c-joined : c ≡ f (f third (u count)) (u (count + 1)) = c-is ∙ ap (f third) pair-is ∙ sym (laws.associates third (u count) (u (count + 1))) in
    let d-joined : d ≡ f (f (f all (u count)) (u (count + 1))) (u (count + 2)) =
    d-is ∙ ap (f all) (three-is ∙ ap (λ (t : _). f t (u (count + 2))) pair-is) ∙ sym (laws.associates all (f (u count) (u (count + 1))) (u (count + 2))) ∙ ap (λ (t : _). f t (u (count + 2))) (sym (laws.associates all (u count) (u (count + 1)))) in (
      best_before f laws n u 0 1 count second a (omega (arith, some)) (omega arith) a-is seconds,
      best_more f laws n u 1 count (1 + count) second b (omega (arith, some)) (omega arith) (b-is ∙ ap (f second) one-is) seconds,
      best_more f laws n u 2 (count + 1) (2 + count) (f third (u count)) c (omega (arith, some)) (omega arith) c-joined (best_more f laws n u 2 count (count + 1) third (f third (u count)) (omega (arith, some)) refl refl thirds),
      best_more f laws n u 3 (count + 2) (3 + count) (f (f all (u count)) (u (count + 1))) d (omega (arith, some)) (omega arith) d-joined
          (best_more f laws n u 3 (count + 1) (count + 2) (f all (u count)) (f (f all (u count)) (u (count + 1))) (omega (arith, some)) (omega arith) refl (best_more f laws n u 3 count (count + 1) all (f all (u count)) (omega (arith, some)) refl refl best)),
    )

-- one of two, and one of four
pub each_of_two : (Q : ℕ → Type 0) → Q 0 → Q 1 → (r : ℕ) → r < 2 → Q r
each_of_two Q a b zero lt = a
each_of_two Q a b (suc zero) lt = b
each_of_two Q a b (suc (suc r)) lt = absurd (omega arith)

pub each_of_four : (Q : ℕ → Type 0) → Q 0 → Q 1 → Q 2 → Q 3 → (r : ℕ) → r < 4 → Q r
each_of_four Q a b c d zero lt = a
each_of_four Q a b c d (suc zero) lt = b
each_of_four Q a b c d (suc (suc zero)) lt = c
each_of_four Q a b c d (suc (suc (suc zero))) lt = d
each_of_four Q a b c d (suc (suc (suc (suc r)))) lt = absurd (omega arith)
