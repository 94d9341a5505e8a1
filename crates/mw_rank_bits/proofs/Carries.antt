-- What is carried from digit to digit.
use Rattle.std.proofs.Common.{◌≡◌, ◌⊎◌, ℕ, zero, suc, ◌+◌, ◌*◌, ◌^◌, ◌<◌, ◌≤◌, List, refl, ap, subst, arith, ◌∙◌, inl, inr}
use Rattle.std.proofs.Math.Nat.{pow-suc}
use Rattle.mw_bits.specs.mw_pixel_words.Packed.{bit_of}
use Rattle.mw_bits.proofs.mw_pixel_words.Bits.{bit_of-lt}
use Rattle.mw_rank_bits.specs.Numbers.{number_at, HasCarried, HasAdded}

-- planes with the same bits hold the same numbers
pub number_same : (seen : ℕ → ℕ) (n : ℕ) (a b : List ℕ) (q : ℕ) → q < 128 → ((p : ℕ) → p < 128 * n → bit_of a p ≡ bit_of b p) → number_at seen n a q ≡ number_at seen n b q
number_same seen zero a b q lt same = refl
number_same seen (suc n) a b q lt same =
    ap (λ (t : ℕ). t + 2 ^ n * seen (bit_of a (128 * n + q))) (number_same seen n a b q lt (λ p less. same p (omega arith)))
    ∙ ap (λ (t : ℕ). number_at seen n b q + 2 ^ n * seen t) (same (128 * n + q) (omega arith))

-- one plane more
pub carried_more : (seen : ℕ → ℕ) (n : ℕ) (more : ℕ → ℕ) (carry other next old mid new : List ℕ) → HasCarried seen n more carry old mid
    → ((q : ℕ) → q < 128 → seen (bit_of new (128 * n + q)) + 2 * bit_of next q ≡ seen (bit_of mid (128 * n + q)) + bit_of other q + bit_of carry q)
    → ((p : ℕ) → (p < 128 * n) ⊎ (128 * n + 128 ≤ p) → bit_of new p ≡ bit_of mid p)
    → HasCarried seen (suc n) (λ q. more q + 2 ^ n * bit_of other q) next old new
carried_more seen n more carry other next old mid new before digit others = record {
  changed = λ q lt.
      let front = number_same seen n new mid q lt (λ p less. others p (inl less)) in
      let old_digit = ap seen (before.others (128 * n + q) (omega arith)) in
      step (2 ^ n) (2 ^ suc n) (number_at seen n new q) (number_at seen n mid q) (number_at seen n old q) (seen (bit_of new (128 * n + q))) (seen (bit_of mid (128 * n + q))) (seen (bit_of old (128 * n + q)))
      (bit_of next q) (bit_of other q) (bit_of carry q) (more q) (pow-suc 2 n) front old_digit (digit q lt) (before.changed q lt);
  others = λ p from. others p (inr (omega arith)) ∙ before.others p (omega arith);
}
  where
    step : (w v front mid_front old_front made had old_had next other carry more : ℕ) → v ≡ w * 2 → front ≡ mid_front → had ≡ old_had → made + 2 * next ≡ had + other + carry → mid_front + w * carry ≡ old_front + more
        → front + w * made + v * next ≡ old_front + w * old_had + (more + w * other)
    step w v front mid_front old_front made had old_had next other carry more v-is front-is had-is digit before =
        let times = ap (λ (t : ℕ). w * t) digit in
        let twice = ap (λ (t : ℕ). t * next) v-is in
        let was = ap (λ (t : ℕ). w * t) had-is in
        omega (arith, times, twice, was)

-- one plane more, to which only what is carried is added
pub carried_on : (seen : ℕ → ℕ) (n : ℕ) (more : ℕ → ℕ) (carry none next old mid new : List ℕ) → HasCarried seen n more carry old mid → ((q : ℕ) → q < 128 → bit_of none q ≡ 0)
    → ((q : ℕ) → q < 128 → seen (bit_of new (128 * n + q)) + 2 * bit_of next q ≡ seen (bit_of mid (128 * n + q)) + bit_of none q + bit_of carry q)
    → ((p : ℕ) → (p < 128 * n) ⊎ (128 * n + 128 ≤ p) → bit_of new p ≡ bit_of mid p)
    → HasCarried seen (n + 1) more next old new
carried_on seen n more carry none next old mid new before empty digit others =
    let made = carried_more seen n more carry none next old mid new before digit others in
    let up : suc n ≡ n + 1 = omega arith in
    subst (λ (t : ℕ). HasCarried seen t more next old new) up (record {
      changed = λ q lt. made.changed q lt ∙ ap (λ (t : ℕ). number_at seen (suc n) old q + (more q + 2 ^ n * t)) (empty q lt) ∙ nothing (number_at seen (suc n) old q) (more q) (2 ^ n);
      others = made.others;
    })
  where
    nothing : (a b w : ℕ) → a + (b + w * 0) ≡ a + b
    nothing a b w = omega arith

-- where all is carried, nothing is left over
pub carried_all : (seen : ℕ → ℕ) (n : ℕ) (more : ℕ → ℕ) (carry old new : List ℕ) → HasCarried seen n more carry old new → HasAdded seen n more old new
carried_all seen n more carry old new done = λ q lt small.
    let is = done.changed q lt in
    none (2 ^ n) (bit_of carry q) (number_at seen n new q) (number_at seen n old q) (more q) (bit_of-lt carry q) is small
  where
    none : (w b new old more : ℕ) → b < 2 → new + w * b ≡ old + more → old + more < w → new ≡ old + more
    none w zero new old more lt is small = omega arith
    none w (suc zero) new old more lt is small = omega arith
    none w (suc (suc b)) new old more lt is small = absurd (omega arith)
