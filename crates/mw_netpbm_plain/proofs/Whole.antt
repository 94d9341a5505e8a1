-- What is read fits its header.
use Rattle.std.proofs.Common.{◌≡◌, ℕ, zero, suc, ◌-◌, ◌≤◌, Bool, true, false, cond, eqb, ltb, List, [], ◌∷◌, Ok, Err, refl, ap, subst, arith, inl, inr, ◌⊎◌, ◌||◌}
use Rattle.std.proofs.lemmas.Bool.{ltb-false}
use Rattle.std.proofs.lemmas.Bool.Decides.{nat_tests}
use Rattle.std.proofs.lemmas.List.Elements.{All-from_recursion}
use Rattle.mw_netpbm_plain.specs.declared.fault.ReadFault.TheVariants.{Sample}
use Rattle.mw_netpbm_plain.specs.Reading.{skip_from, digits_from}
use Rattle.mw_model.specs.NetpbmGrammar.{is_white, is_digit}
use Rattle.mw_netpbm_plain.specs.Plain.{plain_at, bit_at, pixel_in_text, apart, level_in_text, sample_in_text}
use Rattle.mw_netpbm_plain.specs.Whole.{IsFit}
use Rattle.mw_netpbm_plain.proofs.Sides.{guard_ok, ok_is, plain_length, plain_within}

-- the two cases of a choice
pub cond-chosen : {A : Type 0} (b : Bool) (x y z : A) → cond b x y ≡ z → ((b ≡ true) × (x ≡ z)) ⊎ ((b ≡ false) × (y ≡ z))
cond-chosen true x y z e = inl (refl, e)
cond-chosen false x y z e = inr (refl, e)

zero_or_one : (b : ℕ) → (eqb b 48 || eqb b 49) ≡ true → b - 48 ≤ 1
zero_or_one b h = grind (arith, nat_tests)

bit_small : (bytes : List ℕ) (x : ℕ × List ℕ) → bit_at bytes ≡ Ok x → x.0 ≤ 1
unfolding bit_at
bit_small [] x e = absurd cc
bit_small (b ∷ bs) x e =
    elim (cond-chosen (eqb b 48 || eqb b 49) (Ok (b - 48, bs)) (Err Sample) (Ok x) e) [
      | inl w ↦ let same = ok_is (b - 48, bs) x w.1 in subst (λ (y : ℕ × List ℕ). y.0 ≤ 1) same (zero_or_one b w.0)
      | inr w ↦ absurd (let clash : Err Sample ≡ Ok x = w.1 in cc)
    ]

apart_value : (left : ℕ) (found x : ℕ × List ℕ) → apart left found ≡ Ok x → found.0 ≡ x.0
unfolding apart
apart_value zero found x e = ap (λ (y : ℕ × List ℕ). y.0) (ok_is found x e)
apart_value (suc left) (n, []) x e = ap (λ (y : ℕ × List ℕ). y.0) (ok_is (n, []) x e)
apart_value (suc left) (n, b ∷ bs) x e =
    elim (cond-chosen (is_white b) (Ok (n, b ∷ bs)) (Err Sample) (Ok x) e) [
      | inl w ↦ ap (λ (y : ℕ × List ℕ). y.0) (ok_is (n, b ∷ bs) x w.1)
      | inr w ↦ absurd (let clash : Err Sample ≡ Ok x = w.1 in cc)
    ]

level_small : (maxval left : ℕ) (bytes : List ℕ) (x : ℕ × List ℕ) → level_in_text maxval left bytes ≡ Ok x → x.0 ≤ maxval
unfolding level_in_text
level_small maxval left [] x e = absurd cc
level_small maxval left (b ∷ bs) x e =
    let d = digits_from 0 (b ∷ bs) in
    elim (cond-chosen (is_digit b) (cond (ltb maxval (d.0)) (Err Sample) (apart left d)) (Err Sample) (Ok x) e) [
      | inl w ↦
          let g = guard_ok (ltb maxval (d.0)) Sample (apart left d) x w.1 in
          let low : d.0 ≤ maxval = ltb-false maxval (d.0) g.0 in
          subst (λ (n : ℕ). n ≤ maxval) (apart_value left d x g.1) low
      | inr w ↦ absurd (let clash : Err Sample ≡ Ok x = w.1 in cc)
    ]

pub pixels_fit : (count : ℕ) (bytes xs : List ℕ) → plain_at pixel_in_text count bytes ≡ Ok xs → IsFit count 1 xs
unfolding pixel_in_text
pixels_fit count bytes xs e = (plain_length pixel_in_text count bytes xs e, All-from_recursion (λ s. s ≤ 1) xs (plain_within pixel_in_text 1 (λ left rest x h. bit_small (skip_from false rest) x h) count bytes xs e))

pub sample_small : (m left : ℕ) (bytes : List ℕ) (x : ℕ × List ℕ) → sample_in_text m left bytes ≡ Ok x → x.0 ≤ m
unfolding sample_in_text
sample_small m left bytes x e = level_small m left (skip_from false bytes) x e

pub plain_fit : (m count : ℕ) (bytes xs : List ℕ) → plain_at (sample_in_text m) count bytes ≡ Ok xs → IsFit count m xs
unfolding sample_in_text
plain_fit m count bytes xs e = (plain_length (sample_in_text m) count bytes xs e, All-from_recursion (λ s. s ≤ m) xs (plain_within (sample_in_text m) m (λ left rest x h. level_small m left (skip_from false rest) x h) count bytes xs e))
