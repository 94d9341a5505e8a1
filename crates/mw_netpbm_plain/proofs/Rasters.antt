-- What is read of a raster is what the bytes spell, and what they spell is read.
use Rattle.std.proofs.Common.{◌≡◌, ℕ, zero, suc, ◌+◌, ◌-◌, ◌≤◌, Bool, true, false, cond, eqb, ltb, List, [], ◌∷◌, ◌++◌, length, Result, Ok, Err, refl, sym, ap, subst, ◌∙◌, arith, inl, inr, ◌||◌}
use Rattle.std.proofs.lemmas.Bool.{ltb-false, le-ltb}
use Rattle.std.proofs.lemmas.Bool.Decides.{nat_tests}
use Rattle.mw_netpbm_plain.specs.declared.fault.ReadFault.{ReadFault}
use Rattle.mw_netpbm_plain.specs.declared.fault.ReadFault.TheVariants.{Header, Sample, Trailing}
use Rattle.mw_netpbm_plain.specs.Reading.{◌>>=◌, skip_from, digits_from, number_in_text}
use Rattle.mw_model.specs.NetpbmGrammar.{is_white, is_digit, NoDigit, Blank, IsNumber, IsTail, IsPixel, IsApart, IsSample, IsPlain, value_after}
use Rattle.mw_netpbm_plain.specs.Plain.{plain_at, tail_at, bit_at, pixel_in_text, apart, level_in_text, sample_in_text}
use Rattle.mw_netpbm_plain.proofs.Whole.{cond-chosen}
use Rattle.mw_netpbm_plain.proofs.Sides.{Within, bind_ok, guard_ok, ok_is, plain_length, tail_nil}
use Rattle.mw_netpbm_plain.proofs.Blanks.{skip_blank, Visible, skip_visible, Skipped, at_visible, at_end, in_comment, skipped, cap, Numbered, number_parts, digits_whole, white_no_digit}
use Rattle.mw_netpbm_plain.proofs.Headers.{skip_number}

-- ---- plain

pub tail_from : (bytes xs : List ℕ) → tail_at bytes ≡ Ok xs → IsTail bytes
unfolding tail_at
tail_from [] xs e = tt
tail_from (b ∷ bs) xs e = elim (cond-chosen (is_white b) (Ok []) (Err Trailing) (Ok xs) e) [ inl w ↦ w.0 | inr w ↦ absurd (let clash : Err Trailing ≡ Ok xs = w.1 in cc) ]

pub tail_whole : (bytes : List ℕ) → IsTail bytes → tail_at bytes ≡ Ok []
unfolding tail_at
tail_whole [] h = refl
tail_whole (b ∷ bs) h = ap (λ (x : Bool). cond x (Ok []) (Err Trailing)) h

pub plain_from : (place : ℕ → List ℕ → Result (ℕ × List ℕ) ReadFault) (Place : ℕ → List ℕ → ℕ → List ℕ → Type 0)
    → ((left : ℕ) (bytes : List ℕ) (x : ℕ × List ℕ) → place left bytes ≡ Ok x → Place left bytes x.0 x.1)
    → (n : ℕ) (bytes xs : List ℕ) → plain_at place n bytes ≡ Ok xs → IsPlain Place bytes xs
unfolding plain_at
plain_from place Place each zero bytes xs e = subst (λ (ys : List ℕ). IsPlain Place bytes ys) (tail_nil bytes xs e) (tail_from bytes xs e)
plain_from place Place each (suc n) bytes xs e =
    let a = bind_ok (place n bytes) (λ first. plain_at place n first.1 >>= λ others. Ok (first.0 ∷ others)) xs e in
    let b = bind_ok (plain_at place n a.0.1) (λ others. Ok (a.0.0 ∷ others)) xs a.2 in
    let here : Place (length b.0) bytes a.0.0 a.0.1 = subst (λ k. Place k bytes a.0.0 a.0.1) (sym (plain_length place n a.0.1 b.0 b.1)) (each n bytes a.0 a.1) in
    subst (λ (ys : List ℕ). IsPlain Place bytes ys) (ok_is (a.0.0 ∷ b.0) xs b.2) (a.0.1, here, plain_from place Place each n a.0.1 b.0 b.1)

pub plain_read : (place : ℕ → List ℕ → Result (ℕ × List ℕ) ReadFault) (Place : ℕ → List ℕ → ℕ → List ℕ → Type 0) (m : ℕ)
    → ((left : ℕ) (bytes : List ℕ) (s : ℕ) (rest ss : List ℕ) → Place left bytes s rest → length ss ≡ left → IsPlain Place rest ss → s ≤ m → place left bytes ≡ Ok (s, rest))
    → (bytes xs : List ℕ) → IsPlain Place bytes xs → Within m xs → plain_at place (length xs) bytes ≡ Ok xs
unfolding plain_at
plain_read place Place m each bytes [] h w = tail_whole bytes h
plain_read place Place m each bytes (s ∷ ss) h w =
    rw (each (length ss) bytes s h.0 ss h.1 refl h.2 w.0, plain_read place Place m each h.0 ss h.2 w.1) refl

-- ---- one pixel, one sample

bit_whole : (s : ℕ) (bs : List ℕ) → s ≤ 1 → bit_at ((48 + s) ∷ bs) ≡ Ok (s, bs)
unfolding bit_at
bit_whole zero bs le = refl
bit_whole (suc zero) bs le = refl
bit_whole (suc (suc s)) bs le = absurd (omega (arith, le))

pixel_visible : (s : ℕ) → s ≤ 1 → Visible (48 + s)
pixel_visible zero le = (refl, refl)
pixel_visible (suc zero) le = (refl, refl)
pixel_visible (suc (suc s)) le = absurd (omega (arith, le))

pub pixel_whole : (left : ℕ) (bytes : List ℕ) (s : ℕ) (rest : List ℕ) → IsPixel left bytes s rest → pixel_in_text left bytes ≡ Ok (s, rest)
unfolding pixel_in_text
pixel_whole left bytes s rest (blank, parts, bl, le) =
    ap (λ (b : List ℕ). bit_at (skip_from false b)) parts ∙ ap bit_at (skip_blank blank ((48 + s) ∷ rest) bl ∙ skip_visible (48 + s) rest (pixel_visible s le)) ∙ bit_whole s rest le

two_bytes : (b : ℕ) → (eqb b 48 || eqb b 49) ≡ true → (b ≡ 48 + (b - 48)) × (b - 48 ≤ 1)
two_bytes b h = (grind (arith, nat_tests), grind (arith, nat_tests))

bit_cases : (b : ℕ) (bs : List ℕ) (x : ℕ × List ℕ) → bit_at (b ∷ bs) ≡ Ok x → (b ∷ bs ≡ (48 + x.0) ∷ x.1) × (x.0 ≤ 1)
unfolding bit_at
bit_cases b bs x e =
    elim (cond-chosen (eqb b 48 || eqb b 49) (Ok (b - 48, bs)) (Err Sample) (Ok x) e) [
      | inl w ↦
          let same = ok_is (b - 48, bs) x w.1 in
          let digit = two_bytes b w.0 in
          subst (λ (y : ℕ × List ℕ). (b ∷ bs ≡ (48 + y.0) ∷ y.1) × (y.0 ≤ 1)) same (ap (λ k. k ∷ bs) digit.0, digit.1)
      | inr w ↦ absurd (let clash : Err Sample ≡ Ok x = w.1 in cc)
    ]

pixel_found : (left : ℕ) (bytes seen : List ℕ) (x : ℕ × List ℕ) → Skipped bytes seen → bit_at seen ≡ Ok x → IsPixel left bytes x.0 x.1
unfolding bit_at
pixel_found left bytes seen x (at_visible blank b bs bl v) e =
    let c = bit_cases b bs x e in
    (blank, ap (λ (t : List ℕ). blank ++ t) c.0, bl, c.1)
pixel_found left bytes seen x (at_end all bl) e = absurd cc
pixel_found left bytes seen x (in_comment blank text bl all) e = absurd cc

pub pixel_parts : (left : ℕ) (bytes : List ℕ) (x : ℕ × List ℕ) → pixel_in_text left bytes ≡ Ok x → IsPixel left bytes x.0 x.1
unfolding pixel_in_text
pixel_parts left bytes x e = pixel_found left bytes (skip_from false bytes) x (skipped bytes) e

-- what the test after a sample shows
abbrev AfterIt : ℕ → List ℕ → Type 0
AfterIt zero rest = Unit {0}
AfterIt (suc left) rest = IsTail rest

apart_from : (left : ℕ) (rest : List ℕ) → AfterIt left rest → NoDigit rest → IsApart left rest
apart_from zero rest h stop = stop
apart_from (suc left) rest h stop = h

apart_parts : (left : ℕ) (found x : ℕ × List ℕ) → apart left found ≡ Ok x → (found ≡ x) × AfterIt left x.1
unfolding apart
apart_parts zero found x e = (ok_is found x e, tt)
apart_parts (suc left) (n, []) x e = let same = ok_is (n, []) x e in (same, subst (λ (y : ℕ × List ℕ). IsTail y.1) same tt)
apart_parts (suc left) (n, b ∷ bs) x e =
    elim (cond-chosen (is_white b) (Ok (n, b ∷ bs)) (Err Sample) (Ok x) e) [
      | inl w ↦ let same = ok_is (n, b ∷ bs) x w.1 in (same, subst (λ (y : ℕ × List ℕ). IsTail y.1) same w.0)
      | inr w ↦ absurd (let clash : Err Sample ≡ Ok x = w.1 in cc)
    ]

apart_whole : (left n : ℕ) (rest : List ℕ) → IsApart left rest → apart left (n, rest) ≡ Ok (n, rest)
unfolding apart
apart_whole zero n rest h = refl
apart_whole (suc left) n [] h = refl
apart_whole (suc left) n (b ∷ bs) h = ap (λ (x : Bool). cond x (Ok (n, b ∷ bs)) (Err Sample)) h

number_is : (b : ℕ) (bs : List ℕ) → is_digit b ≡ true → number_in_text (b ∷ bs) ≡ Ok (digits_from 0 (b ∷ bs))
unfolding number_in_text
number_is b bs d = ap (λ (x : Bool). cond x (Ok (digits_from 0 (b ∷ bs))) (Err Header)) d

level_cases : (maxval left b : ℕ) (bs : List ℕ) (x : ℕ × List ℕ) → level_in_text maxval left (b ∷ bs) ≡ Ok x → (number_in_text (b ∷ bs) ≡ Ok x) × (x.0 ≤ maxval) × AfterIt left x.1
unfolding level_in_text
level_cases maxval left b bs x e =
    let d = digits_from 0 (b ∷ bs) in
    elim (cond-chosen (is_digit b) (cond (ltb maxval (d.0)) (Err Sample) (apart left d)) (Err Sample) (Ok x) e) [
      | inl w ↦
          let g = guard_ok (ltb maxval (d.0)) Sample (apart left d) x w.1 in
          let low : d.0 ≤ maxval = ltb-false maxval (d.0) g.0 in
          let a = apart_parts left d x g.1 in
          (number_is b bs w.0 ∙ ap (λ (y : ℕ × List ℕ). Ok y) a.0, subst (λ (y : ℕ × List ℕ). y.0 ≤ maxval) a.0 low, a.1)
      | inr w ↦ absurd (let clash : Err Sample ≡ Ok x = w.1 in cc)
    ]

sample_found : (maxval left : ℕ) (blank bytes : List ℕ) (x : ℕ × List ℕ) → maxval ≤ 65535 → Blank blank → x.0 ≤ maxval → AfterIt left x.1 → Numbered bytes x.1 x.0 → IsSample left (blank ++ bytes) x.0 x.1
sample_found maxval left blank bytes x low bl small after n =
    let value : n.value ≡ x.0 = omega (arith, n.is_capped, small, low) in
    (blank, n.text, ap (λ (t : List ℕ). blank ++ t) n.parts, bl, subst (λ k. IsNumber n.text k) value n.is_number, apart_from left x.1 after n.stops)

-- samples within 16 bits are not capped
level_found : (maxval left : ℕ) (bytes seen : List ℕ) (x : ℕ × List ℕ) → maxval ≤ 65535 → Skipped bytes seen → level_in_text maxval left seen ≡ Ok x → IsSample left bytes x.0 x.1
unfolding level_in_text
level_found maxval left bytes seen x low (at_visible blank b bs bl v) e =
    let c = level_cases maxval left b bs x e in
    sample_found maxval left blank (b ∷ bs) x low bl c.1 c.2 (number_parts (b ∷ bs) x c.0)
level_found maxval left bytes seen x low (at_end all bl) e = absurd cc
level_found maxval left bytes seen x low (in_comment blank text bl all) e = absurd cc

pub sample_parts : (maxval left : ℕ) (bytes : List ℕ) (x : ℕ × List ℕ) → maxval ≤ 65535 → sample_in_text maxval left bytes ≡ Ok x → IsSample left bytes x.0 x.1
unfolding sample_in_text
sample_parts maxval left bytes x low e = level_found maxval left bytes (skip_from false bytes) x low (skipped bytes) e

level_whole : (maxval left : ℕ) (text rest : List ℕ) (s : ℕ) → IsNumber text s → NoDigit rest → IsApart left rest → s ≤ maxval → maxval ≤ 65535 → level_in_text maxval left (text ++ rest) ≡ Ok (s, rest)
unfolding level_in_text
level_whole maxval left [] rest s is stop after le low = absurd (omega (arith, is.some))
level_whole maxval left (d ∷ text) rest s is stop after le low =
    let small : cap (value_after 0 (d ∷ text)) ≡ s = omega (arith, is.value) in
    let whole : digits_from 0 (d ∷ (text ++ rest)) ≡ (s, rest) = digits_whole (d ∷ text) 0 rest is.each stop ∙ ap (λ k. (k, rest)) small in
    ap (λ (x : Bool). cond x (cond (ltb maxval ((digits_from 0 (d ∷ (text ++ rest))).0)) (Err Sample) (apart left (digits_from 0 (d ∷ (text ++ rest))))) (Err Sample)) is.each.0
    ∙ ap (λ (y : ℕ × List ℕ). cond (ltb maxval (y.0)) (Err Sample) (apart left y)) whole
    ∙ ap (λ (x : Bool). cond x (Err Sample) (apart left (s, rest))) (le-ltb _ _ le)
    ∙ apart_whole left s rest after

pub tail_stops : (rest : List ℕ) → IsTail rest → NoDigit rest
tail_stops [] h = tt
tail_stops (b ∷ bs) h = white_no_digit b h

pub apart_stops : (left : ℕ) (rest : List ℕ) → IsApart left rest → NoDigit rest
apart_stops zero [] h = tt
apart_stops zero (b ∷ bs) h = h
apart_stops (suc left) rest h = tail_stops rest h

pub sample_whole : (maxval left : ℕ) (bytes : List ℕ) (s : ℕ) (rest : List ℕ) → IsSample left bytes s rest → s ≤ maxval → maxval ≤ 65535 → sample_in_text maxval left bytes ≡ Ok (s, rest)
unfolding sample_in_text
sample_whole maxval left bytes s rest (blank, digits, parts, bl, is, after) le low =
    ap (λ (b : List ℕ). level_in_text maxval left (skip_from false b)) parts
    ∙ ap (level_in_text maxval left) (skip_blank blank (digits ++ rest) bl ∙ skip_number digits rest s is)
    ∙ level_whole maxval left digits rest s is (apart_stops left rest after) after le low
