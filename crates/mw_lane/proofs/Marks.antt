-- Vectors of 1 for each sample from a level on, and the pixels that are made of them.
use Rattle.std.proofs.Common.{◌≡◌, ℕ, suc, ◌+◌, ◌-◌, ◌^◌, ◌<◌, ◌≤◌, Bool, true, false, not, cond, eqb, leb, List, [], ◌∷◌, length, map, take, replicate, get_or, set, refl, ap, sym, arith, ◌∙◌, w8}
use Rattle.std.proofs.lemmas.Bool.Decides.{nat_tests}
use Rattle.std.proofs.lemmas.List.{take_all, get_or-map, get_or_default}
use Rattle.std.proofs.lemmas.Simd.{tops_compared}
use Rattle.std.specs.Int.{Width}
use Rattle.mw_model.proofs.mw_facts.Merged.{merged, mapped_step, mapped_all, merged_all}
use mir.Val.{bits, hbits, Fits}
use lib.Lanes.{zip2, sel_l, top}

-- 1 where the sample reaches the level
abbrev pub mark : ℕ → ℕ → ℕ
mark k s = cond (leb k s) 1 0

compared_with_one : (h : ℕ → ℕ → Bool) (k : ℕ) (xs : List ℕ) → zip2 h (replicate (length xs) k) xs ≡ map (h k) xs
compared_with_one h k [] = refl
compared_with_one h k (x ∷ xs) = ap (λ (t : List Bool). h k x ∷ t) (compared_with_one h k xs)

sel_l-marks : (k : ℕ) (xs : List ℕ) → sel_l {A = ℕ} (map (leb k) xs) (replicate (length xs) 1) (replicate (length xs) 0) ≡ map (mark k) xs
sel_l-marks k [] = refl
sel_l-marks k (x ∷ xs) = ap (λ (t : List ℕ). mark k x ∷ t) (sel_l-marks k xs)

-- what is chosen of 1 and 0 where a sample is compared with k
pub marks_of_block : (w : Width) (k : ℕ) (xs : List ℕ) → length xs ≡ 64
    → sel_l {A = ℕ} (map (top (hbits w)) (zip2 (λ (a b : ℕ). cond (leb a b) (2 ^ bits w - 1) 0) (replicate 64 k) (take 64 xs))) (replicate 64 1) (replicate 64 0) ≡ map (mark k) xs
marks_of_block w k xs whole =
    rw (take_all 64 xs (omega arith), tops_compared w leb (replicate 64 k) xs)
    (ap (λ (n : ℕ). sel_l {A = ℕ} (zip2 leb (replicate n k) xs) (replicate n 1) (replicate n 0)) (sym whole)
    ∙ ap (λ (t : List Bool). sel_l {A = ℕ} t (replicate (length xs) 1) (replicate (length xs) 0)) (compared_with_one leb k xs)
    ∙ sel_l-marks k xs)

not_reached : (k s : ℕ) → s < k → ◌≡◌ {A = ℕ} (cond (leb k s) 1 0) 0
not_reached k s lt = grind (arith, nat_tests)

none_reached : (k : ℕ) (xs : List ℕ) → ((i : ℕ) → i < length xs → get_or xs i 0 < k) → replicate {A = ℕ} (length xs) 0 ≡ map (mark k) xs
none_reached k [] fit = refl
none_reached k (x ∷ xs) fit =
    ap (λ (t : ℕ). t ∷ replicate {A = ℕ} (length xs) 0) (sym (not_reached k x (fit 0 (omega arith))))
    ∙ ap (λ (t : List ℕ). mark k x ∷ t) (none_reached k xs (λ i lt. fit (suc i) (omega arith)))

-- no byte reaches a level over 255
pub no_byte_reaches : (k : ℕ) (xs : List ℕ) → length xs ≡ 64 → ((i : ℕ) → Fits w8 (get_or xs i 0)) → 255 < k → replicate {A = ℕ} 64 0 ≡ map (mark k) xs
no_byte_reaches k xs whole fits over =
    ap (λ (n : ℕ). replicate {A = ℕ} n 0) (sym whole)
    ∙ none_reached k xs (λ i lt. let small : get_or xs i 0 < 256 = (fits i).fits in omega (arith, small))

set_again : (b : Bool) → ◌≡◌ {A = ℕ} (cond (not (eqb (cond b 1 0) 0)) 1 0) (cond b 1 0)
set_again true = refl
set_again false = refl

-- a step of the loop that makes a pixel of each mark
pub mark_step : (k i p : ℕ) (out src now marks : List ℕ) → i < length src → length out ≡ length src → now ≡ merged (λ (_ s : ℕ). mark k s) i out src
    → marks ≡ map (mark k) src → p ≡ cond (not (eqb (get_or marks i 0) 0)) 1 0 → set now i p ≡ merged (λ (_ s : ℕ). mark k s) (i + 1) out src
mark_step k i p out src now marks lt paired so_far marks-are p-is =
    let there : get_or marks i 0 ≡ mark k (get_or src i 0) = ap (λ (t : List ℕ). get_or t i 0) marks-are ∙ get_or-map (mark k) src i 0 0 lt in
    mapped_step (mark k) i out src now (get_or src i 0) p (omega arith) paired so_far (get_or_default src i 0 (get_or src i 0) lt)
    (p-is ∙ ap (λ (t : ℕ). cond (not (eqb t 0)) 1 0) there ∙ set_again (leb k (get_or src i 0)))

pub marks_done : (k i : ℕ) (out src now : List ℕ) → length src ≤ i → length out ≡ length src → now ≡ merged (λ (_ s : ℕ). mark k s) i out src → now ≡ map (mark k) src
marks_done k i out src now from paired so_far =
    so_far ∙ merged_all (λ (_ s : ℕ). mark k s) i out src (omega arith) (omega arith) ∙ mapped_all (mark k) out src paired
