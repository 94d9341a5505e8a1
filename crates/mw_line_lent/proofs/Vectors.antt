-- Lanes of vectors: what is loaded, stored, and the lesser and the greater of each pair.
use Rattle.std.proofs.Common.{◌≡◌, ℕ, zero, suc, ◌+◌, ◌-◌, ◌%◌, ◌^◌, ◌<◌, ◌≤◌, min, max, cond, ltb, List, [], ◌∷◌, length, get_or, take, drop, map, replicate, refl, ap, sym, arith, ◌∙◌, length-take, length-drop}
use Rattle.std.proofs.lemmas.List.{get_or-take, get_or-drop, get_or_default, length-replicate}
use Rattle.std.proofs.lemmas.Simd.{tops_compared, put_chunk_whole, length-zip2, get_or-chunk, length-chunk}
use Rattle.std.specs.Int.{Width, w8, w16}
use mir.Val.{bits, hbits}
use Rattle.mw_model.proofs.mw_facts.Elements.{get_or-replicate_same}
use Rattle.mw_model.proofs.mw_facts.Numbers.{cond-min, cond-max}
use Rattle.mw_model.proofs.mw_facts.Parts.{get_or-put_mid_within, get_or-put_mid_above}
use borrow.Rule.Slice.PartMut.{put_mid}
use lib.Lanes.{zip2, sel_l, top, chunk, put_chunk}

lesser : (xs ys : List ℕ) → sel_l (zip2 ltb xs ys) xs ys ≡ zip2 min xs ys
lesser [] ys = refl
lesser (x ∷ xs) [] = refl
lesser (x ∷ xs) (y ∷ ys) = rw (cond-min x y, lesser xs ys) refl

greater : (xs ys : List ℕ) → sel_l (zip2 ltb xs ys) ys xs ≡ zip2 max xs ys
greater [] ys = refl
greater (x ∷ xs) [] = refl
greater (x ∷ xs) (y ∷ ys) = rw (cond-max x y, greater xs ys) refl

lane_paired : (f : ℕ → ℕ → ℕ) (xs ys : List ℕ) (i : ℕ) → f 0 0 ≡ 0 → length xs ≡ length ys → get_or (zip2 f xs ys) i 0 ≡ f (get_or xs i 0) (get_or ys i 0)
lane_paired f [] [] i none same = sym none
lane_paired f [] (y ∷ ys) i none same = absurd (omega arith)
lane_paired f (x ∷ xs) [] i none same = absurd (omega arith)
lane_paired f (x ∷ xs) (y ∷ ys) zero none same = refl
lane_paired f (x ∷ xs) (y ∷ ys) (suc i) none same = lane_paired f xs ys i none (omega arith)

abbrev pub lower_of : Width → List ℕ → List ℕ → List ℕ
lower_of w xs ys = sel_l {A = ℕ} (map (top (hbits w)) (zip2 (λ (a b : ℕ). cond (ltb a b) (2 ^ bits w - 1) 0) xs ys)) xs ys

abbrev pub higher_of : Width → List ℕ → List ℕ → List ℕ
higher_of w xs ys = sel_l {A = ℕ} (map (top (hbits w)) (zip2 (λ (a b : ℕ). cond (ltb a b) (2 ^ bits w - 1) 0) xs ys)) ys xs

pub lower_lane : (w : Width) (xs ys : List ℕ) (i n : ℕ) → length xs ≡ n → length ys ≡ n → get_or (lower_of w xs ys) i 0 ≡ min (get_or xs i 0) (get_or ys i 0)
lower_lane w xs ys i n xs-long ys-long = rw (tops_compared w ltb xs ys, lesser xs ys) (lane_paired min xs ys i refl (xs-long ∙ sym ys-long))

pub higher_lane : (w : Width) (xs ys : List ℕ) (i n : ℕ) → length xs ≡ n → length ys ≡ n → get_or (higher_of w xs ys) i 0 ≡ max (get_or xs i 0) (get_or ys i 0)
higher_lane w xs ys i n xs-long ys-long = rw (tops_compared w ltb xs ys, greater xs ys) (lane_paired max xs ys i refl (xs-long ∙ sym ys-long))

pub lower_long : (w : Width) (xs ys : List ℕ) (n : ℕ) → length xs ≡ n → length ys ≡ n → length (lower_of w xs ys) ≡ n
lower_long w xs ys n xs-long ys-long = rw (tops_compared w ltb xs ys, lesser xs ys) (length-zip2 min xs ys (omega arith) ∙ xs-long)

pub higher_long : (w : Width) (xs ys : List ℕ) (n : ℕ) → length xs ≡ n → length ys ≡ n → length (higher_of w xs ys) ≡ n
higher_long w xs ys n xs-long ys-long = rw (tops_compared w ltb xs ys, greater xs ys) (length-zip2 max xs ys (omega arith) ∙ xs-long)

pub loaded_long : (n : ℕ) (samples : List ℕ) (at : ℕ) → at + n ≤ length samples → length (chunk 0 n (take (at + n - at) (drop at samples))) ≡ n
loaded_long n samples at fits = length-chunk 0 n (take (at + n - at) (drop at samples)) (omega (arith, length-take (at + n - at) (drop at samples), length-drop at samples))

pub loaded_lane : (n : ℕ) (samples : List ℕ) (at i d : ℕ) → at + n ≤ length samples → i < n → get_or (chunk 0 n (take (at + n - at) (drop at samples))) i 0 ≡ get_or samples (at + i) d
loaded_lane n samples at i d fits lt =
    get_or-chunk 0 n (take (at + n - at) (drop at samples)) i 0 lt
    ∙ ap (λ (t : ℕ). get_or (take (at + n - at) (drop at samples)) t 0) (let same : 0 + i ≡ i = omega arith in same)
    ∙ get_or-take (at + n - at) (drop at samples) i 0 (omega arith)
    ∙ get_or-drop at samples i 0
    ∙ get_or_default samples (at + i) 0 d (omega arith)

part_whole : (n : ℕ) (out lanes : List ℕ) (at : ℕ) → at + n ≤ length out → length lanes ≡ n → put_chunk 0 (take (at + n - at) (drop at out)) lanes ≡ lanes
part_whole n out lanes at fits long = put_chunk_whole (take (at + n - at) (drop at out)) lanes (omega (arith, length-take (at + n - at) (drop at out), length-drop at out))

pub stored_lane : (n : ℕ) (out lanes : List ℕ) (at i d : ℕ) → at + n ≤ length out → length lanes ≡ n → i < n
    → get_or (put_mid at (at + n - at) out (put_chunk 0 (take (at + n - at) (drop at out)) lanes)) (at + i) d ≡ get_or lanes i 0
stored_lane n out lanes at i d fits long lt =
    ap (λ (l : List ℕ). get_or (put_mid at (at + n - at) out l) (at + i) d) (part_whole n out lanes at fits long)
    ∙ get_or-put_mid_within at (at + n - at) out lanes (at + i) d (omega arith) (omega arith) (omega arith)
    ∙ ap (λ (t : ℕ). get_or lanes t d) (let same : at + i - at ≡ i = omega arith in same)
    ∙ get_or_default lanes i d 0 (omega arith)

pub stored_behind : (n : ℕ) (out lanes : List ℕ) (at p d : ℕ) → at + n ≤ length out → length lanes ≡ n → at + n ≤ p
    → get_or (put_mid at (at + n - at) out (put_chunk 0 (take (at + n - at) (drop at out)) lanes)) p d ≡ get_or out p d
stored_behind n out lanes at p d fits long le =
    ap (λ (l : List ℕ). get_or (put_mid at (at + n - at) out l) p d) (part_whole n out lanes at fits long)
    ∙ get_or-put_mid_above at (at + n - at) out lanes p d (omega arith) (omega arith) (omega arith)

pub filled_lane : (n k i : ℕ) → i < n → get_or (replicate n k) i 0 ≡ k
filled_lane n k i lt = get_or_default (replicate n k) i 0 k (omega (arith, length-replicate n k)) ∙ get_or-replicate_same n i k

wrapped_8 : (x y : ℕ) → x < 256 → y < 256 → (max x y + (256 - y)) % 256 ≡ x - y
wrapped_8 x y p q = omega arith

wrapped_16 : (x y : ℕ) → x < 65536 → y < 65536 → (max x y + (65536 - y)) % 65536 ≡ x - y
wrapped_16 x y p q = omega arith

pub less_lane_8 : (xs ys : List ℕ) (i : ℕ) → length xs ≡ 32 → length ys ≡ 32 → get_or xs i 0 < 256 → get_or ys i 0 < 256
    → get_or (zip2 (λ (x y : ℕ). (x + (256 - y)) % 256) (higher_of w8 xs ys) ys) i 0 ≡ get_or xs i 0 - get_or ys i 0
less_lane_8 xs ys i xs-long ys-long xs-fit ys-fit =
    lane_paired (λ (x y : ℕ). (x + (256 - y)) % 256) (higher_of w8 xs ys) ys i refl (higher_long w8 xs ys 32 xs-long ys-long ∙ sym ys-long)
    ∙ ap (λ (t : ℕ). (t + (256 - get_or ys i 0)) % 256) (higher_lane w8 xs ys i 32 xs-long ys-long)
    ∙ wrapped_8 (get_or xs i 0) (get_or ys i 0) xs-fit ys-fit

pub less_lane_16 : (xs ys : List ℕ) (i : ℕ) → length xs ≡ 16 → length ys ≡ 16 → get_or xs i 0 < 65536 → get_or ys i 0 < 65536
    → get_or (zip2 (λ (x y : ℕ). (x + (65536 - y)) % 65536) (higher_of w16 xs ys) ys) i 0 ≡ get_or xs i 0 - get_or ys i 0
less_lane_16 xs ys i xs-long ys-long xs-fit ys-fit =
    lane_paired (λ (x y : ℕ). (x + (65536 - y)) % 65536) (higher_of w16 xs ys) ys i refl (higher_long w16 xs ys 16 xs-long ys-long ∙ sym ys-long)
    ∙ ap (λ (t : ℕ). (t + (65536 - get_or ys i 0)) % 65536) (higher_lane w16 xs ys i 16 xs-long ys-long)
    ∙ wrapped_16 (get_or xs i 0) (get_or ys i 0) xs-fit ys-fit

pub less_long : (less : ℕ → ℕ → ℕ) (w : Width) (xs ys : List ℕ) (n : ℕ) → length xs ≡ n → length ys ≡ n → length (zip2 less (higher_of w xs ys) ys) ≡ n
less_long less w xs ys n xs-long ys-long =
    length-zip2 less (higher_of w xs ys) ys (higher_long w xs ys n xs-long ys-long ∙ sym ys-long) ∙ higher_long w xs ys n xs-long ys-long
