-- Lanes of wide vectors: what is loaded, stored, and the lesser and the greater of each pair.
use Rattle.std.proofs.Common.{◌≡◌, ℕ, zero, suc, ◌+◌, ◌-◌, ◌^◌, ◌<◌, ◌≤◌, min, max, cond, ltb, List, [], ◌∷◌, length, get_or, take, drop, map, refl, ap, sym, arith, ◌∙◌, length-take, length-drop, length-append, ◌++◌}
use Rattle.std.proofs.lemmas.List.{get_or-take, get_or-drop, get_or_default, get_or_append_left, get_or-append-add}
use Rattle.std.proofs.lemmas.Simd.{tops_compared, put_chunk_whole, length-zip2, get_or-chunk, length-chunk, pick_l-range_with_len}
use Rattle.std.specs.List.{range_with_len}
use Rattle.std.specs.Int.{Width}
use mir.Val.{bits, hbits}
use Rattle.mw_model.proofs.mw_facts.Numbers.{cond-min, cond-max}
use Rattle.mw_model.proofs.mw_facts.Parts.{get_or-put_mid_within}
use borrow.Rule.Slice.PartMut.{put_mid}
use lib.Lanes.{zip2, sel_l, top, chunk, put_chunk, pick_l}

lesser : (xs ys : List ℕ) → sel_l (zip2 ltb xs ys) xs ys ≡ zip2 min xs ys
lesser [] ys = refl
lesser (x ∷ xs) [] = refl
lesser (x ∷ xs) (y ∷ ys) = rw (cond-min x y, lesser xs ys) refl

greater : (xs ys : List ℕ) → sel_l (zip2 ltb xs ys) ys xs ≡ zip2 max xs ys
greater [] ys = refl
greater (x ∷ xs) [] = refl
greater (x ∷ xs) (y ∷ ys) = rw (cond-max x y, greater xs ys) refl

lane_paired : (f : ℕ → ℕ → ℕ) (xs ys : List ℕ) (i : ℕ) → f 0 0 ≡ 0 → length xs ≡ length ys → get_or (zip2 f xs ys) i 0 ≡ f (get_or xs i 0) (get_or ys i 0)
lane_paired f [] [] i none same = sym none
lane_paired f [] (y ∷ ys) i none same = absurd (omega arith)
lane_paired f (x ∷ xs) [] i none same = absurd (omega arith)
lane_paired f (x ∷ xs) (y ∷ ys) zero none same = refl
lane_paired f (x ∷ xs) (y ∷ ys) (suc i) none same = lane_paired f xs ys i none (omega arith)

abbrev pub lower_of : Width → List ℕ → List ℕ → List ℕ
lower_of w xs ys = sel_l {A = ℕ} (map (top (hbits w)) (zip2 (λ (a b : ℕ). cond (ltb a b) (2 ^ bits w - 1) 0) xs ys)) xs ys

abbrev pub higher_of : Width → List ℕ → List ℕ → List ℕ
higher_of w xs ys = sel_l {A = ℕ} (map (top (hbits w)) (zip2 (λ (a b : ℕ). cond (ltb a b) (2 ^ bits w - 1) 0) xs ys)) ys xs

pub lower_lane : (w : Width) (xs ys : List ℕ) (i n : ℕ) → length xs ≡ n → length ys ≡ n → get_or (lower_of w xs ys) i 0 ≡ min (get_or xs i 0) (get_or ys i 0)
lower_lane w xs ys i n xs-long ys-long = rw (tops_compared w ltb xs ys, lesser xs ys) (lane_paired min xs ys i refl (xs-long ∙ sym ys-long))

pub higher_lane : (w : Width) (xs ys : List ℕ) (i n : ℕ) → length xs ≡ n → length ys ≡ n → get_or (higher_of w xs ys) i 0 ≡ max (get_or xs i 0) (get_or ys i 0)
higher_lane w xs ys i n xs-long ys-long = rw (tops_compared w ltb xs ys, greater xs ys) (lane_paired max xs ys i refl (xs-long ∙ sym ys-long))

pub lower_long : (w : Width) (xs ys : List ℕ) (n : ℕ) → length xs ≡ n → length ys ≡ n → length (lower_of w xs ys) ≡ n
lower_long w xs ys n xs-long ys-long = rw (tops_compared w ltb xs ys, lesser xs ys) (length-zip2 min xs ys (omega arith) ∙ xs-long)

pub higher_long : (w : Width) (xs ys : List ℕ) (n : ℕ) → length xs ≡ n → length ys ≡ n → length (higher_of w xs ys) ≡ n
higher_long w xs ys n xs-long ys-long = rw (tops_compared w ltb xs ys, greater xs ys) (length-zip2 max xs ys (omega arith) ∙ xs-long)

pub loaded_long : (n : ℕ) (samples : List ℕ) (at : ℕ) → at + n ≤ length samples → length (chunk 0 n (take (at + n - at) (drop at samples))) ≡ n
loaded_long n samples at fits = length-chunk 0 n (take (at + n - at) (drop at samples)) (omega (arith, length-take (at + n - at) (drop at samples), length-drop at samples))

pub loaded_lane : (n : ℕ) (samples : List ℕ) (at i d : ℕ) → at + n ≤ length samples → i < n → get_or (chunk 0 n (take (at + n - at) (drop at samples))) i 0 ≡ get_or samples (at + i) d
loaded_lane n samples at i d fits lt =
    get_or-chunk 0 n (take (at + n - at) (drop at samples)) i 0 lt
    ∙ ap (λ (t : ℕ). get_or (take (at + n - at) (drop at samples)) t 0) (let same : 0 + i ≡ i = omega arith in same)
    ∙ get_or-take (at + n - at) (drop at samples) i 0 (omega arith)
    ∙ get_or-drop at samples i 0
    ∙ get_or_default samples (at + i) 0 d (omega arith)

part_whole : (n : ℕ) (out lanes : List ℕ) (at : ℕ) → at + n ≤ length out → length lanes ≡ n → put_chunk 0 (take (at + n - at) (drop at out)) lanes ≡ lanes
part_whole n out lanes at fits long = put_chunk_whole (take (at + n - at) (drop at out)) lanes (omega (arith, length-take (at + n - at) (drop at out), length-drop at out))

pub stored_lane : (n : ℕ) (out lanes : List ℕ) (at i d : ℕ) → at + n ≤ length out → length lanes ≡ n → i < n
    → get_or (put_mid at (at + n - at) out (put_chunk 0 (take (at + n - at) (drop at out)) lanes)) (at + i) d ≡ get_or lanes i 0
stored_lane n out lanes at i d fits long lt =
    ap (λ (l : List ℕ). get_or (put_mid at (at + n - at) out l) (at + i) d) (part_whole n out lanes at fits long)
    ∙ get_or-put_mid_within at (at + n - at) out lanes (at + i) d (omega arith) (omega arith) (omega arith)
    ∙ ap (λ (t : ℕ). get_or lanes t d) (let same : at + i - at ≡ i = omega arith in same)
    ∙ get_or_default lanes i d 0 (omega arith)

-- the lanes of two vectors behind one another from number `by` on

abbrev pub lanes_from : ℕ → ℕ → List ℕ → List ℕ → List ℕ
lanes_from n by xs ys = pick_l 0 (xs ++ ys) (range_with_len by n)

pub ahead_long : (n by : ℕ) (xs ys : List ℕ) → by ≤ n → length xs ≡ n → length ys ≡ n → length (lanes_from n by xs ys) ≡ n
ahead_long n by xs ys small xs-long ys-long =
    let fits : by + n ≤ length (xs ++ ys) = omega (arith, length-append xs ys) in
    ap length (pick_l-range_with_len 0 (xs ++ ys) by n fits) ∙ length-chunk by n (xs ++ ys) fits

pub ahead_lane : (n by : ℕ) (xs ys : List ℕ) (i : ℕ) → by ≤ n → length xs ≡ n → length ys ≡ n → i < n
    → (i + by < n → get_or (lanes_from n by xs ys) i 0 ≡ get_or xs (i + by) 0) × (n ≤ i + by → get_or (lanes_from n by xs ys) i 0 ≡ get_or ys (i + by - n) 0)
ahead_lane n by xs ys i small xs-long ys-long lt =
    let fits : by + n ≤ length (xs ++ ys) = omega (arith, length-append xs ys) in
    let place : by + i ≡ i + by = omega arith in
    let picked : get_or (lanes_from n by xs ys) i 0 ≡ get_or (xs ++ ys) (i + by) 0 =
    ap (λ (l : List ℕ). get_or l i 0) (pick_l-range_with_len 0 (xs ++ ys) by n fits) ∙ get_or-chunk by n (xs ++ ys) i 0 lt ∙ ap (λ (p : ℕ). get_or (xs ++ ys) p 0) place in (
      λ near. picked ∙ get_or_append_left xs ys 0 (i + by) (omega arith),
      λ far.
          let behind : i + by ≡ length xs + (i + by - n) = omega arith in
          picked ∙ ap (λ (p : ℕ). get_or (xs ++ ys) p 0) behind ∙ get_or-append-add xs ys (i + by - n) 0,
    )
