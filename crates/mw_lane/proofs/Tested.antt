-- Words with a bit for each sample that passes a test, and sums of the lanes of vectors.
use Rattle.std.proofs.Common.{◌≡◌, ℕ, ◌+◌, ◌-◌, ◌*◌, ◌%◌, ◌^◌, ◌<◌, ◌≤◌, Bool, false, cond, eqb, leb, List, length, map, take, replicate, get_or, subst, ap, sym, arith, ◌∙◌}
use Rattle.std.specs.Int.{Width, bit_at}
use Rattle.std.specs.Prelude.{sum_by}
use Rattle.std.proofs.lemmas.Bool.Decides.{nat_tests}
use Rattle.std.proofs.lemmas.List.{take_all, get_or-map, map-id, length-map}
use Rattle.std.proofs.lemmas.Nat.Bits.{bit_at-zero}
use Rattle.std.proofs.lemmas.Simd.{tops_compared, zip2_splat_left, bitmask_splat, mask_l-mod, bit_mask_l, sum_fits, sum_bound, fold-sum, Each1-from_get_or}
use Rattle.mw_lane.proofs.Marks.{mark}
use mir.Val.{bits, hbits, Fits}
use lib.Lanes.{zip2, top, mask_l, sum_l, fold_l, Steps, Each1}

-- the bits of the mask of a test
bit_passed : (t : ℕ → Bool) (xs : List ℕ) (m i : ℕ) → m ≡ mask_l (map t xs) → i < length xs → bit_at m i ≡ get_or (map (λ s. cond (t s) 1 0) xs) i 0
bit_passed t xs m i m-is lt =
    ap (λ (n : ℕ). bit_at n i) m-is
    ∙ bit_mask_l (map t xs) i
    ∙ ap (λ (b : Bool). cond b 1 0) (get_or-map t xs i 0 false lt)
    ∙ sym (get_or-map (λ (s : ℕ). cond (t s) 1 0) xs i 0 0 lt)

pub bit_reached : (w : Width) (k : ℕ) (xs : List ℕ) → length xs ≡ 64 → (i : ℕ) → i < 64
    → bit_at (mask_l (map (top (hbits w)) (zip2 (λ (a b : ℕ). cond (leb a b) (2 ^ bits w - 1) 0) (replicate 64 k) (take 64 xs))) % 2 ^ 64) i ≡ get_or (map (mark k) xs) i 0
bit_reached w k xs whole i lt =
    bit_passed (leb k) xs _ i
    (ap (λ (t : List ℕ). mask_l (map (top (hbits w)) (zip2 (λ (a b : ℕ). cond (leb a b) (2 ^ bits w - 1) 0) (replicate 64 k) t)) % 2 ^ 64) (take_all 64 xs (omega arith))
    ∙ ap (λ (t : List Bool). mask_l t % 2 ^ 64) (tops_compared w leb (replicate 64 k) xs ∙ zip2_splat_left leb k 64 xs whole)
    ∙ mask_l-mod (map (leb k) xs) 64 (omega (arith, length-map xs (leb k))))
    (omega arith)

pub bit_equal : (w : Width) (v : ℕ) (xs : List ℕ) → length xs ≡ 64 → (i : ℕ) → i < 64
    → bit_at (mask_l (map (top (hbits w)) (zip2 (λ (a b : ℕ). cond (eqb a b) (2 ^ bits w - 1) 0) (take 64 xs) (replicate 64 v))) % 2 ^ 64) i ≡ get_or (map (λ s. cond (eqb s v) 1 0) xs) i 0
bit_equal w v xs whole i lt =
    bit_passed (λ (s : ℕ). eqb s v) xs _ i
    (ap (λ (t : List ℕ). mask_l (map (top (hbits w)) (zip2 (λ (a b : ℕ). cond (eqb a b) (2 ^ bits w - 1) 0) t (replicate 64 v))) % 2 ^ 64) (take_all 64 xs (omega arith))
    ∙ bitmask_splat w eqb xs 64 v whole (omega arith))
    (omega arith)

-- no sample passes
pub bit_of_none : (t : ℕ → Bool) (most : ℕ) (xs : List ℕ) → length xs ≡ 64 → ((i : ℕ) → get_or xs i 0 < most) → ((s : ℕ) → s < most → ◌≡◌ {A = ℕ} (cond (t s) 1 0) 0) → (i : ℕ) → i < 64
    → bit_at 0 i ≡ get_or (map (λ s. cond (t s) 1 0) xs) i 0
bit_of_none t most xs whole small none i lt = bit_at-zero i ∙ sym (none (get_or xs i 0) (small i)) ∙ sym (get_or-map (λ (s : ℕ). cond (t s) 1 0) xs i 0 0 (omega arith))

pub none_reach : (k s : ℕ) → s < k → ◌≡◌ {A = ℕ} (cond (leb k s) 1 0) 0
none_reach k s lt = grind (arith, nat_tests)

pub none_equal : (v s : ℕ) → s < v → ◌≡◌ {A = ℕ} (cond (eqb s v) 1 0) 0
none_equal v s lt = grind (arith, nat_tests)

-- 64 lanes that were widened
lanes_same : (xs : List ℕ) → length xs ≡ 64 → map (λ (x : ℕ). x) (take 64 xs) ≡ xs
lanes_same xs whole = map-id (take 64 xs) ∙ take_all 64 xs (omega arith)

sum_below : (w u : Width) (xs : List ℕ) → length xs ≡ 64 → ((i : ℕ) → Fits w (get_or xs i 0)) → 64 * 2 ^ bits w ≤ 2 ^ bits u → sum_l xs < 2 ^ bits u
sum_below w u xs whole small room =
    let most = 2 ^ bits w - 1 in
    let each : Each1 (λ a. a ≤ most) xs = Each1-from_get_or (λ a. a ≤ most) xs 0 (λ i _. let fits = (small i).fits in omega arith) in
    let bound : sum_l xs ≤ most * 64 = subst (λ (n : ℕ). sum_l xs ≤ most * n) whole (sum_bound most xs each) in
    let some : 0 < 2 ^ bits w = let fits = (small 0).fits in omega arith in
    omega arith

-- their sum fits, and is that of the samples
pub lanes_fit : (w u : Width) (xs : List ℕ) → length xs ≡ 64 → ((i : ℕ) → Fits w (get_or xs i 0)) → 64 * 2 ^ bits w ≤ 2 ^ bits u → Steps (λ (s x : ℕ). Fits u (s + x)) (λ (s x : ℕ). s + x) 0 (map (λ (x : ℕ). x) (take 64 xs))
lanes_fit w u xs whole small room =
    let below = sum_below w u xs whole small room in
    rw (lanes_same xs whole) (sum_fits u 0 xs (omega arith))

pub lanes_small : (w u : Width) (xs : List ℕ) → length xs ≡ 64 → ((i : ℕ) → Fits w (get_or xs i 0)) → 64 * 2 ^ bits w ≤ 2 ^ bits u → fold_l (λ (s x : ℕ). s + x) 0 (map (λ (x : ℕ). x) (take 64 xs)) < 2 ^ bits u
lanes_small w u xs whole small room =
    let below = sum_below w u xs whole small room in
    rw (lanes_same xs whole) (omega (arith, fold-sum 0 xs))

pub lanes_sum : (xs : List ℕ) → length xs ≡ 64 → fold_l (λ (s x : ℕ). s + x) 0 (map (λ (x : ℕ). x) (take 64 xs)) ≡ sum_by (λ (s : ℕ). s) xs
lanes_sum xs whole = ap (fold_l (λ (s x : ℕ). s + x) 0) (lanes_same xs whole)
