-- Blocks of words and their bytes, lane by lane.
use Rattle.std.proofs.Common.{◌≡◌, ℕ, zero, suc, ◌+◌, ◌-◌, ◌*◌, ◌/◌, ◌%◌, ◌^◌, ◌<◌, ◌≤◌, cond, ltb, max, fold, List, [], ◌∷◌, ◌++◌, length, map, take, drop, replicate, get_or, refl, sym, ap, ◌∙◌, arith, w8, w16, Fits}
use Rattle.std.proofs.lemmas.List.{take_all, length-take-le}
use Rattle.std.proofs.lemmas.Simd.{Each1-from_get_or, tops_compared}
use Rattle.std.specs.List.{flat_map}
use lib.Lanes.{zip2, sel_l, Each1, chunk, number_l, digits_l, top}
use mir.Val.{bits, hbits}
use Rattle.mw_model.proofs.mw_facts.Numbers.{cond-max}
use Rattle.mw_model.specs.NetpbmWriting.{two_bytes}
use Rattle.mw_netpbm.specs.Rasters.{two_byte_samples}
use Rattle.mw_netpbm.specs.Swapping.{swap}
use Rattle.mw_netpbm.proofs.Sides.{words_length}

swap_lane : (s : ℕ) → s < 65536 → (s * 2 ^ 8 % 2 ^ 16 + s / 2 ^ 8) % 2 ^ 16 ≡ swap s
swap_lane s small = omega arith

-- both shifts by eight bits, added, lane by lane
pub swap_lanes : (n : ℕ) (xs : List ℕ) → length xs ≡ n → Each1 (Fits w16) xs
    → zip2 (λ a b. (a + b) % 2 ^ 16) (zip2 (λ a b. a * 2 ^ b % 2 ^ 16) xs (replicate n 8)) (zip2 (λ a b. a / 2 ^ b) xs (replicate n 8)) ≡ map swap xs
swap_lanes zero [] len fits = refl
swap_lanes zero (x ∷ xs) len fits = absurd (omega arith)
swap_lanes (suc n) [] len fits = refl
swap_lanes (suc n) (x ∷ xs) len fits = rw (swap_lane x fits.0.fits, swap_lanes n xs (omega arith) fits.1) refl

-- bytes as words of the processor, swapped, are the words that they spell
pub swapped_words : (n : ℕ) (bytes : List ℕ) → length bytes ≡ n + n → Each1 (Fits w8) bytes → map swap (digits_l 65536 n (number_l 256 bytes)) ≡ two_byte_samples bytes
unfolding two_byte_samples
swapped_words zero [] len fits = refl
swapped_words zero (b ∷ bs) len fits = absurd (omega arith)
swapped_words (suc n) [] len fits = absurd (omega arith)
swapped_words (suc n) (a ∷ []) len fits = absurd (omega arith)
swapped_words (suc n) (a ∷ b ∷ bs) len fits =
    let rest = number_l 256 bs in
    let low = fits.0.fits in
    let high = fits.1.0.fits in
    let first : swap ((a + 256 * (b + 256 * rest)) % 65536) ≡ a * 256 + b = omega arith in
    let others : (a + 256 * (b + 256 * rest)) / 65536 ≡ rest = omega arith in
    rw (first, others, swapped_words n bs (omega arith) fits.1.1) refl

-- words, swapped, are as bytes of the processor the bytes that spell them
pub swapped_bytes : (n : ℕ) (words : List ℕ) → length words ≡ n → Each1 (Fits w16) words → digits_l 256 (n + n) (number_l 65536 (map swap words)) ≡ flat_map two_bytes words
swapped_bytes zero [] len fits = refl
swapped_bytes zero (w ∷ ws) len fits = absurd (omega arith)
swapped_bytes (suc n) [] len fits = absurd (omega arith)
swapped_bytes (suc n) (w ∷ ws) len fits =
    let rest = number_l 65536 (map swap ws) in
    let small = fits.0.fits in
    let count : suc n + suc n ≡ suc (suc (n + n)) = omega arith in
    let high : (swap w + 65536 * rest) % 256 ≡ w / 256 = omega arith in
    let low : (swap w + 65536 * rest) / 256 % 256 ≡ w % 256 = omega arith in
    let others : (swap w + 65536 * rest) / 256 / 256 ≡ rest = omega arith in
    ap (λ k. digits_l 256 k (swap w + 65536 * rest)) count ∙ rw (high, low, others, swapped_bytes n ws (omega arith) fits.1) refl

-- words loaded from the first lanes of slices
pub words_loaded : (bytes words : List ℕ) → length bytes ≡ 64 → ((k : ℕ) → Fits w8 (get_or bytes k 0)) → words ≡ map swap (digits_l 65536 32 (number_l 256 (chunk 0 64 bytes))) → words ≡ two_byte_samples bytes
words_loaded bytes words long fits is =
    let whole : chunk 0 64 bytes ≡ bytes = take_all 64 bytes (omega arith) in
    is ∙ ap (λ (bs : List ℕ). map swap (digits_l 65536 32 (number_l 256 bs))) whole ∙ swapped_words 32 bytes long (Each1-from_get_or (Fits w8) bytes 0 (λ k lt. fits k))

pub bytes_stored : (samples words : List ℕ) → length samples ≡ 32 → ((k : ℕ) → Fits w16 (get_or samples k 0)) → words ≡ map swap (chunk 0 32 samples) → digits_l 256 64 (number_l 65536 words) ≡ flat_map two_bytes samples
bytes_stored samples words long fits is =
    let whole : chunk 0 32 samples ≡ samples = take_all 32 samples (omega arith) in
    ap (λ (ws : List ℕ). digits_l 256 64 (number_l 65536 ws)) (is ∙ ap (map swap) whole) ∙ swapped_bytes 32 samples long (Each1-from_get_or (Fits w16) samples 0 (λ k lt. fits k))

-- ---- block by block

pub words_split : (n : ℕ) (bytes : List ℕ) → n + n ≤ length bytes → two_byte_samples bytes ≡ two_byte_samples (take (n + n) bytes) ++ two_byte_samples (drop (n + n) bytes)
unfolding two_byte_samples
words_split zero bytes le = refl
words_split (suc n) [] le = absurd (omega arith)
words_split (suc n) (a ∷ []) le = absurd (omega arith)
words_split (suc n) (a ∷ b ∷ bs) le =
    let more : suc n + suc n ≡ suc (suc (n + n)) = omega arith in
    rw more (ap (λ (ws : List ℕ). (a * 256 + b) ∷ ws) (words_split n bs (omega arith)))

fold_max : (xs : List ℕ) (a b : ℕ) → fold max (max a b) xs ≡ max a (fold max b xs)
fold_max [] a b = refl
fold_max (x ∷ xs) a b = ap (λ m. fold max m xs) (omega arith) ∙ fold_max xs a (max b x)

-- the greatest of each pair of lanes
fold_lanes : (xs ys : List ℕ) → length xs ≡ length ys → fold max 0 (sel_l (zip2 ltb xs ys) ys xs) ≡ max (fold max 0 xs) (fold max 0 ys)
fold_lanes [] [] e = refl
fold_lanes [] (y ∷ ys) e = absurd (omega arith)
fold_lanes (x ∷ xs) [] e = absurd (omega arith)
fold_lanes (x ∷ xs) (y ∷ ys) e =
    ap (λ m. fold max (max 0 m) (sel_l (zip2 ltb xs ys) ys xs)) (cond-max x y) ∙ ap (λ m. fold max m (sel_l (zip2 ltb xs ys) ys xs)) (omega arith)
    ∙ fold_max (sel_l (zip2 ltb xs ys) ys xs) (max x y) 0 ∙ ap (max (max x y)) (fold_lanes xs ys (omega arith)) ∙ omega (arith, first x xs, first y ys)
  where
    first : (x : ℕ) (xs : List ℕ) → fold max (max 0 x) xs ≡ max x (fold max 0 xs)
    first x xs = ap (λ m. fold max m xs) (let e : max 0 x ≡ max x 0 = omega arith in e) ∙ fold_max xs x 0

-- the lanes after one block more
pub lanes_more : (lanes words bytes front after : List ℕ) (total : ℕ) → 64 ≤ length bytes → front ≡ take 64 bytes → after ≡ drop 64 bytes → length lanes ≡ 32 → words ≡ two_byte_samples front → fold max (fold max 0 lanes) (two_byte_samples bytes) ≡ total
    → fold max (fold max 0 (sel_l (map (top (hbits w16)) (zip2 (λ a b. cond (ltb a b) (2 ^ bits w16 - 1) 0) lanes words)) words lanes)) (two_byte_samples after) ≡ total
lanes_more lanes words bytes front after total le front-is after-is long is so_far =
    let paired : length lanes ≡ length words = omega (arith, ap length is, ap (λ (bs : List ℕ). length (two_byte_samples bs)) front-is, words_length 32 (take 64 bytes) (omega (arith, length-take-le 64 bytes le))) in
    let words-are : words ≡ two_byte_samples (take 64 bytes) = is ∙ ap two_byte_samples front-is in
    let joined : fold max (fold max 0 lanes) (two_byte_samples (take 64 bytes) ++ two_byte_samples (drop 64 bytes)) ≡ total = ap (fold max (fold max 0 lanes)) (sym (words_split 32 bytes le)) ∙ so_far in
    ap (λ ms. fold max (fold max 0 (sel_l ms words lanes)) (two_byte_samples after)) (tops_compared w16 ltb lanes words)
    ∙ ap (λ m. fold max m (two_byte_samples after)) (fold_lanes lanes words paired)
    ∙ ap (λ (ws : List ℕ). fold max (max (fold max 0 lanes) (fold max 0 ws)) (two_byte_samples after)) words-are
    ∙ ap (λ (bs : List ℕ). fold max (max (fold max 0 lanes) (fold max 0 (two_byte_samples (take 64 bytes)))) (two_byte_samples bs)) after-is
    ∙ ap (λ m. fold max m (two_byte_samples (drop 64 bytes))) (sym (fold_from (two_byte_samples (take 64 bytes)) (fold max 0 lanes)))
    ∙ sym (fold_append (two_byte_samples (take 64 bytes)) (two_byte_samples (drop 64 bytes)) (fold max 0 lanes)) ∙ joined
  where
    fold_from : (xs : List ℕ) (a : ℕ) → fold max a xs ≡ max a (fold max 0 xs)
    fold_from xs a = ap (λ m. fold max m xs) (let e : a ≡ max a 0 = omega arith in e) ∙ fold_max xs a 0

    fold_append : (xs ys : List ℕ) (a : ℕ) → fold max a (xs ++ ys) ≡ fold max (fold max a xs) ys
    fold_append [] ys a = refl
    fold_append (x ∷ xs) ys a = fold_append xs ys (max a x)
