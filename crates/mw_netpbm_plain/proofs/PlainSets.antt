-- Plain pixels that are read into words.
use Rattle.std.proofs.Common.{◌≡◌, ℕ, zero, suc, ◌+◌, ◌-◌, ◌*◌, ◌/◌, ◌%◌, ◌^◌, ◌<◌, ◌≤◌, min, Some, None, List, [], ◌∷◌, ◌++◌, length, take, drop, Result, Ok, Err, refl, sym, ap, subst, ◌∙◌, arith, append_assoc, inl, inr}
use Rattle.std.specs.Simd.Lanes.{number_l}
use Rattle.std.proofs.Math.Nat.{pow-succ'}
use Rattle.std.proofs.lemmas.Bool.{cases_lt}
use Rattle.std.proofs.lemmas.Nat.{one_shl, pow_below}
use Rattle.std.proofs.lemmas.List.{append-nil, nil_from_length, take_all, take_at, drop_at}
use Rattle.std.proofs.lemmas.List.Elements.{recursion_from_All}
use Rattle.mw_model.specs.Rasters.{raster}
use Rattle.mw_pixel.specs.mw_pixel_words.Packed.{samples_of, IsPacked}
use Rattle.mw_netpbm_plain.specs.declared.fault.ReadFault.{ReadFault}
use Rattle.mw_netpbm_plain.specs.declared.fault.ReadFault.TheVariants.{NoMemory}
use Rattle.mw_netpbm_plain.specs.Reading.{◌>>=◌, Fails, fault_alone}
use Rattle.mw_netpbm_plain.specs.Plain.{plain_at, tail_at, pixel_in_text, front_at}
use Rattle.mw_netpbm_plain.specs.SetWords.{in_words, in_rows, word_at}
use Rattle.mw_netpbm_plain.specs.Whole.{raster_from}
use Rattle.mw_netpbm_plain.proofs.Sides.{bind_ok, ok_is}
use Rattle.mw_netpbm_plain.proofs.PlainLoop.{with_front, all_filled, tail_filled}
use Rattle.mw_netpbm_plain.proofs.InWords.{words_append, rows_are_packed, rows_samples}
use Rattle.mw_netpbm_plain.proofs.Numbered.{doubled}
use Rattle.mw_netpbm_plain.proofs.Whole.{pixels_fit}

-- ---- fronts

same_pixel : (m n : ℕ) (bytes : List ℕ) → pixel_in_text m bytes ≡ pixel_in_text n bytes
unfolding pixel_in_text
same_pixel m n bytes = refl

-- a pixel before those at the front
abbrev one_before : ℕ → Result (List ℕ × List ℕ) ReadFault → Result (List ℕ × List ℕ) ReadFault
one_before x front = front >>= λ o. Ok (x ∷ o.0, o.1)

-- a pixel, and so many behind it
abbrev after_pixel : ℕ → Result (ℕ × List ℕ) ReadFault → Result (List ℕ × List ℕ) ReadFault
after_pixel n pixel = pixel >>= λ first. one_before first.0 (front_at n first.1)

-- the first of so many pixels at the front
front_more : (n : ℕ) (bytes after : List ℕ) (x : ℕ) → pixel_in_text 0 bytes ≡ Ok (x, after) → front_at (suc n) bytes ≡ one_before x (front_at n after)
unfolding front_at
front_more n bytes after x is = ap (after_pixel n) (same_pixel n 0 bytes ∙ is)

front_fault : (n : ℕ) (bytes : List ℕ) (d : ReadFault) → pixel_in_text 0 bytes ≡ Err d → front_at (suc n) bytes ≡ Err d
unfolding front_at
front_fault n bytes d is = ap (after_pixel n) (same_pixel n 0 bytes ∙ is)

-- pixels before those at the front
abbrev joined : List ℕ → Result (List ℕ × List ℕ) ReadFault → Result (List ℕ × List ℕ) ReadFault
joined xs front = front >>= λ o. Ok (xs ++ o.0, o.1)

-- pixels at the front, and so many behind them
abbrev then_front : ℕ → Result (List ℕ × List ℕ) ReadFault → Result (List ℕ × List ℕ) ReadFault
then_front m front = front >>= λ f. joined f.0 (front_at m f.1)

joined_nil : (front : Result (List ℕ × List ℕ) ReadFault) → front ≡ joined [] front
joined_nil (Ok o) = refl
joined_nil (Err d) = refl

joined_more : (x : ℕ) (xs : List ℕ) (front : Result (List ℕ × List ℕ) ReadFault) → one_before x (joined xs front) ≡ joined (x ∷ xs) front
joined_more x xs (Ok o) = refl
joined_more x xs (Err d) = refl

first_joined : (m x : ℕ) (front : Result (List ℕ × List ℕ) ReadFault) → one_before x (then_front m front) ≡ then_front m (one_before x front)
first_joined m x (Ok f) = joined_more x f.0 (front_at m f.1)
first_joined m x (Err d) = refl

then_joined : (n m : ℕ) (pixel : Result (ℕ × List ℕ) ReadFault) → ((bytes : List ℕ) → front_at (n + m) bytes ≡ then_front m (front_at n bytes)) → after_pixel (n + m) pixel ≡ then_front m (after_pixel n pixel)
then_joined n m (Ok p) parts = ap (one_before p.0) (parts p.1) ∙ first_joined m p.0 (front_at n p.1)
then_joined n m (Err d) parts = refl

front_parts : (n m : ℕ) (bytes : List ℕ) → front_at (n + m) bytes ≡ then_front m (front_at n bytes)
unfolding front_at
front_parts zero m bytes = let count : 0 + m ≡ m = omega arith in ap (λ (k : ℕ). front_at k bytes) count ∙ joined_nil (front_at m bytes)
front_parts (suc n) m bytes =
    let count : suc n + m ≡ suc (n + m) = omega arith in
    ap (λ (k : ℕ). front_at k bytes) count ∙ ap (after_pixel (n + m)) (same_pixel (n + m) n bytes) ∙ then_joined n m (pixel_in_text n bytes) (front_parts n m)

pub front_length : (n : ℕ) (bytes : List ℕ) (f : List ℕ × List ℕ) → front_at n bytes ≡ Ok f → length f.0 ≡ n
unfolding front_at
front_length zero bytes f is = ap (λ (g : List ℕ × List ℕ). length g.0) (sym (ok_is ([], bytes) f is))
front_length (suc n) bytes f is =
    let a = bind_ok (pixel_in_text n bytes) (λ first. front_at n first.1 >>= λ others. Ok (first.0 ∷ others.0, others.1)) f is in
    let b = bind_ok (front_at n a.0.1) (λ others. Ok (a.0.0 ∷ others.0, others.1)) f a.2 in
    ap (λ (g : List ℕ × List ℕ). length g.0) (sym (ok_is (a.0.0 ∷ b.0.0, b.0.1) f b.2)) ∙ ap suc (front_length n a.0.1 b.0 b.1)

-- ---- a word

-- pixels as a word
abbrev counted : Result (List ℕ × List ℕ) ReadFault → Result (ℕ × List ℕ) ReadFault
counted front = front >>= λ f. Ok (number_l 2 f.0, f.1)

-- a pixel moved to its place
pub shifted : (s i : ℕ) → s ≤ 1 → i < 64 → s * 2 ^ i % 2 ^ 64 ≡ s * 2 ^ i
shifted zero i le lt = let none : 0 * 2 ^ i ≡ 0 = omega arith in ap (λ (n : ℕ). n % 2 ^ 64) none ∙ sym none
shifted (suc zero) i le lt = one_shl i 64 lt ∙ omega arith
shifted (suc (suc s)) i le lt = absurd (omega arith)

once : (s i : ℕ) → s ≤ 1 → s * 2 ^ i ≤ 2 ^ i
once zero i le = omega arith
once (suc zero) i le = omega arith
once (suc (suc s)) i le = absurd (omega arith)

pub grown : (word s i : ℕ) → word < 2 ^ i → s ≤ 1 → i < 64 → word + s * 2 ^ i % 2 ^ 64 < 2 ^ (i + 1)
grown word s i less le lt =
    let next : i + 1 ≡ suc i = omega arith in
    let twice : 2 ^ (i + 1) ≡ 2 * 2 ^ i = ap (λ (k : ℕ). 2 ^ k) next ∙ pow-succ' 2 i in
    omega (arith, less, twice, shifted s i le lt, once s i le)

pub fits_word : (n i : ℕ) → n < 2 ^ (i + 1) → i < 64 → n < 2 ^ 64
fits_word n i less lt =
    elim (cases_lt (i + 1) 64) [
      | inl below ↦ omega (arith, less, pow_below (i + 1) 64 below)
      | inr last ↦ let whole : i + 1 ≡ 64 = omega arith in subst (λ (k : ℕ). n < 2 ^ k) whole less
    ]

-- a word so far, and the pixels from a bit of it on
abbrev pub numbered : ℕ → ℕ → Result (List ℕ × List ℕ) ReadFault → Result (ℕ × List ℕ) ReadFault
numbered word i front = front >>= λ f. Ok (word + 2 ^ i * number_l 2 f.0, f.1)

sums : (i word new s n : ℕ) → new ≡ word + s * 2 ^ i → word + 2 ^ i * (s + 2 * n) ≡ new + 2 ^ (i + 1) * n
sums i word new s n new-is =
    let next : i + 1 ≡ suc i = omega arith in
    let twice : 2 ^ (i + 1) * n ≡ 2 * (2 ^ i * n) = ap (λ (k : ℕ). 2 ^ k * n) next ∙ doubled i n in
    omega (arith, twice, new-is)

same_sum : (i word new s : ℕ) → new ≡ word + s * 2 ^ i → (front : Result (List ℕ × List ℕ) ReadFault) → numbered word i (one_before s front) ≡ numbered new (i + 1) front
same_sum i word new s new-is (Ok f) =
    let made : ℕ → Result (ℕ × List ℕ) ReadFault = λ n. Ok (n, f.1) in
    ap made (sums i word new s (number_l 2 f.0) new-is)
same_sum i word new s new-is (Err d) = refl

pub one_pixel_more : (count i word new s : ℕ) (bytes after : List ℕ) (total : Result (ℕ × List ℕ) ReadFault) → i < count → pixel_in_text 0 bytes ≡ Ok (s, after) → new ≡ word + s * 2 ^ i
    → numbered word i (front_at (count - i) bytes) ≡ total → numbered new (i + 1) (front_at (count - (i + 1)) after) ≡ total
one_pixel_more count i word new s bytes after total lt is new-is so_far =
    let left = count - (i + 1) in
    let k : suc (count - (i + 1)) ≡ count - i = omega arith in
    sym (same_sum i word new s new-is (front_at left after))
    ∙ sym (ap (numbered word i) (front_more left bytes after s is))
    ∙ ap (λ (n : ℕ). numbered word i (front_at n bytes)) k
    ∙ so_far

pub fault_pixel : (count i word : ℕ) (bytes : List ℕ) (d : ReadFault) (total : Result (ℕ × List ℕ) ReadFault) → i < count → pixel_in_text 0 bytes ≡ Err d → numbered word i (front_at (count - i) bytes) ≡ total → Err d ≡ total
fault_pixel count i word bytes d total lt is so_far =
    let k : count - i ≡ suc (count - (i + 1)) = omega arith in
    sym (ap (numbered word i) (ap (λ (n : ℕ). front_at n bytes) k ∙ front_fault (count - (i + 1)) bytes d is)) ∙ so_far

pub all_pixels : (count i word : ℕ) (bytes : List ℕ) (total : Result (ℕ × List ℕ) ReadFault) → count ≤ i → numbered word i (front_at (count - i) bytes) ≡ total → Ok (word, bytes) ≡ total
unfolding front_at
all_pixels count i word bytes total le so_far =
    let none : 0 ≡ count - i = omega arith in
    let alone : word ≡ word + 2 ^ i * 0 = omega arith in
    let made : ℕ → Result (ℕ × List ℕ) ReadFault = λ n. Ok (n, bytes) in
    ap made alone ∙ ap (λ (n : ℕ). numbered word i (front_at n bytes)) none ∙ so_far

one_pixel : (n : ℕ) → n ≡ 0 + 2 ^ 0 * n
one_pixel n = omega arith

none_yet : (front : Result (List ℕ × List ℕ) ReadFault) → numbered 0 0 front ≡ counted front
none_yet (Ok f) = let made : ℕ → Result (ℕ × List ℕ) ReadFault = λ n. Ok (n, f.1) in ap made (sym (one_pixel (number_l 2 f.0)))
none_yet (Err d) = refl

pub no_pixels : (count : ℕ) (bytes : List ℕ) → numbered 0 0 (front_at (count - 0) bytes) ≡ word_at count bytes
no_pixels count bytes = let all : count - 0 ≡ count = omega arith in ap (λ (n : ℕ). numbered 0 0 (front_at n bytes)) all ∙ none_yet (front_at count bytes)

-- ---- a row

-- the words so far, and those of pixels
abbrev worded : List ℕ → ℕ → Result (List ℕ × List ℕ) ReadFault → Result (List ℕ × List ℕ) ReadFault
worded out k front = front >>= λ f. Ok (out ++ in_words k f.0, f.1)

-- the words so far, and those of the pixels that are still to come
abbrev pub words_made : List ℕ → ℕ → List ℕ → Result (List ℕ × List ℕ) ReadFault
words_made out left bytes = worded out ((left + 63) / 64) (front_at left bytes)

single : (xs : List ℕ) → length xs ≤ 64 → in_words 1 xs ≡ number_l 2 xs ∷ in_words 0 []
unfolding in_words
single xs le = ap (λ (zs : List ℕ). number_l 2 zs ∷ []) (take_all 64 xs le)

behind_one : (n : ℕ) (words : List ℕ) → (n ∷ in_words 0 []) ++ words ≡ n ∷ words
unfolding in_words
behind_one n words = refl

word_first : (k left count : ℕ) (xs ys : List ℕ) → count ≡ min left 64 → 0 < left → length xs ≡ count → length ys ≡ left - count → k ≡ (left + 63) / 64 → in_words k (xs ++ ys) ≡ number_l 2 xs ∷ in_words ((left - count + 63) / 64) ys
word_first k left count xs ys count-is some len others k-is =
    elim (cases_lt left 64) [
      | inl less ↦
          let none : ys ≡ [] = nil_from_length ys (omega arith) in
          let one : k ≡ 1 = omega arith in
          let last : 0 ≡ (left - count + 63) / 64 = omega arith in
          ap (λ (zs : List ℕ). in_words k (xs ++ zs)) none
          ∙ ap (in_words k) (append-nil xs)
          ∙ ap (λ (n : ℕ). in_words n xs) one
          ∙ single xs (omega arith)
          ∙ ap (λ (n : ℕ). number_l 2 xs ∷ in_words n []) last
          ∙ ap (λ (zs : List ℕ). number_l 2 xs ∷ in_words ((left - count + 63) / 64) zs) (sym none)
      | inr whole ↦
          let more : k ≡ 1 + (left - count + 63) / 64 = omega arith in
          ap (λ (n : ℕ). in_words n (xs ++ ys)) more
          ∙ words_append 1 ((left - count + 63) / 64) xs ys (omega arith)
          ∙ ap (λ (ws : List ℕ). ws ++ in_words ((left - count + 63) / 64) ys) (single xs (omega arith))
          ∙ behind_one (number_l 2 xs) (in_words ((left - count + 63) / 64) ys)
    ]

joined_words : (k left count word : ℕ) (out new xs : List ℕ) (front : Result (List ℕ × List ℕ) ReadFault) → count ≡ min left 64 → 0 < left → length xs ≡ count → k ≡ (left + 63) / 64 → number_l 2 xs ≡ word → new ≡ out ++ word ∷ []
    → ((g : List ℕ × List ℕ) → front ≡ Ok g → length g.0 ≡ left - count)
    → worded out k (joined xs front) ≡ worded new ((left - count + 63) / 64) front
joined_words k left count word out new xs (Ok g) count-is some len k-is word-is new-is others =
    let last = in_words ((left - count + 63) / 64) g.0 in
    let whole : out ++ in_words k (xs ++ g.0) ≡ new ++ last =
    ap (λ (ws : List ℕ). out ++ ws) (word_first k left count xs g.0 count-is some len (others g refl) k-is)
    ∙ ap (λ (n : ℕ). out ++ n ∷ last) word-is
    ∙ sym (append_assoc out (word ∷ []) last)
    ∙ ap (λ (ws : List ℕ). ws ++ last) (sym new-is) in
    let made : List ℕ → Result (List ℕ × List ℕ) ReadFault = λ ws. Ok (ws, g.1) in
    ap made whole
joined_words k left count word out new xs (Err d) count-is some len k-is word-is new-is others = refl

pub one_word_more : (left count word : ℕ) (out new bytes after : List ℕ) (total : Result (List ℕ × List ℕ) ReadFault) → 0 < left → count ≡ min left 64 → Ok (word, after) ≡ word_at count bytes → new ≡ out ++ word ∷ []
    → words_made out left bytes ≡ total → words_made new (left - count) after ≡ total
one_word_more left count word out new bytes after total some count-is is new-is so_far =
    let made : List ℕ × List ℕ → Result (ℕ × List ℕ) ReadFault = λ x. Ok (number_l 2 x.0, x.1) in
    let a = bind_ok (front_at count bytes) made (word, after) (sym is) in
    let same = ok_is (number_l 2 a.0.0, a.0.1) (word, after) a.2 in
    let word-is : number_l 2 a.0.0 ≡ word = ap (λ (p : ℕ × List ℕ). p.0) same in
    let after-is : a.0.1 ≡ after = ap (λ (p : ℕ × List ℕ). p.1) same in
    let k = (left + 63) / 64 in
    let others = front_at (left - count) a.0.1 in
    let count-adds : left ≡ count + (left - count) = omega arith in
    let parts : front_at left bytes ≡ joined a.0.0 others =
    ap (λ (n : ℕ). front_at n bytes) count-adds
    ∙ front_parts count (left - count) bytes
    ∙ ap (then_front (left - count)) a.1 in
    ap (words_made new (left - count)) (sym after-is)
    ∙ sym (joined_words k left count word out new a.0.0 others count-is some (front_length count bytes a.0 a.1) refl word-is new-is (λ g g-is. front_length (left - count) a.0.1 g g-is))
    ∙ sym (ap (worded out k) parts)
    ∙ so_far

counted_err : (front : Result (List ℕ × List ℕ) ReadFault) (d : ReadFault) → Err d ≡ counted front → front ≡ Err d
counted_err (Ok f) d is = absurd cc
counted_err (Err e) d is = let same : e ≡ d = cc in ap (λ (x : ReadFault). Err x) same

worded_err : (out : List ℕ) (k : ℕ) (front : Result (List ℕ × List ℕ) ReadFault) (d : ReadFault) → Err d ≡ worded out k front → front ≡ Err d
worded_err out k (Ok f) d is = absurd cc
worded_err out k (Err e) d is = let same : e ≡ d = cc in ap (λ (x : ReadFault). Err x) same

pub fault_word : (left count : ℕ) (out bytes : List ℕ) (d : ReadFault) (total : Result (List ℕ × List ℕ) ReadFault) → 0 < left → count ≡ min left 64 → Err d ≡ word_at count bytes → words_made out left bytes ≡ total → Err d ≡ total
fault_word left count out bytes d total some count-is is so_far =
    let k = (left + 63) / 64 in
    let count-adds : left ≡ count + (left - count) = omega arith in
    let parts : front_at left bytes ≡ Err d =
    ap (λ (n : ℕ). front_at n bytes) count-adds
    ∙ front_parts count (left - count) bytes
    ∙ ap (then_front (left - count)) (counted_err (front_at count bytes) d is) in
    sym (ap (worded out k) parts) ∙ so_far

pub all_words : (left : ℕ) (out bytes : List ℕ) (total : Result (List ℕ × List ℕ) ReadFault) → left ≤ 0 → words_made out left bytes ≡ total → Ok (out, bytes) ≡ total
unfolding front_at in_words
all_words left out bytes total le so_far =
    let none : 0 ≡ left = omega arith in
    let made : List ℕ → Result (List ℕ × List ℕ) ReadFault = λ ws. Ok (ws, bytes) in
    ap made (sym (append-nil out)) ∙ ap (λ (n : ℕ). words_made out n bytes) none ∙ so_far

-- ---- rows

-- the words so far, and those of the rows that are still to come
abbrev pub rows_made : List ℕ → ℕ → ℕ → List ℕ → Result (List ℕ) ReadFault
rows_made out width height bytes = plain_at pixel_in_text (height * width) bytes >>= λ xs. Ok (out ++ in_rows width height xs)

front_nil : (read : Result (List ℕ) ReadFault) → read ≡ with_front [] read
front_nil (Ok xs) = refl
front_nil (Err d) = refl

cons_front : (x : ℕ) (xs : List ℕ) (read : Result (List ℕ) ReadFault) → (with_front xs read >>= λ others. Ok (x ∷ others)) ≡ with_front (x ∷ xs) read
cons_front x xs (Ok ys) = refl
cons_front x xs (Err d) = refl

-- pixels at the front, and the others
abbrev then_plain : ℕ → Result (List ℕ × List ℕ) ReadFault → Result (List ℕ) ReadFault
then_plain m front = front >>= λ f. with_front f.0 (plain_at pixel_in_text m f.1)

-- a pixel before the others
abbrev pixel_plain : ℕ → Result (List ℕ) ReadFault → Result (List ℕ) ReadFault
pixel_plain x read = read >>= λ others. Ok (x ∷ others)

abbrev after_plain : ℕ → Result (ℕ × List ℕ) ReadFault → Result (List ℕ) ReadFault
after_plain n pixel = pixel >>= λ first. pixel_plain first.0 (plain_at pixel_in_text n first.1)

first_front : (m x : ℕ) (front : Result (List ℕ × List ℕ) ReadFault) → pixel_plain x (then_plain m front) ≡ then_plain m (one_before x front)
first_front m x (Ok f) = cons_front x f.0 (plain_at pixel_in_text m f.1)
first_front m x (Err d) = refl

all_front : (n m : ℕ) (pixel : Result (ℕ × List ℕ) ReadFault) → ((bytes : List ℕ) → plain_at pixel_in_text (n + m) bytes ≡ then_plain m (front_at n bytes)) → after_plain (n + m) pixel ≡ then_plain m (after_pixel n pixel)
all_front n m (Ok p) parts = ap (pixel_plain p.0) (parts p.1) ∙ first_front m p.0 (front_at n p.1)
all_front n m (Err d) parts = refl

plain_parts : (n m : ℕ) (bytes : List ℕ) → plain_at pixel_in_text (n + m) bytes ≡ then_plain m (front_at n bytes)
unfolding plain_at front_at
plain_parts zero m bytes = let count : 0 + m ≡ m = omega arith in ap (λ (k : ℕ). plain_at pixel_in_text k bytes) count ∙ front_nil (plain_at pixel_in_text m bytes)
plain_parts (suc n) m bytes =
    let count : suc n + m ≡ suc (n + m) = omega arith in
    ap (λ (k : ℕ). plain_at pixel_in_text k bytes) count ∙ ap (after_plain (n + m)) (same_pixel (n + m) n bytes) ∙ all_front n m (pixel_in_text n bytes) (plain_parts n m)

row_then : (width m : ℕ) (out new row : List ℕ) (read : Result (List ℕ) ReadFault) → length row ≡ width → out ++ in_words ((width + 63) / 64) row ≡ new
    → (with_front row read >>= λ xs. Ok (out ++ in_rows width (suc m) xs)) ≡ (read >>= λ ys. Ok (new ++ in_rows width m ys))
unfolding in_rows
row_then width m out new row (Ok ys) len new-is =
    let k = (width + 63) / 64 in
    let whole : out ++ (in_words k (take width (row ++ ys)) ++ in_rows width m (drop width (row ++ ys))) ≡ new ++ in_rows width m ys =
    ap (λ (bs : List ℕ). out ++ (in_words k bs ++ in_rows width m (drop width (row ++ ys)))) (take_at row ys width len)
    ∙ ap (λ (bs : List ℕ). out ++ (in_words k row ++ in_rows width m bs)) (drop_at row ys width len)
    ∙ sym (append_assoc out (in_words k row) (in_rows width m ys))
    ∙ ap (λ (ws : List ℕ). ws ++ in_rows width m ys) new-is in
    ap (λ (ws : List ℕ). Ok ws) whole
row_then width m out new row (Err d) len new-is = refl

-- the pixels of one row, and of the others
row_parts : (width height y : ℕ) (bytes : List ℕ) → y < height → plain_at pixel_in_text ((height - y) * width) bytes ≡ then_plain ((height - (y + 1)) * width) (front_at width bytes)
row_parts width height y bytes lt =
    let m = height - (y + 1) in
    let k : height - y ≡ suc (height - (y + 1)) = omega arith in
    let sum : suc m * width ≡ width + m * width = add m width in
    ap (λ (n : ℕ). plain_at pixel_in_text (n * width) bytes) k ∙ ap (λ (n : ℕ). plain_at pixel_in_text n bytes) sum ∙ plain_parts width (m * width) bytes
  where
    add : (m w : ℕ) → suc m * w ≡ w + m * w
    add m w = omega arith

pub one_row_read : (width height y : ℕ) (out new bytes after : List ℕ) (total : Result (List ℕ) ReadFault) → y < height → Ok (new, after) ≡ words_made out width bytes → rows_made out width (height - y) bytes ≡ total → rows_made new width (height - (y + 1)) after ≡ total
one_row_read width height y out new bytes after total lt is so_far =
    let made : List ℕ × List ℕ → Result (List ℕ × List ℕ) ReadFault = λ x. Ok (out ++ in_words ((width + 63) / 64) x.0, x.1) in
    let a = bind_ok (front_at width bytes) made (new, after) (sym is) in
    let same = ok_is (out ++ in_words ((width + 63) / 64) a.0.0, a.0.1) (new, after) a.2 in
    let new-is : out ++ in_words ((width + 63) / 64) a.0.0 ≡ new = ap (λ (p : List ℕ × List ℕ). p.0) same in
    let after-is : a.0.1 ≡ after = ap (λ (p : List ℕ × List ℕ). p.1) same in
    let m = height - (y + 1) in
    let k : suc (height - (y + 1)) ≡ height - y = omega arith in
    let read = plain_at pixel_in_text (m * width) a.0.1 in
    let parts : plain_at pixel_in_text ((height - y) * width) bytes ≡ with_front a.0.0 read =
    row_parts width height y bytes lt ∙ ap (then_plain (m * width)) a.1 in
    ap (rows_made new width m) (sym after-is)
    ∙ sym (row_then width m out new a.0.0 read (front_length width bytes a.0 a.1) new-is)
    ∙ ap (λ (n : ℕ). with_front a.0.0 read >>= λ xs. Ok (out ++ in_rows width n xs)) k
    ∙ sym (ap (λ (r : Result (List ℕ) ReadFault). r >>= λ xs. Ok (out ++ in_rows width (height - y) xs)) parts)
    ∙ so_far

pub fault_row : (width height y : ℕ) (out bytes : List ℕ) (d : ReadFault) (total : Result (List ℕ) ReadFault) → y < height → Err d ≡ words_made out width bytes → rows_made out width (height - y) bytes ≡ total → Err d ≡ total
fault_row width height y out bytes d total lt is so_far =
    let m = height - (y + 1) in
    let parts : plain_at pixel_in_text ((height - y) * width) bytes ≡ Err d =
    row_parts width height y bytes lt ∙ ap (then_plain (m * width)) (worded_err out ((width + 63) / 64) (front_at width bytes) d is) in
    sym (ap (λ (r : Result (List ℕ) ReadFault). r >>= λ xs. Ok (out ++ in_rows width (height - y) xs)) parts) ∙ so_far

end_rows : (out : List ℕ) (read : Result (List ℕ) ReadFault) → Ok out ≡ with_front out read → Ok out ≡ (read >>= λ xs. Ok (out ++ []))
end_rows out (Ok xs) is = ap (λ (ws : List ℕ). Ok ws) (sym (append-nil out))
end_rows out (Err d) is = absurd cc

end_fault : (out : List ℕ) (read : Result (List ℕ) ReadFault) (d : ReadFault) → Err d ≡ with_front out read → Err d ≡ (read >>= λ xs. Ok (out ++ []))
end_fault out (Ok xs) d is = absurd cc
end_fault out (Err e) d is = is

last_rows : (width height y : ℕ) (out bytes : List ℕ) → height ≤ y → (plain_at pixel_in_text 0 bytes >>= λ xs. Ok (out ++ [])) ≡ rows_made out width (height - y) bytes
unfolding in_rows
last_rows width height y out bytes le =
    let none : 0 ≡ height - y = omega arith in
    let nothing : 0 ≡ 0 * width = omega arith in
    ap (λ (n : ℕ). plain_at pixel_in_text n bytes >>= λ xs. Ok (out ++ [])) nothing ∙ ap (λ (n : ℕ). rows_made out width n bytes) none

pub all_rows_read : (width height y : ℕ) (out bytes : List ℕ) (total : Result (List ℕ) ReadFault) → height ≤ y → fault_alone (tail_at bytes) ≡ None → rows_made out width (height - y) bytes ≡ total → Ok out ≡ total
all_rows_read width height y out bytes total le h so_far =
    end_rows out (plain_at pixel_in_text 0 bytes) (all_filled pixel_in_text 0 bytes out (with_front out (plain_at pixel_in_text 0 bytes)) (omega arith) h refl) ∙ last_rows width height y out bytes le ∙ so_far

pub tail_row : (width height y : ℕ) (out bytes : List ℕ) (d : ReadFault) (total : Result (List ℕ) ReadFault) → height ≤ y → fault_alone (tail_at bytes) ≡ Some d → rows_made out width (height - y) bytes ≡ total → Err d ≡ total
tail_row width height y out bytes d total le h so_far =
    end_fault out (plain_at pixel_in_text 0 bytes) d (tail_filled pixel_in_text 0 bytes out d (with_front out (plain_at pixel_in_text 0 bytes)) (omega arith) h refl) ∙ last_rows width height y out bytes le ∙ so_far

-- ---- the set

-- what is read in words is packed, and shows what is read
pub set_found : (width height : ℕ) (bytes words : List ℕ) → Ok words ≡ (plain_at pixel_in_text (height * width) bytes >>= λ xs. Ok (in_rows width height xs))
    → IsPacked width height words × (raster_from width height (plain_at pixel_in_text (height * width) bytes) ≡ Ok (raster width height (samples_of width height words)))
set_found width height bytes words is =
    let a = bind_ok (plain_at pixel_in_text (height * width) bytes) (λ xs. Ok (in_rows width height xs)) words (sym is) in
    let words-are = sym (ok_is (in_rows width height a.0) words a.2) in
    let fit = pixels_fit (height * width) bytes a.0 a.1 in
    let small = recursion_from_All (λ s. s ≤ 1) a.0 fit.1 in (
      rows_are_packed width height a.0 words words-are small,
      ap (raster_from width height) a.1 ∙ ap (λ (cells : List ℕ). Ok (raster width height cells)) (sym (rows_samples width height a.0 words words-are fit.0 small)),
    )

pub set_fault : (width height : ℕ) (read : Result (List ℕ) ReadFault) (d : ReadFault) → Err d ≡ (read >>= λ xs. Ok (in_rows width height xs)) → raster_from width height read ≡ Err d
set_fault width height (Ok xs) d is = absurd cc
set_fault width height (Err e) d is = let same : e ≡ d = cc in ap (λ (x : ReadFault). Err x) same

pub set_wanting : (width height : ℕ) (read : Result (List ℕ) ReadFault) → fault_alone read ≡ None → Fails NoMemory (raster_from width height read)
set_wanting width height (Ok xs) h = inl refl
set_wanting width height (Err d) h = absurd (let clash : Some d ≡ None = h in cc)
