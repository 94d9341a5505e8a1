-- A plain raster with room enough is not too short.
use Rattle.std.proofs.Common.{Some, None, ◌≡◌, ℕ, zero, suc, ◌+◌, ◌-◌, ◌*◌, ◌≤◌, List, [], ◌∷◌, Result, Ok, Err, min, refl, sym, ap, subst, ◌∙◌, Bool, true, false, cond, eqb, not, ◌||◌, ◌&&◌, arith, inl, inr}
use Rattle.std.specs.Prelude.{nat_lt}
use Rattle.std.proofs.lemmas.List.Sums.{sum_by-cons}
use Rattle.std.proofs.lemmas.Bool.{cases_Bool}
use Rattle.mw_model.proofs.mw_facts.Numbers.{one_if-le}
use Rattle.mw_model.specs.NetpbmGrammar.{is_white, is_digit}
use Rattle.mw_netpbm_plain.specs.declared.fault.ReadFault.{ReadFault}
use Rattle.mw_netpbm_plain.specs.declared.fault.ReadFault.TheVariants.{Short, Sample, Trailing}
use Rattle.mw_netpbm_plain.specs.declared.plain.Places.{Places}
use Rattle.mw_netpbm_plain.specs.declared.plain.Places.TheVariants.{Pixels, Samples}
use Rattle.mw_netpbm_plain.specs.Reading.{◌>>=◌, fault_alone, skip_from, digits_from}
use Rattle.mw_netpbm_plain.specs.Plain.{tail_at, plain_at, bit_at, pixel_in_text, apart, level_in_text, sample_in_text}
use Rattle.mw_netpbm_plain.specs.PlainSamples.{place_in_text}
use Rattle.mw_netpbm_plain.specs.Tallies.{signs_in, words_in, has_hash, room_for}
use Rattle.mw_netpbm_plain.proofs.Blanks.{skip_visible, skip_white, digit_visible}

abbrev IsLong : {X : Type 0} → Result X ReadFault → Type 0
IsLong read = fault_alone read ≡ Some Short → ⊥

tail_cases : (w : Bool) → IsLong {X = List ℕ} (cond w (Ok []) (Err Trailing))
tail_cases true h = let clash : None ≡ Some Short = h in cc
tail_cases false h = let clash : Some Trailing ≡ Some Short = h in cc

tail_long : (bytes : List ℕ) → IsLong (tail_at bytes)
unfolding tail_at
tail_long [] h = let clash : None ≡ Some Short = h in cc
tail_long (b ∷ bs) h = tail_cases (is_white b) h

later_long : (x : ℕ) (read : Result (List ℕ) ReadFault) → IsLong read → IsLong (read >>= λ xs. Ok (x ∷ xs))
later_long x (Ok xs) long h = let clash : None ≡ Some Short = h in cc
later_long x (Err f) long h = long h

place_cases : (read : Result (ℕ × List ℕ) ReadFault) (others : List ℕ → Result (List ℕ) ReadFault) → ((s : ℕ) (after : List ℕ) → read ≡ Ok (s, after) → IsLong (others after)) → (read ≡ Err Short → ⊥)
    → IsLong (read >>= λ first. others first.1 >>= λ xs. Ok (first.0 ∷ xs))
place_cases (Ok (s, after)) others long here h = later_long s (others after) (long s after refl) h
place_cases (Err f) others long here h = let same : f ≡ Short = cc in here (ap (λ (e : ReadFault). Err e) same)

-- a place that is not too short, and the places after it
one_long : (place : ℕ → List ℕ → Result (ℕ × List ℕ) ReadFault) (left : ℕ) (bytes : List ℕ)
    → ((s : ℕ) (after : List ℕ) → place left bytes ≡ Ok (s, after) → IsLong (plain_at place left after)) → (place left bytes ≡ Err Short → ⊥) → IsLong (plain_at place (suc left) bytes)
unfolding plain_at
one_long place left bytes long here = place_cases (place left bytes) (plain_at place left) long here

-- ---- white space before a place

or_first : (a b : Bool) → (a || b) ≡ false → a ≡ false
or_first true b h = h
or_first false b h = refl

or_second : (a b : Bool) → (a || b) ≡ false → b ≡ false
or_second true b h = let clash : true ≡ false = h in cc
or_second false b h = h

record IsSkipped (bytes rest : List ℕ) : Type 0 where
  clean : has_hash rest ≡ false
  signs : signs_in rest ≡ signs_in bytes
  words : words_in true rest ≡ words_in true bytes

signs_first : (b : ℕ) (bs : List ℕ) → signs_in (b ∷ bs) ≡ cond (not (is_white b)) 1 0 + signs_in bs
signs_first b bs = sum_by-cons (λ (x : ℕ). cond (not (is_white x)) 1 0) b bs

words_white : (before : Bool) (b : ℕ) (bs : List ℕ) → is_white b ≡ true → words_in before (b ∷ bs) ≡ words_in true bs
words_white true b bs w = ap (λ (x : Bool). cond (true && not x) 1 0 + words_in x bs) w ∙ omega arith
words_white false b bs w = ap (λ (x : Bool). cond (false && not x) 1 0 + words_in x bs) w ∙ omega arith

words_sign : (before : Bool) (b : ℕ) (bs : List ℕ) → is_white b ≡ false → words_in before (b ∷ bs) ≡ cond before 1 0 + words_in false bs
words_sign true b bs w = ap (λ (x : Bool). cond (true && not x) 1 0 + words_in x bs) w
words_sign false b bs w = ap (λ (x : Bool). cond (false && not x) 1 0 + words_in x bs) w

nothing_skipped : IsSkipped [] (skip_from false [])
unfolding skip_from
nothing_skipped = record { clean = refl; signs = refl; words = refl }

skipped : (bytes : List ℕ) → has_hash bytes ≡ false → IsSkipped bytes (skip_from false bytes)
skipped [] clean = nothing_skipped
skipped (b ∷ bs) clean =
    elim (cases_Bool (is_white b)) [
      | inl w ↦
          let rest = skipped bs (or_second (eqb b 35) (has_hash bs) clean) in
          let none : signs_in (b ∷ bs) ≡ signs_in bs = signs_first b bs ∙ ap (λ (x : Bool). cond (not x) 1 0 + signs_in bs) w ∙ omega arith in
          subst (IsSkipped (b ∷ bs)) (sym (skip_white b bs w)) (record { clean = rest.clean; signs = rest.signs ∙ sym none; words = rest.words ∙ sym (words_white true b bs w) })
      | inr s ↦ subst (IsSkipped (b ∷ bs)) (sym (skip_visible b bs (s, or_first (eqb b 35) (has_hash bs) clean))) (record { clean = clean; signs = refl; words = refl })
    ]

-- a sample and what follows it
abbrev Found : Type 0
Found = Result (ℕ × List ℕ) ReadFault

no_fault : {f : ReadFault} {x : ℕ × List ℕ} → ◌≡◌ {A = Found} (Err f) (Ok x) → ⊥
no_fault h = cc

other_fault : ◌≡◌ {A = Found} (Err Sample) (Err Short) → ⊥
other_fault h = cc

abbrev after_of : Found → List ℕ
after_of (Ok found) = found.1
after_of (Err f) = []

-- ---- pixels

bit_after : (rest : List ℕ) (s : ℕ) (after : List ℕ) → bit_at rest ≡ Ok (s, after) → has_hash rest ≡ false → (has_hash after ≡ false) × (signs_in rest ≤ suc (signs_in after))
unfolding bit_at
bit_after [] s after h clean = absurd (no_fault h)
bit_after (b ∷ bs) s after h clean = by_test ((eqb b 48) || (eqb b 49)) h
  where
    by_test : (t : Bool) → cond {A = Found} t (Ok (b - 48, bs)) (Err Sample) ≡ Ok (s, after) → (has_hash after ≡ false) × (signs_in (b ∷ bs) ≤ suc (signs_in after))
    by_test true e =
        let is : bs ≡ after = ap after_of e in
        let one : cond (not (is_white b)) 1 0 ≤ 1 = one_if-le (not (is_white b)) in
        (ap has_hash (sym is) ∙ or_second (eqb b 35) (has_hash bs) clean, omega (arith, signs_first b bs, ap signs_in is, one))
    by_test false e = absurd (no_fault e)

bit_short : (rest : List ℕ) → bit_at rest ≡ Err Short → signs_in rest ≡ 0
unfolding bit_at
bit_short [] h = refl
bit_short (b ∷ bs) h = absurd (by_test ((eqb b 48) || (eqb b 49)) h)
  where
    by_test : (t : Bool) → cond {A = Found} t (Ok (b - 48, bs)) (Err Sample) ≡ Err Short → ⊥
    by_test true e = no_fault (sym e)
    by_test false e = other_fault e

pixels_long : (count : ℕ) (bytes : List ℕ) → has_hash bytes ≡ false → count ≤ signs_in bytes → IsLong (plain_at pixel_in_text count bytes)
unfolding plain_at pixel_in_text
pixels_long zero bytes clean room = tail_long bytes
pixels_long (suc left) bytes clean room =
    let gap = skipped bytes clean in
    one_long pixel_in_text left bytes
    (λ s after e. let found = bit_after (skip_from false bytes) s after e gap.clean in pixels_long left after found.0 (omega (arith, found.1, gap.signs, room)))
    (λ e. omega (arith, bit_short (skip_from false bytes) e, gap.signs, room))

-- ---- samples

-- bytes without a #, after which as many words begin as in all
abbrev IsPassed : List ℕ → List ℕ → Type 0
IsPassed bytes after = (has_hash after ≡ false) × (words_in false after ≡ words_in false bytes)

digits_after : (n : ℕ) (bytes : List ℕ) → has_hash bytes ≡ false → IsPassed bytes (digits_from n bytes).1
unfolding digits_from
digits_after n [] clean = (refl, refl)
digits_after n (b ∷ bs) clean = by_test (is_digit b) refl (digits_after (min (10 * n + (b - 48)) 4294967296) bs (or_second (eqb b 35) (has_hash bs) clean))
  where
    by_test : (t : Bool) → is_digit b ≡ t → IsPassed bs (digits_from (min (10 * n + (b - 48)) 4294967296) bs).1
        → IsPassed (b ∷ bs) (cond t (digits_from (min (10 * n + (b - 48)) 4294967296) bs) (n, b ∷ bs)).1
    by_test true d rest = (rest.0, rest.1 ∙ omega (arith, words_sign false b bs (digit_visible b d).0))
    by_test false d rest = (clean, refl)

apart_after : (left : ℕ) (found : ℕ × List ℕ) (s : ℕ) (after : List ℕ) → apart left found ≡ Ok (s, after) → has_hash found.1 ≡ false
    → (has_hash after ≡ false) × (left ≤ words_in false found.1 → left ≤ words_in true after)
unfolding apart
apart_after zero (n, bs) s after h clean = let is : bs ≡ after = ap after_of h in (ap has_hash (sym is) ∙ clean, λ le. omega arith)
apart_after (suc left) (n, []) s after h clean = let is : [] ≡ after = ap after_of h in (ap has_hash (sym is) ∙ clean, λ le. absurd (omega arith))
apart_after (suc left) (n, b ∷ bs) s after h clean = by_test (is_white b) refl h
  where
    by_test : (t : Bool) → is_white b ≡ t → cond {A = Found} t (Ok (n, b ∷ bs)) (Err Sample) ≡ Ok (s, after) → (has_hash after ≡ false) × (suc left ≤ words_in false (b ∷ bs) → suc left ≤ words_in true after)
    by_test true w e =
        let is : b ∷ bs ≡ after = ap after_of e in
        (ap has_hash (sym is) ∙ clean, λ le. omega (arith, ap (words_in true) is, words_white true b bs w, words_white false b bs w, le))
    by_test false w e = absurd (no_fault e)

apart_whole : (left : ℕ) (found : ℕ × List ℕ) → apart left found ≡ Err Short → ⊥
unfolding apart
apart_whole zero found h = no_fault (sym h)
apart_whole (suc left) (n, []) h = no_fault (sym h)
apart_whole (suc left) (n, b ∷ bs) h = by_test (is_white b) h
  where
    by_test : (t : Bool) → cond {A = Found} t (Ok (n, b ∷ bs)) (Err Sample) ≡ Err Short → ⊥
    by_test true e = no_fault (sym e)
    by_test false e = other_fault e

level_after : (maxval left : ℕ) (rest : List ℕ) (s : ℕ) (after : List ℕ) → level_in_text maxval left rest ≡ Ok (s, after) → has_hash rest ≡ false
    → (has_hash after ≡ false) × (suc left ≤ words_in true rest → left ≤ words_in true after)
unfolding level_in_text
level_after maxval left [] s after h clean = absurd (no_fault h)
level_after maxval left (b ∷ bs) s after h clean = by_tests (is_digit b) (nat_lt maxval (digits_from 0 (b ∷ bs)).0) refl h
  where
    by_tests : (t u : Bool) → is_digit b ≡ t → cond t (cond u (Err Sample) (apart left (digits_from 0 (b ∷ bs)))) (Err Sample) ≡ Ok (s, after)
        → (has_hash after ≡ false) × (suc left ≤ words_in true (b ∷ bs) → left ≤ words_in true after)
    by_tests true true d e = absurd (no_fault e)
    by_tests true false d e =
        let digits = digits_after 0 (b ∷ bs) clean in
        let found = apart_after left (digits_from 0 (b ∷ bs)) s after e digits.0 in
        let sign = (digit_visible b d).0 in
        let one = words_sign true b bs sign in
        let none = words_sign false b bs sign in
        (found.0, λ le. found.1 (omega (arith, digits.1, one, none, le)))
    by_tests false u d e = absurd (no_fault e)

level_short : (maxval left : ℕ) (rest : List ℕ) → level_in_text maxval left rest ≡ Err Short → words_in true rest ≡ 0
unfolding level_in_text
level_short maxval left [] h = refl
level_short maxval left (b ∷ bs) h = absurd (by_tests (is_digit b) (nat_lt maxval (digits_from 0 (b ∷ bs)).0) h)
  where
    by_tests : (t u : Bool) → cond t (cond u (Err Sample) (apart left (digits_from 0 (b ∷ bs)))) (Err Sample) ≡ Err Short → ⊥
    by_tests true true e = other_fault e
    by_tests true false e = apart_whole left (digits_from 0 (b ∷ bs)) e
    by_tests false u e = other_fault e

samples_long : (maxval count : ℕ) (bytes : List ℕ) → has_hash bytes ≡ false → count ≤ words_in true bytes → IsLong (plain_at (sample_in_text maxval) count bytes)
unfolding plain_at sample_in_text
samples_long maxval zero bytes clean room = tail_long bytes
samples_long maxval (suc left) bytes clean room =
    let gap = skipped bytes clean in
    one_long (sample_in_text maxval) left bytes
    (λ s after e. let found = level_after maxval left (skip_from false bytes) s after e gap.clean in samples_long maxval left after found.0 (found.1 (omega (arith, gap.words, room))))
    (λ e. omega (arith, level_short maxval left (skip_from false bytes) e, gap.words, room))

pub not_short : (places : Places) (count : ℕ) (bytes : List ℕ) → has_hash bytes ≡ false → count ≤ room_for places bytes → fault_alone (plain_at (place_in_text places) count bytes) ≡ Some Short → ⊥
not_short Pixels count bytes clean room = pixels_long count bytes clean room
not_short (Samples maxval) count bytes clean room = samples_long maxval count bytes clean room
