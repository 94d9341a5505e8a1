-- Counting in 32 lanes.
use Rattle.std.proofs.Common.{◌≡◌, ℕ, zero, suc, ◌+◌, ◌-◌, ◌%◌, ◌^◌, ◌<◌, ◌≤◌, Bool, false, cond, leb, ltb, List, [], ◌∷◌, ◌++◌, length, map, take, drop, replicate, get_or, refl, ap, sym, arith, ◌∙◌, inl, inr, length-take, length-drop}
use Rattle.std.specs.Int.{Width, w8, w16}
use Rattle.std.specs.Int.Bits.{bit_or}
use Rattle.std.specs.Prelude.{nat_lt, min}
use Rattle.std.proofs.lemmas.Bool.{cases_lt, lt-ltb, le-ltb}
use Rattle.std.proofs.lemmas.Bool.Decides.{nat_tests}
use Rattle.std.proofs.lemmas.List.{take_all, get_or-take, get_or-drop, get_or-replicate, map_more, get_or_default, get_or-append_right, get_or_append_left, length-take-le}
use Rattle.std.proofs.lemmas.List.Sums.{count_by-le-length}
use Rattle.std.proofs.lemmas.Nat.{le_or_l, le_or_r}
use Rattle.std.proofs.lemmas.Simd.{tops_compared, length-zip2, get_or-zip2, length-sel_l, get_or-sel_l, length-chunk, get_or-chunk, put_chunk_whole, Each1-get_or}
use Rattle.std.proofs.Math.ListN.{length-map}
use mir.Val.{bits, hbits, Fits}
use lib.Lanes.{zip2, sel_l, top, chunk, put_chunk, fold_l, Each1}
use Rattle.mw_model.proofs.mw_facts.Numbers.{cond-min, cond-max}
use Rattle.mw_rank_counts.specs.Counting.{levels_on, HasPlaces, AreFrom, raised}
use Rattle.mw_rank.specs.Tallies.{count_under}
use Rattle.mw_rank.proofs.Counts.{count-append, count-cons}
use Rattle.mw_rank_counts.proofs.Counts.{count_all}

-- lanes of xs where the test holds, and else those of ys
pub record IsChosen (n : ℕ) (t : ℕ → ℕ → Bool) (us vs xs ys made : List ℕ) : Type 0 where
  pub size : length made ≡ n
  pub lanes : (i : ℕ) → i < n → get_or made i 0 ≡ cond (t (get_or us i 0) (get_or vs i 0)) (get_or xs i 0) (get_or ys i 0)

pub chosen : (n : ℕ) (w : Width) (t : ℕ → ℕ → Bool) (us vs xs ys : List ℕ) → length us ≡ n → length vs ≡ n → length xs ≡ n → length ys ≡ n
    → IsChosen n t us vs xs ys (sel_l {A = ℕ} (map (top (hbits w)) (zip2 (λ (a b : ℕ). cond (t a b) (2 ^ bits w - 1) 0) us vs)) xs ys)
chosen n w t us vs xs ys us-long vs-long xs-long ys-long =
    rw (tops_compared w t us vs)
    (let long : length (zip2 t us vs) ≡ n = length-zip2 t us vs (omega arith) ∙ us-long in
    let made : IsChosen n t us vs xs ys (sel_l (zip2 t us vs) xs ys) = record {
      size = length-sel_l (zip2 t us vs) xs ys (omega arith) (omega arith) ∙ long;
      lanes = λ i lt. get_or-sel_l (zip2 t us vs) xs ys i 0 (omega arith) (omega arith) (omega arith) ∙ ap (λ (b : Bool). cond b (get_or xs i 0) (get_or ys i 0)) (get_or-zip2 t us vs i 0 0 false (omega arith) (omega arith));
    } in made)

up_to : (s v : ℕ) → ◌≡◌ {A = ℕ} (cond (leb s v) 1 0) (cond (nat_lt s (v + 1)) 1 0)
up_to s v = grind (arith, nat_tests)

-- the lanes of a load at a place
pub load_size : (samples : List ℕ) (p : ℕ) → p + 32 ≤ length samples → length (chunk 0 32 (take (p + 32 - p) (drop p samples))) ≡ 32
load_size samples p fits = length-chunk 0 32 (take (p + 32 - p) (drop p samples)) (omega (arith, length-take (p + 32 - p) (drop p samples), length-drop p samples))

pub load_lane : (samples : List ℕ) (p i d : ℕ) → p + 32 ≤ length samples → i < 32 → get_or (chunk 0 32 (take (p + 32 - p) (drop p samples))) i 0 ≡ get_or samples (p + i) d
load_lane samples p i d fits lt =
    get_or-chunk 0 32 (take (p + 32 - p) (drop p samples)) i 0 lt
    ∙ ap (λ (t : ℕ). get_or (take (p + 32 - p) (drop p samples)) t 0) (let same : 0 + i ≡ i = omega arith in same)
    ∙ get_or-take (p + 32 - p) (drop p samples) i 0 (omega arith)
    ∙ get_or-drop p samples i 0
    ∙ get_or_default samples (p + i) 0 d (omega arith)

-- lanes of a width, whose highest level is most
pub record IsOfWidth (w : Width) (plus minus : ℕ → ℕ → ℕ) (most : ℕ) : Type 0 where
  pub many : 255 ≤ most
  pub fits : (x : ℕ) → Fits w x → x ≤ most
  pub plus_is : (x y : ℕ) → x + y ≤ most → plus x y ≡ x + y
  pub minus_is : (x y : ℕ) → y ≤ x → x ≤ most → minus x y ≡ x - y

pub of_8 : IsOfWidth w8 (λ (x y : ℕ). (x + y) % 256) (λ (x y : ℕ). (x + (256 - y)) % 256) 255
of_8 = record { many = omega arith; fits = λ x f. let lt : x < 256 = f.fits in omega arith; plus_is = λ x y le. omega arith; minus_is = λ x y le lt. omega arith }

pub of_16 : IsOfWidth w16 (λ (x y : ℕ). (x + y) % 65536) (λ (x y : ℕ). (x + (65536 - y)) % 65536) 65535
of_16 = record { many = omega arith; fits = λ x f. let lt : x < 65536 = f.fits in omega arith; plus_is = λ x y le. omega arith; minus_is = λ x y le lt. omega arith }

-- counters of the samples at the first places that are not above the lanes
pub record HasCounted (d : ℕ) (samples places last counts : List ℕ) : Type 0 where
  pub size : length counts ≡ 32
  pub lanes : (i : ℕ) → i < 32 → get_or counts i 0 ≡ count_under (get_or last i 0 + 1) (levels_on (λ (s : ℕ). s) d samples places i)

pub count_one_more : (d : ℕ) (samples places : List ℕ) (v i j : ℕ) → j < length places
    → count_under v (levels_on (λ (s : ℕ). s) d samples (take (j + 1) places) i) ≡ count_under v (levels_on (λ (s : ℕ). s) d samples (take j places) i) + cond (nat_lt (get_or samples (get_or places j 0 + i) d) v) 1 0
count_one_more d samples places v i j lt =
    ap (count_under v) (map_more (λ (p : ℕ). get_or samples (p + i) d) places j 0 lt)
    ∙ count-append v (levels_on (λ (s : ℕ). s) d samples (take j places) i) (_ ∷ [])
    ∙ ap (λ (t : ℕ). count_under v (levels_on (λ (s : ℕ). s) d samples (take j places) i) + t) (let one = count-cons v (get_or samples (get_or places j 0 + i) d) [] in omega (arith, one, count-nil v))
  where
    count-nil : (v : ℕ) → count_under v [] ≡ 0
    count-nil v = refl

few_counted : (d : ℕ) (samples places : List ℕ) (v i j : ℕ) → count_under v (levels_on (λ (s : ℕ). s) d samples (take j places) i) ≤ length places
few_counted d samples places v i j =
    omega (arith, count_by-le-length (λ (s : ℕ). nat_lt s v) (levels_on (λ (s : ℕ). s) d samples (take j places) i), length-map (take j places) (λ (p : ℕ). get_or samples (p + i) d), length-take j places)

pub counted_none : (d : ℕ) (samples places last : List ℕ) → HasCounted d samples (take 0 places) last (replicate 32 0)
counted_none d samples places last = record { size = refl; lanes = λ i lt. get_or-replicate 32 i 0 0 lt }

-- one place more
pub counted_more : (w : Width) (plus minus : ℕ → ℕ → ℕ) (d : ℕ) (samples places last counts : List ℕ) (j : ℕ) → IsOfWidth w plus minus d → j < length places → length places < 256 → length last ≡ 32 → HasPlaces samples 32 places
    → HasCounted d samples (take j places) last counts
    → HasCounted d samples (take (j + 1) places) last
    (zip2 plus counts
    (sel_l {A = ℕ} (map (top (hbits w)) (zip2 (λ (a b : ℕ). cond (leb a b) (2 ^ bits w - 1) 0) (chunk 0 32 (take (get_or places j 0 + 32 - get_or places j 0) (drop (get_or places j 0) samples))) last)) (replicate 32 1) (replicate 32 0)))
counted_more w plus minus d samples places last counts j of lt few last-long inside before =
    let p = get_or places j 0 in
    let here = chunk 0 32 (take (p + 32 - p) (drop p samples)) in
    let ones : List ℕ = replicate 32 1 in
    let zeros : List ℕ = replicate 32 0 in
    let made = sel_l {A = ℕ} (map (top (hbits w)) (zip2 (λ (a b : ℕ). cond (leb a b) (2 ^ bits w - 1) 0) here last)) ones zeros in
    let are : IsChosen 32 leb here last ones zeros made = chosen 32 w leb here last ones zeros (load_size samples p (inside j lt)) last-long refl refl in
    record {
      size = length-zip2 plus counts made (omega (arith, before.size, are.size)) ∙ before.size;
      lanes = λ i less.
          let v = get_or last i 0 in
          let mark : get_or made i 0 ≡ cond (nat_lt (get_or samples (p + i) d) (v + 1)) 1 0 =
          are.lanes i less
          ∙ ap (λ (t : ℕ). cond (leb (get_or here i 0) v) t (get_or zeros i 0)) (get_or-replicate 32 i 1 0 less)
          ∙ ap (λ (t : ℕ). cond (leb (get_or here i 0) v) 1 t) (get_or-replicate 32 i 0 0 less)
          ∙ ap (λ (t : ℕ). cond (leb t v) 1 0) (load_lane samples p i d (inside j lt) less)
          ∙ up_to (get_or samples (p + i) d) v in
          get_or-zip2 plus counts made i 0 0 0 (omega (arith, before.size)) (omega (arith, are.size))
          ∙ of.plus_is (get_or counts i 0) (get_or made i 0)
          (omega (arith, of.many, before.lanes i less, mark, few_counted d samples places (v + 1) i (j + 1), count_one_more d samples places (v + 1) i j lt))
          ∙ omega (arith, before.lanes i less, mark, count_one_more d samples places (v + 1) i j lt);
    }

-- the levels up to which is counted: so much above the present ones, and none above the top
abbrev pub last_of : Width → (ℕ → ℕ → ℕ) → (ℕ → ℕ → ℕ) → ℕ → ℕ → List ℕ → List ℕ
last_of w plus minus most more levels =
    zip2 plus levels
    (sel_l {A = ℕ} (map (top (hbits w)) (zip2 (λ (a b : ℕ). cond (ltb a b) (2 ^ bits w - 1) 0) (zip2 minus (replicate 32 most) levels) (replicate 32 more))) (zip2 minus (replicate 32 most) levels) (replicate 32 more))

record AreLast (most more : ℕ) (levels last : List ℕ) : Type 0 where
  size : length last ≡ 32
  lanes : (i : ℕ) → i < 32 → get_or last i 0 ≡ get_or levels i 0 + min (most - get_or levels i 0) more
  low : (i : ℕ) → i < 32 → get_or levels i 0 ≤ most

are_last : (w : Width) (plus minus : ℕ → ℕ → ℕ) (most more : ℕ) (levels : List ℕ) → IsOfWidth w plus minus most → length levels ≡ 32 → Each1 (Fits w) levels → AreLast most more levels (last_of w plus minus most more levels)
are_last w plus minus most more levels of long fit =
    let room = zip2 minus (replicate 32 most) levels in
    let steps : List ℕ = replicate 32 more in
    let room-long : length room ≡ 32 = length-zip2 minus (replicate 32 most) levels (omega (arith, long)) in
    let are : IsChosen 32 ltb room steps room steps _ = chosen 32 w ltb room steps room steps room-long refl room-long refl in
    let within : (i : ℕ) → i < 32 → get_or levels i 0 ≤ most = λ i lt. of.fits (get_or levels i 0) (Each1-get_or (Fits w) levels i 0 (omega arith) fit) in
    record {
      size = length-zip2 plus levels _ (omega (arith, are.size)) ∙ long;
      lanes = λ i lt.
          let v = get_or levels i 0 in
          let room-is : get_or room i 0 ≡ most - v = get_or-zip2 minus (replicate 32 most) levels i 0 0 0 lt (omega arith) ∙ ap (λ (t : ℕ). minus t v) (get_or-replicate 32 i most 0 lt) ∙ of.minus_is most v (within i lt) (omega arith) in
          let less = are.lanes i lt ∙ cond-min (get_or room i 0) (get_or steps i 0) ∙ ap (λ (t : ℕ). min t (get_or steps i 0)) room-is ∙ ap (min (most - v)) (get_or-replicate 32 i more 0 lt) in
          get_or-zip2 plus levels _ i 0 0 0 (omega arith) (omega (arith, are.size)) ∙ ap (plus v) less ∙ of.plus_is v (min (most - v) more) (omega (arith, within i lt));
      low = within;
    }

-- all levels are below a limit above the top
all_counted : (w : Width) (plus minus : ℕ → ℕ → ℕ) (most limit i : ℕ) (samples places : List ℕ) → IsOfWidth w plus minus most → HasPlaces samples 32 places → ((j : ℕ) → Fits w (get_or samples j 0)) → i < 32 → most < limit
    → count_under limit (levels_on (λ (s : ℕ). s) most samples places i) ≡ length places
all_counted w plus minus most limit i samples places of inside fit lt high =
    count_all (λ (s : ℕ). s) most samples limit i places
    (λ q less. let at = get_or places q 0 + i in omega (arith, of.fits (get_or samples at 0) (fit at), get_or_default samples at 0 most (omega (arith, inside q less))))

-- after all places, the counters are of the levels that are not above the present ones by more
pub counted_up_to : (w : Width) (plus minus : ℕ → ℕ → ℕ) (most more : ℕ) (samples places levels counts : List ℕ) → IsOfWidth w plus minus most → length levels ≡ 32 → Each1 (Fits w) levels → HasPlaces samples 32 places → ((j : ℕ) → Fits w (get_or samples j 0))
    → HasCounted most samples places (last_of w plus minus most more levels) counts
    → (i : ℕ) → i < 32 → get_or counts i 0 ≡ count_under (get_or levels i 0 + more + 1) (levels_on (λ (s : ℕ). s) most samples places i)
counted_up_to w plus minus most more samples places levels counts of long fit inside samples-fit counted i lt =
    let ns = levels_on (λ (s : ℕ). s) most samples places i in
    let last = last_of w plus minus most more levels in
    let are = are_last w plus minus most more levels of long fit in
    counted.lanes i lt
    ∙ elim (cases_lt most (get_or levels i 0 + more)) [
      | inl over ↦
          all_counted w plus minus most (get_or last i 0 + 1) i samples places of inside samples-fit lt (omega (arith, are.lanes i lt, are.low i lt))
          ∙ sym (all_counted w plus minus most (get_or levels i 0 + more + 1) i samples places of inside samples-fit lt (omega arith))
      | inr under ↦ ap (λ (t : ℕ). count_under (t + 1) ns) (let e : get_or last i 0 ≡ get_or levels i 0 + more = omega (arith, are.lanes i lt) in e)
    ]

splat_lane : (plus : ℕ → ℕ → ℕ) (most m : ℕ) (xs : List ℕ) (i : ℕ) → ((x y : ℕ) → x + y ≤ most → plus x y ≡ x + y) → length xs ≡ 32 → i < 32 → get_or xs i 0 + m ≤ most → get_or (zip2 plus xs (replicate 32 m)) i 0 ≡ get_or xs i 0 + m
splat_lane plus most m xs i law long lt room = get_or-zip2 plus xs (replicate 32 m) i 0 0 0 (omega arith) lt ∙ ap (plus (get_or xs i 0)) (get_or-replicate 32 i m 0 lt) ∙ law (get_or xs i 0) m room

-- a lane is raised where its counter is below n
pub raised_lane : (w : Width) (plus minus : ℕ → ℕ → ℕ) (most step n : ℕ) (samples places found counts : List ℕ) → IsOfWidth w plus minus most → 1 ≤ step → n ≤ length places → length found ≡ 32 → HasPlaces samples 32 places
    → ((j : ℕ) → Fits w (get_or samples j 0)) → length counts ≡ 32
    → ((i : ℕ) → i < 32 → get_or counts i 0 ≡ count_under (get_or (take 32 found) i 0 + (step - 1) + 1) (levels_on (λ (s : ℕ). s) most samples places i))
    → (i : ℕ) → i < 32
    → get_or
    (put_chunk 0 found (sel_l {A = ℕ} (map (top (hbits w)) (zip2 (λ (a b : ℕ). cond (ltb a b) (2 ^ bits w - 1) 0) counts (replicate 32 n))) (zip2 plus (zip2 plus (take 32 found) (replicate 32 (step - 1))) (replicate 32 1)) (take 32 found))) i most
    ≡ raised step n (levels_on (λ (s : ℕ). s) most samples places i) (get_or found i most)
raised_lane w plus minus most step n samples places found counts of some few whole inside fit counts-long counted i lt =
    let old = take 32 found in
    let same : old ≡ found = take_all 32 found (omega arith) in
    let old-long : length old ≡ 32 = ap length same ∙ whole in
    let last = zip2 plus old (replicate 32 (step - 1)) in
    let last-long : length last ≡ 32 = length-zip2 plus old (replicate 32 (step - 1)) old-long ∙ old-long in
    let next = zip2 plus last (replicate 32 1) in
    let next-long : length next ≡ 32 = length-zip2 plus last (replicate 32 1) last-long ∙ last-long in
    let ns = levels_on (λ (s : ℕ). s) most samples places i in
    let made = sel_l {A = ℕ} (map (top (hbits w)) (zip2 (λ (a b : ℕ). cond (ltb a b) (2 ^ bits w - 1) 0) counts (replicate 32 n))) next old in
    let are : IsChosen 32 ltb counts (replicate 32 n) next old made = chosen 32 w ltb counts (replicate 32 n) next old counts-long refl next-long old-long in
    let v = get_or found i most in
    let old-is : get_or old i 0 ≡ v = ap (λ (l : List ℕ). get_or l i 0) same ∙ get_or_default found i 0 most (omega arith) in
    let count-is : get_or counts i 0 ≡ count_under (v + step) ns = counted i lt ∙ ap (λ (t : ℕ). count_under t ns) (let e : get_or old i 0 + (step - 1) + 1 ≡ v + step = omega (arith, old-is) in e) in
    ap (λ (l : List ℕ). get_or l i most) (put_chunk_whole found made (omega (arith, are.size)))
    ∙ get_or_default made i most 0 (omega (arith, are.size))
    ∙ are.lanes i lt
    ∙ ap (λ (t : ℕ). cond (ltb (get_or counts i 0) t) (get_or next i 0) (get_or old i 0)) (get_or-replicate 32 i n 0 lt)
    ∙ elim (cases_lt (count_under (v + step) ns) n) [
      | inl low ↦
          let room : v + step ≤ most = elim (cases_lt most (v + step)) [ inl over ↦ absurd (omega (arith, all_counted w plus minus most (v + step) i samples places of inside fit lt over)) | inr within ↦ within ] in
          let last-is = splat_lane plus most (step - 1) old i of.plus_is old-long lt (omega (arith, old-is)) in
          let next-is = splat_lane plus most 1 last i of.plus_is last-long lt (omega (arith, old-is, last-is)) in
          rw (lt-ltb (get_or counts i 0) n (omega (arith, count-is)), lt-ltb (count_under (v + step) ns) n low) (omega (arith, old-is, last-is, next-is))
      | inr enough ↦ rw (le-ltb (get_or counts i 0) n (omega (arith, count-is)), le-ltb (count_under (v + step) ns) n enough) old-is
    ]

-- no sample at the first places is below the lanes of low or above those of high
pub record HasSeen (d : ℕ) (samples places : List ℕ) (j : ℕ) (low high : List ℕ) : Type 0 where
  pub low_size : length low ≡ 32
  pub high_size : length high ≡ 32
  pub lows : (q i : ℕ) → q < j → i < 32 → get_or low i 0 ≤ get_or samples (get_or places q 0 + i) d
  pub highs : (q i : ℕ) → q < j → i < 32 → get_or samples (get_or places q 0 + i) d ≤ get_or high i 0

pub seen_none : (d most : ℕ) (samples places : List ℕ) → HasSeen d samples places 0 (replicate 32 most) (replicate 32 0)
seen_none d most samples places = record { low_size = refl; high_size = refl; lows = λ q i lt less. absurd (omega arith); highs = λ q i lt less. absurd (omega arith) }

-- one place more
pub seen_more : (w : Width) (d : ℕ) (samples places low high : List ℕ) (j : ℕ) → j < length places → HasPlaces samples 32 places → HasSeen d samples places j low high
    → HasSeen d samples places (j + 1)
    (sel_l {A = ℕ} (map (top (hbits w)) (zip2 (λ (a b : ℕ). cond (ltb a b) (2 ^ bits w - 1) 0) low (chunk 0 32 (take (get_or places j 0 + 32 - get_or places j 0) (drop (get_or places j 0) samples))))) low
    (chunk 0 32 (take (get_or places j 0 + 32 - get_or places j 0) (drop (get_or places j 0) samples))))
    (sel_l {A = ℕ} (map (top (hbits w)) (zip2 (λ (a b : ℕ). cond (ltb a b) (2 ^ bits w - 1) 0) high (chunk 0 32 (take (get_or places j 0 + 32 - get_or places j 0) (drop (get_or places j 0) samples)))))
    (chunk 0 32 (take (get_or places j 0 + 32 - get_or places j 0) (drop (get_or places j 0) samples))) high)
seen_more w d samples places low high j lt inside before =
    let p = get_or places j 0 in
    let here = chunk 0 32 (take (p + 32 - p) (drop p samples)) in
    let long : length here ≡ 32 = load_size samples p (inside j lt) in
    let less = chosen 32 w ltb low here low here before.low_size long before.low_size long in
    let more = chosen 32 w ltb high here here high before.high_size long long before.high_size in
    record {
      low_size = less.size;
      high_size = more.size;
      lows = λ q i early col. elim (cases_lt q j) [
        | inl old ↦ omega (arith, before.lows q i old col, less.lanes i col, cond-min (get_or low i 0) (get_or here i 0))
        | inr new ↦
            let same : get_or samples (get_or places q 0 + i) d ≡ get_or here i 0 = ap (λ (t : ℕ). get_or samples (get_or places t 0 + i) d) (let e : q ≡ j = omega arith in e) ∙ sym (load_lane samples p i d (inside j lt) col) in
            omega (arith, same, less.lanes i col, cond-min (get_or low i 0) (get_or here i 0))
      ];
      highs = λ q i early col. elim (cases_lt q j) [
        | inl old ↦ omega (arith, before.highs q i old col, more.lanes i col, cond-max (get_or high i 0) (get_or here i 0))
        | inr new ↦
            let same : get_or samples (get_or places q 0 + i) d ≡ get_or here i 0 = ap (λ (t : ℕ). get_or samples (get_or places t 0 + i) d) (let e : q ≡ j = omega arith in e) ∙ sym (load_lane samples p i d (inside j lt) col) in
            omega (arith, same, more.lanes i col, cond-max (get_or high i 0) (get_or here i 0))
      ];
    }

fold_or-first : (a : ℕ) (xs : List ℕ) → a ≤ fold_l bit_or a xs
fold_or-first a [] = omega arith
fold_or-first a (x ∷ xs) = omega (arith, le_or_l a x, fold_or-first (bit_or a x) xs)

fold_or-lane : (a : ℕ) (xs : List ℕ) (i : ℕ) → i < length xs → get_or xs i 0 ≤ fold_l bit_or a xs
fold_or-lane a [] i lt = absurd (omega arith)
fold_or-lane a (x ∷ xs) zero lt = omega (arith, le_or_r a x, fold_or-first (bit_or a x) xs)
fold_or-lane a (x ∷ xs) (suc i) lt = fold_or-lane (bit_or a x) xs i (omega arith)

-- after all places, the lanes of low are where the search begins
pub seen_all : (w : Width) (plus minus : ℕ → ℕ → ℕ) (d j apart : ℕ) (samples places found low high : List ℕ) → IsOfWidth w plus minus d → length places ≤ j → length found ≡ 32 → Each1 (Fits w) high
    → apart ≡ fold_l bit_or 0 (zip2 minus high low) → HasSeen d samples places j low high → AreFrom (λ (s : ℕ). s) d samples places (apart + 1) (put_chunk 0 found low)
seen_all w plus minus d j apart samples places found low high of all whole fit apart-is seen =
    let found-is : (i : ℕ) → i < 32 → get_or (put_chunk 0 found low) i d ≡ get_or low i 0 = λ i col. ap (λ (l : List ℕ). get_or l i d) (put_chunk_whole found low (omega (arith, seen.low_size))) ∙ get_or_default low i d 0 (omega (arith, seen.low_size)) in
    let long : length (zip2 minus high low) ≡ 32 = length-zip2 minus high low (omega (arith, seen.low_size, seen.high_size)) ∙ seen.high_size in
    record {
      low = λ q i lt col. omega (arith, found-is i col, seen.lows q i (omega arith) col);
      high = λ q i lt col.
          let lane : get_or (zip2 minus high low) i 0 ≡ get_or high i 0 - get_or low i 0 = get_or-zip2 minus high low i 0 0 0 (omega (arith, seen.high_size)) (omega (arith, seen.low_size))
          ∙ of.minus_is (get_or high i 0) (get_or low i 0) (omega (arith, seen.lows q i (omega arith) col, seen.highs q i (omega arith) col)) (of.fits (get_or high i 0) (Each1-get_or (Fits w) high i 0 (omega (arith, seen.high_size)) fit)) in
          omega (arith, apart-is, found-is i col, seen.highs q i (omega arith) col, lane, fold_or-lane 0 (zip2 minus high low) i (omega (arith, long)));
    }

-- a part that was overwritten
pub put_at : (counts lanes rest : List ℕ) (at j : ℕ) → at ≤ length counts → j < length lanes → get_or (take at counts ++ (lanes ++ rest)) (at + j) 0 ≡ get_or lanes j 0
put_at counts lanes rest at j fits lt =
    get_or-append_right (take at counts) (lanes ++ rest) at (at + j) 0 (length-take-le at counts fits) (omega arith)
    ∙ ap (λ (t : ℕ). get_or (lanes ++ rest) t 0) (let same : at + j - at ≡ j = omega arith in same)
    ∙ get_or_append_left lanes rest 0 j lt
