-- A search for ranks of 16 bits by a search for ranks of bytes.
use Rattle.std.proofs.Common.{◌≡◌, ℕ, zero, suc, ◌+◌, ◌-◌, ◌*◌, ◌/◌, ◌^◌, ◌<◌, ◌≤◌, List, length, get_or, take, refl, ap, sym, arith, ◌∙◌, inl, inr, subst, cond}
use Rattle.std.specs.Prelude.{nat_lt}
use Rattle.std.proofs.lemmas.Bool.{cases_lt, lt-ltb, le-ltb}
use Rattle.std.proofs.lemmas.List.{take_all, get_or_default, get_or_past}
use Rattle.std.proofs.lemmas.Nat.{pow_pos, pow-add, le-div, div_below}
use Rattle.std.proofs.Math.Nat.{mul-le-mul_right, pow-le-pow_right}
use Rattle.mw_rank.specs.Tallies.{count_under}
use Rattle.mw_rank.proofs.Counts.{count-zero, count_rises}
use Rattle.mw_rank_counts.specs.Counting.{levels_on, HasPlaces, IsBetween}
use Rattle.mw_rank_counts.specs.Squeezed.{squeezed}
use Rattle.mw_rank_counts.proofs.Counts.{count_all}
use Rattle.mw_rank_counts.proofs.Lanes.{count_one_more}

-- a byte is below t where the sample is below the level for which t stands
squeezed_test : (rest v t s : ℕ) → 1 ≤ t → t ≤ 255 → nat_lt (squeezed rest v s) t ≡ nat_lt s (v + t * 2 ^ rest)
squeezed_test rest v t s some few =
    let far : 1 * 2 ^ rest ≤ t * 2 ^ rest = mul-le-mul_right (2 ^ rest) some in
    elim (cases_lt s (v + t * 2 ^ rest)) [
      | inl low ↦
          let under : (s - v) / 2 ^ rest < t = div_below (s - v) (2 ^ rest) t (pow_pos rest) (omega (arith, far, pow_pos rest)) in
          lt-ltb (squeezed rest v s) t (omega arith) ∙ sym (lt-ltb s (v + t * 2 ^ rest) low)
      | inr high ↦
          let over : t ≤ (s - v) / 2 ^ rest = le-div t (s - v) (2 ^ rest) (pow_pos rest) (omega arith) in
          le-ltb (squeezed rest v s) t (omega arith) ∙ sym (le-ltb s (v + t * 2 ^ rest) high)
    ]

-- in a column, the bytes at their places are the samples above a level
pub record AreSqueezed (samples places bytes steps : List ℕ) (rest v i : ℕ) : Type 0 where
  pub size : length steps ≡ length places
  pub same : (q : ℕ) → q < length places → get_or bytes (get_or steps q 0 + i) 255 ≡ squeezed rest v (get_or samples (get_or places q 0 + i) 65535)

one_more : {A : Type 0} (f : List ℕ → A) (xs : List ℕ) (j : ℕ) → f (take (suc j) xs) ≡ f (take (j + 1) xs)
one_more f xs j = ap (λ (n : ℕ). f (take n xs)) (let e : suc j ≡ j + 1 = omega arith in e)

counts_first : (samples places bytes steps : List ℕ) (rest v t i j : ℕ) → 1 ≤ t → t ≤ 255 → j ≤ length places → AreSqueezed samples places bytes steps rest v i
    → count_under t (levels_on (λ (s : ℕ). s) 255 bytes (take j steps) i) ≡ count_under (v + t * 2 ^ rest) (levels_on (λ (s : ℕ). s) 65535 samples (take j places) i)
counts_first samples places bytes steps rest v t i zero some few le are = refl
counts_first samples places bytes steps rest v t i (suc j) some few le are =
    let byte = get_or bytes (get_or steps j 0 + i) 255 in
    let sample = get_or samples (get_or places j 0 + i) 65535 in
    let same : ◌≡◌ {A = ℕ} (cond (nat_lt byte t) 1 0) (cond (nat_lt sample (v + t * 2 ^ rest)) 1 0) =
    ap (λ (b : ℕ). cond (nat_lt b t) 1 0) (are.same j (omega arith)) ∙ ap (λ (b : _). cond b 1 0) (squeezed_test rest v t sample some few) in
    one_more (λ (l : List ℕ). count_under t (levels_on (λ (s : ℕ). s) 255 bytes l i)) steps j
    ∙ omega (
      arith,
      count_one_more 255 bytes steps t i j (omega (arith, are.size)),
      count_one_more 65535 samples places (v + t * 2 ^ rest) i j (omega arith),
      counts_first samples places bytes steps rest v t i j some few (omega arith) are,
      same,
    )
    ∙ sym (one_more (λ (l : List ℕ). count_under (v + t * 2 ^ rest) (levels_on (λ (s : ℕ). s) 65535 samples l i)) places j)

-- so they count as the samples do
counts_squeezed : (samples places bytes steps : List ℕ) (rest v t i : ℕ) → 1 ≤ t → t ≤ 255 → AreSqueezed samples places bytes steps rest v i
    → count_under t (levels_on (λ (s : ℕ). s) 255 bytes steps i) ≡ count_under (v + t * 2 ^ rest) (levels_on (λ (s : ℕ). s) 65535 samples places i)
counts_squeezed samples places bytes steps rest v t i some few are =
    ap (λ (l : List ℕ). count_under t (levels_on (λ (s : ℕ). s) 255 bytes l i)) (sym (take_all (length places) steps (omega (arith, are.size))))
    ∙ counts_first samples places bytes steps rest v t i (length places) some few (omega arith) are
    ∙ ap (λ (l : List ℕ). count_under (v + t * 2 ^ rest) (levels_on (λ (s : ℕ). s) 65535 samples l i)) (take_all (length places) places (omega arith))

-- the search for the byte
pub begun_by_bytes : (samples places bytes steps : List ℕ) (n rest bits v i : ℕ) → n ≤ length places → AreSqueezed samples places bytes steps rest v i → IsBetween n v (2 ^ (bits + rest)) (levels_on (λ (s : ℕ). s) 65535 samples places i)
    → IsBetween n 0 (2 ^ bits) (levels_on (λ (s : ℕ). s) 255 bytes steps i)
begun_by_bytes samples places bytes steps n rest bits v i rank are t =
    let ms = levels_on (λ (s : ℕ). s) 255 bytes steps i in
    let ns = levels_on (λ (s : ℕ). s) 65535 samples places i in
    record {
      few = omega (arith, count-zero ms, t.few);
      enough = elim (cases_lt 255 (2 ^ bits)) [
        | inl over ↦ omega (arith, are.size, count_all (λ (s : ℕ). s) 255 bytes (0 + 2 ^ bits) i steps (λ q lt. omega (arith, are.size, are.same q (omega (arith, are.size)))))
        | inr within ↦
            let far : count_under (v + 2 ^ bits * 2 ^ rest) ns ≡ count_under (v + 2 ^ (bits + rest)) ns = ap (λ (p : ℕ). count_under (v + p) ns) (sym (pow-add 2 bits rest)) in
            let from : count_under (0 + 2 ^ bits) ms ≡ count_under (2 ^ bits) ms = ap (λ (p : ℕ). count_under p ms) (let e : 0 + 2 ^ bits ≡ 2 ^ bits = omega arith in e) in
            omega (arith, from, counts_squeezed samples places bytes steps rest v (2 ^ bits) i (omega (arith, pow_pos bits)) within are, far, t.enough)
      ];
    }

count_climbs : (ns : List ℕ) (a d : ℕ) → count_under a ns ≤ count_under (a + d) ns
count_climbs ns a zero = omega (arith, ap (λ (p : ℕ). count_under p ns) (let e : a + 0 ≡ a = omega arith in e))
count_climbs ns a (suc d) = omega (arith, count_climbs ns a d, count_rises (a + d) ns, ap (λ (p : ℕ). count_under p ns) (let e : a + suc d ≡ a + d + 1 = omega arith in e))

count_mono : (ns : List ℕ) (a b : ℕ) → a ≤ b → count_under a ns ≤ count_under b ns
count_mono ns a b le = omega (arith, count_climbs ns a (b - a), ap (λ (p : ℕ). count_under p ns) (let e : a + (b - a) ≡ b = omega arith in e))

one_step : (h p : ℕ) → (h + 1) * p ≡ h * p + p
one_step h p = grind arith

-- with the byte found, the search goes on among the low bits
pub narrowed_by_bytes : (samples places bytes steps : List ℕ) (n rest bits v h i : ℕ) → bits ≤ 8 → h ≤ 255 → AreSqueezed samples places bytes steps rest v i → IsBetween n v (2 ^ (bits + rest)) (levels_on (λ (s : ℕ). s) 65535 samples places i)
    → IsBetween n h (2 ^ 0) (levels_on (λ (s : ℕ). s) 255 bytes steps i) → IsBetween n (v + h * 2 ^ rest) (2 ^ rest) (levels_on (λ (s : ℕ). s) 65535 samples places i)
narrowed_by_bytes samples places bytes steps n rest bits v h i short byte are t last =
    let ns = levels_on (λ (s : ℕ). s) 65535 samples places i in
    let next : v + h * 2 ^ rest + 2 ^ rest ≡ v + (h + 1) * 2 ^ rest = omega (arith, one_step h (2 ^ rest)) in
    record {
      few = elim (cases_lt 0 h) [
        | inl some ↦ omega (arith, counts_squeezed samples places bytes steps rest v h i some byte are, last.few)
        | inr none ↦ omega (arith, t.few, ap (λ (p : ℕ). count_under (v + p * 2 ^ rest) ns) (let e : h ≡ 0 = omega arith in e), ap (λ (p : ℕ). count_under p ns) (let e : v + 0 * 2 ^ rest ≡ v = omega arith in e))
      ];
      enough = elim (cases_lt h 255) [
        | inl low ↦ omega (arith, counts_squeezed samples places bytes steps rest v (h + 1) i (omega arith) (omega arith) are, last.enough, ap (λ (p : ℕ). count_under p ns) next)
        | inr top ↦
            let most : 2 ^ bits ≤ 2 ^ 8 = pow-le-pow_right (omega arith) short in
            let whole : 2 ^ bits * 2 ^ rest ≤ (h + 1) * 2 ^ rest = mul-le-mul_right (2 ^ rest) (omega (arith, most)) in
            omega (arith, t.enough, count_mono ns (v + 2 ^ (bits + rest)) (v + h * 2 ^ rest + 2 ^ rest) (omega (arith, pow-add 2 bits rest, whole, next)))
      ];
    }

-- lanes that fit, whatever stands for those that are not there
pub fits_past : (xs : List ℕ) (most : ℕ) → ((k : ℕ) → get_or xs k 0 ≤ most) → (k : ℕ) → get_or xs k most ≤ most
fits_past xs most small k = elim (cases_lt k (length xs)) [
  | inl inside ↦ omega (arith, small k, get_or_default xs k 0 most inside)
  | inr past ↦ omega (arith, get_or_past xs k most past)
]

-- a level that the search comes to is no higher than all samples
pub found_small : (samples places : List ℕ) (n range u i : ℕ) → n ≤ length places → HasPlaces samples 32 places → ((j : ℕ) → get_or samples j 0 ≤ 65535) → IsBetween n u range (levels_on (λ (s : ℕ). s) 65535 samples places i) → u < 65536
found_small samples places n range u i rank inside small t = elim (cases_lt u 65536) [
  | inl low ↦ low
  | inr high ↦ absurd (omega (arith, t.few, count_all (λ (s : ℕ). s) 65535 samples u i places (λ q lt. omega (arith, fits_past samples 65535 small (get_or places q 0 + i)))))
]

-- nor is a byte
byte_small : (samples places bytes steps : List ℕ) (n rest range v h i : ℕ) → n ≤ length places → AreSqueezed samples places bytes steps rest v i → IsBetween n h range (levels_on (λ (s : ℕ). s) 255 bytes steps i) → h ≤ 255
byte_small samples places bytes steps n rest range v h i rank are t = elim (cases_lt 255 h) [
  | inl high ↦ absurd (omega (arith, t.few, are.size, count_all (λ (s : ℕ). s) 255 bytes h i steps (λ q lt. omega (arith, are.size, are.same q (omega (arith, are.size))))))
  | inr low ↦ low
]

-- the samples at all places stand as bytes
pub record AreBytes (samples places bytes steps found : List ℕ) (rest : ℕ) : Type 0 where
  pub size : length steps ≡ length places
  pub at : (q : ℕ) → q < length steps → get_or steps q 0 ≡ q * 32
  pub room : length places * 32 ≤ length bytes
  pub inside : HasPlaces samples 32 places
  pub whole : length found ≡ 32
  pub same : (q i : ℕ) → q < length places → i < 32 → get_or bytes (q * 32 + i) 0 ≡ squeezed rest (get_or found i 0) (get_or samples (get_or places q 0 + i) 0)

are_squeezed : (samples places bytes steps found : List ℕ) (rest i : ℕ) → i < 32 → AreBytes samples places bytes steps found rest → AreSqueezed samples places bytes steps rest (get_or found i 65535) i
are_squeezed samples places bytes steps found rest i less are = record {
  size = are.size;
  same = λ q lt.
      let at = get_or places q 0 + i in
      ap (λ (p : ℕ). get_or bytes (p + i) 255) (are.at q (omega (arith, are.size)))
      ∙ get_or_default bytes (q * 32 + i) 255 0 (omega (arith, are.room))
      ∙ are.same q i lt less
      ∙ ap (λ (v : ℕ). squeezed rest v (get_or samples at 0)) (get_or_default found i 0 65535 (omega (arith, are.whole)))
      ∙ ap (squeezed rest (get_or found i 65535)) (get_or_default samples at 0 65535 (omega (arith, are.inside q lt)));
}

-- the search for a column's byte begins at 0
pub lane_begun : (samples places bytes steps found : List ℕ) (n rest bits h i : ℕ) → n ≤ length places → i < 32 → h < 1 → AreBytes samples places bytes steps found rest
    → IsBetween n (get_or found i 65535) (2 ^ (bits + rest)) (levels_on (λ (s : ℕ). s) 65535 samples places i) → IsBetween n h (2 ^ bits) (levels_on (λ (s : ℕ). s) 255 bytes steps i)
lane_begun samples places bytes steps found n rest bits h i rank lt none are t =
    subst (λ (u : ℕ). IsBetween n u (2 ^ bits) (levels_on (λ (s : ℕ). s) 255 bytes steps i)) (let e : 0 ≡ h = omega arith in e)
    (begun_by_bytes samples places bytes steps n rest bits (get_or found i 65535) i rank (are_squeezed samples places bytes steps found rest i lt are) t)

-- a level that is raised by its byte stands where the search for the low bits begins
pub lane_narrowed : (samples places bytes steps found ranks : List ℕ) (n rest bits i : ℕ) → n ≤ length places → bits ≤ 8 → length ranks ≡ 32 → i < 32 → AreBytes samples places bytes steps found rest
    → IsBetween n (get_or found i 65535) (2 ^ (bits + rest)) (levels_on (λ (s : ℕ). s) 65535 samples places i) → IsBetween n (get_or ranks i 255) (2 ^ 0) (levels_on (λ (s : ℕ). s) 255 bytes steps i)
    → IsBetween n (get_or found i 0 + get_or ranks i 0 * 2 ^ rest) (2 ^ rest) (levels_on (λ (s : ℕ). s) 65535 samples places i)
lane_narrowed samples places bytes steps found ranks n rest bits i within short full lt are t last =
    let level = get_or_default found i 65535 0 (omega (arith, are.whole)) in
    let squeezed-are = are_squeezed samples places bytes steps found rest i lt are in
    let rank : IsBetween n (get_or ranks i 0) (2 ^ 0) (levels_on (λ (s : ℕ). s) 255 bytes steps i) = subst (λ (h : ℕ). IsBetween n h (2 ^ 0) (levels_on (λ (s : ℕ). s) 255 bytes steps i)) (get_or_default ranks i 255 0 (omega arith)) last in
    let small : get_or ranks i 0 ≤ 255 = byte_small samples places bytes steps n rest (2 ^ 0) (get_or found i 65535) (get_or ranks i 0) i within squeezed-are rank in
    subst (λ (u : ℕ). IsBetween n u (2 ^ rest) (levels_on (λ (s : ℕ). s) 65535 samples places i)) (ap (λ (v : ℕ). v + get_or ranks i 0 * 2 ^ rest) level)
    (narrowed_by_bytes samples places bytes steps n rest bits (get_or found i 65535) (get_or ranks i 0) i short small squeezed-are t rank)
