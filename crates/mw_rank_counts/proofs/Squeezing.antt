-- Samples as bytes, 32 of each place.
use Rattle.std.proofs.Common.{◌≡◌, ℕ, ◌+◌, ◌-◌, ◌*◌, ◌/◌, ◌%◌, ◌^◌, ◌<◌, ◌≤◌, ◌⊎◌, inl, inr, cond, ltb, List, [], ◌∷◌, ◌++◌, length, map, take, replicate, get_or, refl, ap, sym, arith, ◌∙◌, length-append}
use Rattle.std.specs.Int.{w8, w16}
use Rattle.std.specs.Prelude.{min, max}
use Rattle.std.proofs.lemmas.List.{get_or-replicate, get_or_append_left, get_or-append-add, take_all, map-id}
use Rattle.std.proofs.lemmas.Bool.{cases_lt}
use Rattle.std.proofs.lemmas.Simd.{length-zip2, get_or-zip2, put_chunk_whole, Each1-get_or, Each1-from_get_or}
use mir.Val.{bits, hbits, Fits}
use lib.Lanes.{zip2, sel_l, top, put_chunk, Each1}
use Rattle.mw_model.proofs.mw_facts.Numbers.{cond-min, cond-max}
use Rattle.mw_rank_counts.specs.Squeezed.{squeezed}
use Rattle.mw_rank_counts.proofs.Lanes.{IsChosen, chosen}

-- the lanes are these numbers
pub record AreLanes (value : ℕ → ℕ) (xs : List ℕ) : Type 0 where
  pub size : length xs ≡ 32
  pub lanes : (i : ℕ) → i < 32 → get_or xs i 0 ≡ value i

-- how far the lanes are above others
abbrev pub above_of : List ℕ → List ℕ → List ℕ
above_of here from = zip2 (λ (x y : ℕ). (x + (65536 - y)) % 65536) (sel_l {A = ℕ} (map (top (hbits w16)) (zip2 (λ (a b : ℕ). cond (ltb a b) (2 ^ bits w16 - 1) 0) here from)) from here) from

above_are : (here from : List ℕ) → length here ≡ 32 → length from ≡ 32 → Each1 (Fits w16) here → Each1 (Fits w16) from → AreLanes (λ i. get_or here i 0 - get_or from i 0) (above_of here from)
above_are here from here-long from-long here-fit from-fit =
    let are : IsChosen 32 ltb here from from here _ = chosen 32 w16 ltb here from from here here-long from-long from-long here-long in
    record {
      size = length-zip2 (λ (x y : ℕ). (x + (65536 - y)) % 65536) _ from (omega (arith, are.size)) ∙ are.size;
      lanes = λ i lt.
          let h = get_or here i 0 in
          let f = get_or from i 0 in
          let h-small : h < 65536 = (Each1-get_or (Fits w16) here i 0 (omega arith) here-fit).fits in
          let f-small : f < 65536 = (Each1-get_or (Fits w16) from i 0 (omega arith) from-fit).fits in
          get_or-zip2 (λ (x y : ℕ). (x + (65536 - y)) % 65536) _ from i 0 0 0 (omega (arith, are.size)) (omega arith)
          ∙ ap (λ (t : ℕ). (t + (65536 - f)) % 65536) (are.lanes i lt ∙ cond-max h f)
          ∙ wrapped h f h-small f-small;
    }
  where
    wrapped : (h f : ℕ) → h < 65536 → f < 65536 → (max h f + (65536 - f)) % 65536 ≡ h - f
    wrapped h f h-small f-small = omega arith

-- lanes without their low bits
abbrev pub high_of : ℕ → List ℕ → List ℕ
high_of rest xs = zip2 (λ (a b : ℕ). a / 2 ^ b) xs (replicate 32 rest)

high_are : (rest : ℕ) (value : ℕ → ℕ) (xs : List ℕ) → AreLanes value xs → AreLanes (λ i. value i / 2 ^ rest) (high_of rest xs)
high_are rest value xs are = record {
  size = length-zip2 (λ (a b : ℕ). a / 2 ^ b) xs (replicate 32 rest) are.size ∙ are.size;
  lanes = λ i lt.
      get_or-zip2 (λ (a b : ℕ). a / 2 ^ b) xs (replicate 32 rest) i 0 0 0 (omega (arith, are.size)) lt
      ∙ ap (λ (t : ℕ). get_or xs i 0 / 2 ^ t) (get_or-replicate 32 i rest 0 lt)
      ∙ ap (λ (t : ℕ). t / 2 ^ rest) (are.lanes i lt);
}

-- lanes that are at most 255
abbrev pub least_of : List ℕ → List ℕ
least_of xs = sel_l {A = ℕ} (map (top (hbits w16)) (zip2 (λ (a b : ℕ). cond (ltb a b) (2 ^ bits w16 - 1) 0) xs (replicate 32 255))) xs (replicate 32 255)

least_are : (value : ℕ → ℕ) (xs : List ℕ) → AreLanes value xs → AreLanes (λ i. min (value i) 255) (least_of xs)
least_are value xs x =
    let most : List ℕ = replicate 32 255 in
    let are : IsChosen 32 ltb xs most xs most _ = chosen 32 w16 ltb xs most xs most x.size refl x.size refl in
    record {
      size = are.size;
      lanes = λ i lt.
          are.lanes i lt
          ∙ cond-min (get_or xs i 0) (get_or most i 0)
          ∙ ap (λ (t : ℕ). min t (get_or most i 0)) (x.lanes i lt)
          ∙ ap (min (value i)) (get_or-replicate 32 i 255 0 lt);
    }

-- the samples as bytes
pub squeezed_are : (rest : ℕ) (here from : List ℕ) → length here ≡ 32 → length from ≡ 32 → Each1 (Fits w16) here → Each1 (Fits w16) from
    → AreLanes (λ i. squeezed rest (get_or from i 0) (get_or here i 0)) (least_of (high_of rest (above_of here from)))
squeezed_are rest here from here-long from-long here-fit from-fit = least_are _ _ (high_are rest _ _ (above_are here from here-long from-long here-fit from-fit))

pub squeezed_fit : (rest : ℕ) (here from : List ℕ) → length here ≡ 32 → length from ≡ 32 → Each1 (Fits w16) here → Each1 (Fits w16) from → Each1 (Fits w8) (least_of (high_of rest (above_of here from)))
squeezed_fit rest here from here-long from-long here-fit from-fit =
    let are = squeezed_are rest here from here-long from-long here-fit from-fit in
    Each1-from_get_or (Fits w8) _ 0 (λ i lt. record { fits = omega (arith, are.size, are.lanes i (omega (arith, are.size))) })

-- one place more
pub one_place_more : (items new : List ℕ) (q : ℕ) → new ≡ items ++ (q * 32) ∷ [] → length items ≡ q → ((j : ℕ) → j < q → get_or items j 0 ≡ j * 32) → (j : ℕ) → j < q + 1 → get_or new j 0 ≡ j * 32
one_place_more items new q is long before j lt = elim (cases_lt j q) [
  | inl early ↦ ap (λ (l : List ℕ). get_or l j 0) is ∙ get_or_append_left items ((q * 32) ∷ []) 0 j (omega arith) ∙ before j early
  | inr late ↦ ap (λ (l : List ℕ). get_or l j 0) is ∙ ap (λ (p : ℕ). get_or (items ++ (q * 32) ∷ []) p 0) (let e : j ≡ length items + 0 = omega arith in e) ∙ get_or-append-add items ((q * 32) ∷ []) 0 0 ∙ (let e : q * 32 ≡ j * 32 = omega arith in e)
]

pub one_place_long : (items new : List ℕ) (q : ℕ) → new ≡ items ++ (q * 32) ∷ [] → length items ≡ q → length new ≡ q + 1
one_place_long items new q is long = omega (arith, ap length is, length-append items ((q * 32) ∷ []))

-- the bytes of one place more
pub bytes_more : (value : ℕ → ℕ → ℕ) (old new lanes : List ℕ) (j : ℕ) → ((i : ℕ) → i < 32 → get_or new (j * 32 + i) 0 ≡ get_or lanes i 0) → ((p : ℕ) → (p < j * 32) ⊎ (j * 32 + 32 ≤ p) → get_or new p 0 ≡ get_or old p 0) → ((i : ℕ) → i < 32 → get_or lanes i 0 ≡ value j i)
    → ((q i : ℕ) → q < j → i < 32 → get_or old (q * 32 + i) 0 ≡ value q i) → (q i : ℕ) → q < j + 1 → i < 32 → get_or new (q * 32 + i) 0 ≡ value q i
bytes_more value old new lanes j put others are before q i less lt = elim (cases_lt q j) [
  | inl early ↦ others (q * 32 + i) (inl (omega arith)) ∙ before q i early lt
  | inr late ↦
      let here : q ≡ j = omega arith in
      ap (λ (t : ℕ). get_or new (t * 32 + i) 0) here ∙ put i lt ∙ are i lt ∙ ap (λ (t : ℕ). value t i) (sym here)
]

-- levels that are raised by ranks, which stand for so many bits more
pub lifted : (rest : ℕ) (found ranks : List ℕ) → length found ≡ 32 → length ranks ≡ 32 → ((i : ℕ) → i < 32 → get_or found i 0 + get_or ranks i 0 * 2 ^ rest < 65536) → (i : ℕ) → i < 32
    → get_or (put_chunk 0 found (zip2 (λ (x y : ℕ). (x + y) % 65536) (take 32 found) (zip2 (λ (a b : ℕ). a * 2 ^ b % 65536) (map (λ (x : ℕ). x) (take 32 ranks)) (replicate 32 rest)))) i 0 ≡ get_or found i 0 + get_or ranks i 0 * 2 ^ rest
lifted rest found ranks whole full room i lt =
    let old = take 32 found in
    let old-is : old ≡ found = take_all 32 found (omega arith) in
    let up = map (λ (x : ℕ). x) (take 32 ranks) in
    let up-is : up ≡ ranks = map-id (take 32 ranks) ∙ take_all 32 ranks (omega arith) in
    let more = zip2 (λ (a b : ℕ). a * 2 ^ b % 65536) up (replicate 32 rest) in
    let more-long : length more ≡ 32 = length-zip2 (λ (a b : ℕ). a * 2 ^ b % 65536) up (replicate 32 rest) (ap length up-is ∙ full) ∙ ap length up-is ∙ full in
    let sum = zip2 (λ (x y : ℕ). (x + y) % 65536) old more in
    let sum-long : length sum ≡ 32 = length-zip2 (λ (x y : ℕ). (x + y) % 65536) old more (omega (arith, ap length old-is)) ∙ ap length old-is ∙ whole in
    let h = get_or ranks i 0 * 2 ^ rest in
    let small : get_or found i 0 + h < 65536 = room i lt in
    let more-lane : get_or more i 0 ≡ h % 65536 = get_or-zip2 (λ (a b : ℕ). a * 2 ^ b % 65536) up (replicate 32 rest) i 0 0 0 (omega (arith, ap length up-is)) lt
    ∙ ap (λ (t : ℕ). get_or up i 0 * 2 ^ t % 65536) (get_or-replicate 32 i rest 0 lt)
    ∙ ap (λ (l : List ℕ). get_or l i 0 * 2 ^ rest % 65536) up-is in
    ap (λ (l : List ℕ). get_or l i 0) (put_chunk_whole found sum (omega arith))
    ∙ get_or-zip2 (λ (x y : ℕ). (x + y) % 65536) old more i 0 0 0 (omega (arith, ap length old-is)) (omega arith)
    ∙ ap (λ (l : List ℕ). (get_or l i 0 + get_or more i 0) % 65536) old-is
    ∙ ap (λ (t : ℕ). (get_or found i 0 + t) % 65536) more-lane
    ∙ (let e : (get_or found i 0 + h % 65536) % 65536 ≡ get_or found i 0 + h = omega arith in e)
