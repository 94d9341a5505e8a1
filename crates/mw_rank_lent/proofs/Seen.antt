-- How much of a square is seen, and that the filled median is the median where that is enough.
use Rattle.std.proofs.Common.{◌≡◌, ℕ, ℤ, pos, ◌+ℤ◌, zero, suc, ◌+◌, ◌-◌, ◌*◌, ◌<◌, ◌≤◌, List, [], ◌∷◌, ◌++◌, length, map, ap, sym, subst, arith, ◌∙◌, inl, inr, append-nil}
use Rattle.std.specs.Option.{option_to_list}
use Rattle.std.proofs.lemmas.Bool.{cases_lt}
use Rattle.std.proofs.lemmas.Int.{ints}
use Rattle.mw_model.specs.declared.offsets.Offset.{Offset}
use Rattle.mw_model.specs.PlanSteps.{ranked}
use Rattle.mw_model.specs.Rasters.{Sight}
use Rattle.mw_model.proofs.Ranks.{nth_is, nth_from}
use Rattle.mw_rank_medians.specs.mw_rank.Ranks.{levels_under, levels_at}
use Rattle.mw_rank_medians.specs.mw_rank.Runs.{offsets_from}
use Rattle.mw_rank_medians.specs.mw_rank.Tallies.{count_under}
use Rattle.mw_rank_medians.proofs.mw_rank.Counts.{count-append, count-cons, count_rises, count_within}
use Rattle.mw_rank_medians.proofs.mw_rank.Sights.{levels-append, levels-cons, levels_at-on, length-levels_at, offset_on, offsets-snoc}
use Rattle.mw_rank_medians.specs.Filled.{filled_under, or_top}
use Rattle.mw_rank_medians.specs.Squares.{offset_rows, row_down}
use Rattle.mw_rank_medians.proofs.Beyond.{filled_counted}
use Rattle.mw_rank_lent.specs.Lines.{IsOne}

-- what is seen under one more offset of a row
row_more : {A : Type 0} (level : A → ℕ) (sight : Sight A) (b : Offset) (x y m t : ℕ)
    → count_under t (levels_under level sight (offsets_from b (suc m)) x y) ≡ count_under t (levels_under level sight (offsets_from b m) x y) + count_under t (levels_at level sight b (x + m) y)
row_more level sight b x y m t =
    ap (λ (l : List Offset). count_under t (levels_under level sight l x y)) (offsets-snoc b m)
    ∙ ap (count_under t) (levels-append level sight (offsets_from b m) (offset_on b m ∷ []) x y)
    ∙ count-append t (levels_under level sight (offsets_from b m) x y) (levels_under level sight (offset_on b m ∷ []) x y)
    ∙ ap (λ (l : List ℕ). count_under t (levels_under level sight (offsets_from b m) x y) + count_under t l) (levels-cons level sight (offset_on b m) [] x y ∙ append-nil (levels_at level sight (offset_on b m) x y) ∙ levels_at-on level sight b m x y)

-- of the first m offsets of a row those from number a up to number z are seen
row_seen : {A : Type 0} (level : A → ℕ) (top : ℕ) (sight : Sight A) (b : Offset) (x y a z m : ℕ) → z ≤ m → ((c : ℕ) → a ≤ c → c < z → IsOne top (levels_at level sight b (x + c) y))
    → z ≤ a + count_under (top + 1) (levels_under level sight (offsets_from b m) x y)
row_seen level top sight b x y a z zero le one = omega arith
row_seen level top sight b x y a z (suc m) le one =
    let more = row_more level sight b x y m (top + 1) in
    elim (cases_lt m z) [
      | inl last ↦ elim (cases_lt m a) [
        | inl over ↦ omega arith
        | inr from ↦
            let before = row_seen level top sight b x y a m m (omega arith) (λ c low lt. one c low (omega arith)) in
            let this = one m from last in
            omega (arith, more, before, this)
      ]
      | inr within ↦
          let before = row_seen level top sight b x y a z m within one in
          omega (arith, more, before)
    ]

levels_at-down : {A : Type 0} (level : A → ℕ) (sight : Sight A) (b : Offset) (x y q : ℕ) → levels_at level sight (row_down b q) x y ≡ levels_at level sight b x (y + q)
levels_at-down level sight b x y q = ap (λ (t : ℤ). map level (option_to_list (sight (pos x +ℤ b.dx) t))) (let e : pos y +ℤ (b.dy +ℤ pos q) ≡ pos (y + q) +ℤ b.dy = omega (arith, ints) in e)

-- and of each of n rows
pub rows_seen : {A : Type 0} (level : A → ℕ) (top : ℕ) (sight : Sight A) (b : Offset) (x y a s side n : ℕ) → a + s ≤ side → ((c r : ℕ) → a ≤ c → c < a + s → r < n → IsOne top (levels_at level sight b (x + c) (y + r)))
    → n * s ≤ count_under (top + 1) (levels_under level sight (offset_rows b side n) x y)
rows_seen level top sight b x y a s side zero le one = omega arith
rows_seen level top sight b x y a s side (suc n) le one =
    let before = rows_seen level top sight b x y a s side n le (λ c r low lt less. one c r low lt (omega arith)) in
    let last = row_seen level top sight (row_down b n) x y a (a + s) side le (λ c low lt. ap (count_under (top + 1)) (levels_at-down level sight b (x + c) y n) ∙ one c n low lt (omega arith)) in
    let all = ap (count_under (top + 1)) (levels-append level sight (offset_rows b side n) (offsets_from (row_down b n) side) x y)
    ∙ count-append (top + 1) (levels_under level sight (offset_rows b side n) x y) (levels_under level sight (offsets_from (row_down b n) side) x y) in
    omega (arith, before, last, all, next n s)
  where
    next : (n s : ℕ) → suc n * s ≡ n * s + s
    next n s = omega arith

count_further : (s d : ℕ) (ns : List ℕ) → count_under s ns ≤ count_under (s + d) ns
count_further s zero ns = omega (arith, ap (λ (t : ℕ). count_under t ns) (let e : s + 0 ≡ s = omega arith in e))
count_further s (suc d) ns = omega (arith, count_further s d ns, count_rises (s + d) ns, ap (λ (t : ℕ). count_under t ns) (let e : s + suc d ≡ s + d + 1 = omega arith in e))

-- the filled list counts what is seen, and perhaps more
seen_counted : (top t : ℕ) (here rest full : List ℕ) → length here ≤ 1 → count_under t rest ≤ count_under t full → count_under t (here ++ rest) ≤ count_under t (or_top top here ∷ full)
seen_counted top t [] rest full few le = omega (arith, count-cons t top full, le)
seen_counted top t (v ∷ []) rest full few le = omega (arith, count-cons t v rest, count-cons t v full, le)
seen_counted top t (v ∷ w ∷ vs) rest full few le = absurd (omega arith)

seen_within : {A : Type 0} (level : A → ℕ) (top : ℕ) (sight : Sight A) (bs : List Offset) (x y t : ℕ) → count_under t (levels_under level sight bs x y) ≤ count_under t (filled_under level top sight bs x y)
seen_within level top sight [] x y t = omega arith
seen_within level top sight (b ∷ bs) x y t =
    let more = seen_counted top t (levels_at level sight b x y) (levels_under level sight bs x y) (filled_under level top sight bs x y) (length-levels_at level sight b x y) (seen_within level top sight bs x y t) in
    omega (arith, more, ap (count_under t) (levels-cons level sight b bs x y))

-- where as many are seen as the number of the wanted one, it is the same without what was filled
pub rank_enough : {A : Type 0} (level : A → ℕ) (top : ℕ) (sight : Sight A) (bs : List Offset) (x y k : ℕ) → 1 ≤ k → k ≤ count_under (top + 1) (levels_under level sight bs x y)
    → ranked k (filled_under level top sight bs x y) ≡ ranked k (levels_under level sight bs x y)
rank_enough level top sight bs x y k some enough =
    let full = filled_under level top sight bs x y in
    let seen = levels_under level sight bs x y in
    let v = ranked k full in
    let more = seen_within level top sight bs x y (top + 1) in
    let long = count_within (top + 1) full in
    let short = count_within (top + 1) seen in
    let nth = nth_is full k k (omega (arith, more, long, enough, some)) (omega (arith, more, long, enough, some)) in
    let low : v ≤ top = elim (cases_lt top v) [
      | inl over ↦
          let further = count_further (top + 1) (v - (top + 1)) full in
          let to = ap (λ (t : ℕ). count_under t full) (let e : top + 1 + (v - (top + 1)) ≡ v = omega (arith, over) in e) in
          absurd (omega (arith, further, to, more, enough, nth.0))
      | inr within ↦ within
    ] in
    let few = filled_counted level top sight bs x y v low in
    let above : k ≤ count_under (v + 1) seen = elim (cases_lt v top) [
      | inl under ↦ omega (arith, nth.1, filled_counted level top sight bs x y (v + 1) (omega (arith, under)))
      | inr at ↦
          let is : v ≡ top = omega (arith, at, low) in
          subst (λ (t : ℕ). k ≤ count_under (t + 1) seen) (sym is) enough
    ] in
    nth_from seen k k v (omega (arith, short, enough, some)) (omega (arith, nth.0, few), above)
