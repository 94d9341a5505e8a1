-- The levels that are found are the ranks.
use Rattle.std.proofs.Common.{◌≡◌, ℕ, ℤ, pos, negsuc, ◌+ℤ◌, ◌-ℤ◌, ◌+◌, ◌-◌, ◌*◌, ◌<◌, ◌≤◌, ◌⊎◌, ◌&&◌, inl, inr, Bool, true, false, cond, List, [], ◌∷◌, ◌++◌, map, length, get_or, Option, Some, None, min, max, refl, ap, sym, arith, ◌∙◌, length-append, length-drop, drop, slice_get, subst}
use Rattle.std.specs.Option.{option_to_list}
use Rattle.std.specs.Prelude.{nat_lt}
use Rattle.std.proofs.lemmas.Bool.{cases_lt}
use Rattle.std.proofs.lemmas.List.{get_or_append_left, get_or-append-add, get_or-drop}
use Rattle.std.proofs.lemmas.Nat.{mul-add-lt}
use Rattle.std.proofs.Math.Nat.{mul-le-mul_right}
use Rattle.std.proofs.lemmas.Option.{slice_get-get_or, slice_get_past}
use Rattle.mw_model.specs.declared.offsets.Offset.{Offset}
use Rattle.mw_model.specs.PlanSteps.{ranked}
use Rattle.mw_model.specs.Rasters.{raster, cell_at}
use Rattle.mw_model.specs.Windows.{View, seen_at}
use Rattle.mw_model.proofs.Ranks.{nth_from}
use Rattle.mw_rank_counts.specs.Counting.{AllUnder}
use Rattle.mw_rank_counts.specs.mw_rank.Ranks.{levels_under, levels_at, HasRows}
use Rattle.mw_rank_counts.specs.mw_rank.Tallies.{count_under}
use Rattle.mw_rank_counts.proofs.mw_rank.Counts.{count-append, count-cons, count-zero, one-lt}
use Rattle.mw_rank_counts.proofs.mw_rank.Sights.{levels-cons, length-levels}
use Rattle.mw_rank_rows.specs.declared.rectangle.Rectangle.{Rectangle}
use Rattle.mw_rank_rows.specs.Rectangles.{offsets_of_rows}
use Rattle.mw_rank_rows.specs.Tables.{HasFound}
use Rattle.mw_rank_rows.proofs.Rectangular.{seen_below, seen_whole}
use Rattle.mw_rank_rows.proofs.Views.{add-mul}

-- all that is seen of a window whose levels are below a limit is counted below it
one_within : {A : Type 0} (level : A → ℕ) (limit : ℕ) (o : Option A) → ((a : A) → o ≡ Some a → level a < limit) → count_under limit (map level (option_to_list o)) ≡ length (map level (option_to_list o))
one_within level limit None small = refl
one_within level limit (Some a) small = omega (arith, count-cons limit (level a) [], one-lt (level a) limit (small a refl))

cell_within : {A : Type 0} (level : A → ℕ) (d : A) (width height limit : ℕ) (cells : List A) (column row : ℤ) → AllUnder level d cells limit → (a : A) → cell_at (raster width height cells) column row ≡ Some a → level a < limit
cell_within level d width height limit cells (negsuc n) row under a is = cc
cell_within level d width height limit cells (pos x) (negsuc n) under a is = cc
cell_within level d width height limit cells (pos x) (pos y) under a is = of_test level d limit cells (y * width + x) (nat_lt x width && nat_lt y height) a under is
  where
    of_test : {A : Type 0} (level : A → ℕ) (d : A) (limit : ℕ) (cells : List A) (p : ℕ) (b : Bool) (a : A) → AllUnder level d cells limit → cond b (slice_get cells p) None ≡ Some a → level a < limit
    of_test level d limit cells p false a under is = cc
    of_test level d limit cells p true a under is = elim (cases_lt p (length cells)) [
      | inl inside ↦
          let here : get_or cells p d ≡ a = cc (slice_get-get_or cells p d inside) in
          subst (λ (t : _). level t < limit) here (under p inside)
      | inr past ↦ cc (slice_get_past cells p past)
    ]

levels_within : {A : Type 0} (level : A → ℕ) (d : A) (w : View A) (limit x y : ℕ) (bs : List Offset) → AllUnder level d w.cells limit → count_under limit (levels_under level (seen_at w) bs x y) ≡ length (levels_under level (seen_at w) bs x y)
levels_within level d w limit x y [] under = refl
levels_within level d w limit x y (b ∷ bs) under =
    omega (
      arith,
      ap (count_under limit) (levels-cons level (seen_at w) b bs x y),
      ap length (levels-cons level (seen_at w) b bs x y),
      count-append limit (levels_at level (seen_at w) b x y) (levels_under level (seen_at w) bs x y),
      length-append (levels_at level (seen_at w) b x y) (levels_under level (seen_at w) bs x y),
      one_within level limit (seen_at w (pos x +ℤ b.dx) (pos y +ℤ b.dy)) (cell_within level d w.place.width w.place.height limit w.cells (pos x +ℤ b.dx -ℤ pos w.place.x) (pos y +ℤ b.dy -ℤ pos w.place.y) under),
      levels_within level d w limit x y bs under,
    )

-- the level at which the count passes n is number n; where nothing is seen, it is 0
ranked_at : (ns : List ℕ) (k number n level : ℕ) → number ≡ max 1 (min k 65535) → length ns < 65536 → n ≡ min number (length ns) → (count_under level ns < n) ⊎ (level ≡ 0) → n ≤ count_under (level + 1) ns → level ≡ ranked k ns
ranked_at [] k number n level number-is short n-is few enough = elim few [
  | inl less ↦ absurd (omega (arith, n-is))
  | inr lowest ↦ lowest
]
ranked_at (s ∷ ns) k number n level number-is short n-is few enough =
    nth_from (s ∷ ns) k n level (omega (arith, number-is, n-is)) (
      elim few [
        | inl less ↦ less
        | inr lowest ↦ omega (arith, ap (λ (v : ℕ). count_under v (s ∷ ns)) lowest, count-zero (s ∷ ns), number-is, n-is)
      ],
      enough,
    )

-- what is found of eight rows are their ranks
pub found_ranked : {A : Type 0} (level : A → ℕ) (d : A) (w : View A) (t : Rectangle) (levels k number x y width : ℕ) (made : List A) → AllUnder level d w.cells levels → length (offsets_of_rows t t.rows) < 65536 → number ≡ max 1 (min k 65535)
    → HasFound level levels (seen_below level (seen_at w) t y) t.columns number x width width made → (r q : ℕ) (e : A) → r < 8 → q < width → level (get_or made (r * width + q) e) ≡ ranked k (levels_under level (seen_at w) (offsets_of_rows t t.rows) (x + q) (y + r))
found_ranked level d w t levels k number x y width made under few number-is found r q e down lt =
    let ns = levels_under level (seen_at w) (offsets_of_rows t t.rows) (x + q) (y + r) in
    let same : (v : ℕ) → seen_below level (seen_at w) t y v (x + q) t.columns (7 - r) ≡ count_under v ns = λ v.
    sym (seen_whole level (seen_at w) t v (x + q) (y + (7 - (7 - r))) t.rows) ∙ ap (λ (n : ℕ). count_under v (levels_under level (seen_at w) (offsets_of_rows t t.rows) (x + q) (y + n))) (let back : 7 - (7 - r) ≡ r = omega arith in back) in
    let s = level (get_or made (r * width + q) e) in
    let here = found r q e down lt in
    let all : seen_below level (seen_at w) t y levels (x + q) t.columns (7 - r) ≡ length ns = same levels ∙ levels_within level d w levels (x + q) (y + r) (offsets_of_rows t t.rows) under in
    ranked_at ns k number (min number (seen_below level (seen_at w) t y levels (x + q) t.columns (7 - r))) s number-is
    (omega (arith, length-levels level (seen_at w) (offsets_of_rows t t.rows) (x + q) (y + r))) (ap (min number) all)
    (elim here.few [
      | inl less ↦ inl (omega (arith, less, same s))
      | inr lowest ↦ inr lowest
    ])
    (omega (arith, here.enough, same (s + 1)))

-- some rows more, of which some were there
pub rows_more : {A : Type 0} (level : A → ℕ) (value : ℕ → ℕ → ℕ) (width done from n : ℕ) (out made new : List A) → from ≤ done → done ≤ from + n → length made ≡ n * width → new ≡ out ++ drop ((done - from) * width) made
    → ((r q : ℕ) (e : A) → r < n → q < width → level (get_or made (r * width + q) e) ≡ value q (from + r)) → HasRows level value width done out → HasRows level value width (from + n) new
rows_more level value width done from n out made new low high whole new-is found before =
    let gap = done - from in
    let behind : done * width ≡ from * width + gap * width = ap (λ (m : ℕ). m * width) (let e : done ≡ from + gap = omega arith in e) ∙ add-mul from gap width in
    record {
      size = ap length new-is ∙ length-append out (drop (gap * width) made) ∙ omega (arith, length-drop (gap * width) made, whole, before.size, behind, add-mul from n width, mul-le-mul_right width (let e : gap ≤ n = omega arith in e));
      made = λ x j d lt down. elim (cases_lt j done) [
        | inl early ↦ ap (λ (l : List _). level (get_or l (j * width + x) d)) new-is ∙ ap level (get_or_append_left out (drop (gap * width) made) d (j * width + x) (omega (arith, before.size, mul-add-lt j width x done early lt))) ∙ before.made x j d lt early
        | inr late ↦
            let on = j - done in
            let ahead : j * width ≡ done * width + on * width = ap (λ (m : ℕ). m * width) (let e : j ≡ done + on = omega arith in e) ∙ add-mul done on width in
            let both : (j - from) * width ≡ gap * width + on * width = ap (λ (m : ℕ). m * width) (let e : j - from ≡ gap + on = omega arith in e) ∙ add-mul gap on width in
            ap (λ (l : List _). level (get_or l (j * width + x) d)) new-is
            ∙ ap (λ (p : ℕ). level (get_or (out ++ drop (gap * width) made) p d)) (let e : j * width + x ≡ length out + (on * width + x) = omega (arith, before.size, ahead) in e)
            ∙ ap level (get_or-append-add out (drop (gap * width) made) (on * width + x) d ∙ get_or-drop (gap * width) made (on * width + x) d)
            ∙ ap (λ (p : ℕ). level (get_or made p d)) (let e : gap * width + (on * width + x) ≡ (j - from) * width + x = omega (arith, both) in e)
            ∙ found (j - from) x d (omega arith) lt
            ∙ ap (value x) (let e : from + (j - from) ≡ j = omega arith in e)
      ];
    }

pub no_rows : {A : Type 0} (level : A → ℕ) (value : ℕ → ℕ → ℕ) (width : ℕ) (items : List A) → items ≡ [] → HasRows level value width 0 items
no_rows level value width items none = record { size = ap length none ∙ (let e : 0 ≡ 0 * width = omega arith in e); made = λ x j d lt less. absurd (omega arith) }
