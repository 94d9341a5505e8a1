-- Ranks of pixels of a set: 1 where few enough of what is seen are 0, and something is 1.
use Rattle.std.proofs.Common.{◌≡◌, ℕ, ◌+◌, ◌-◌, ◌*◌, ◌<◌, ◌≤◌, min, max, All, cond, List, [], ◌∷◌, length, map, fold, Option, Some, None, IfSome, slice_get, ℤ, pos, negsuc, ◌+ℤ◌, ◌-ℤ◌, Bool, true, false, refl, ap, subst, sym, arith, ◌∙◌, inl, inr}
use Rattle.std.specs.Prelude.{◌&&◌, nat_lt}
use Rattle.std.specs.List.{AllByRecursion, cons_option}
use Rattle.std.proofs.lemmas.Bool.{cases_lt, lt-ltb, le-ltb}
use Rattle.std.proofs.lemmas.List.Sums.{sum_by-cons}
use Rattle.std.proofs.lemmas.Option.{slice_get-get_or, slice_get_past}
use Rattle.mw_model.specs.declared.offsets.Offset.{Offset}
use Rattle.mw_model.specs.PlanSteps.{ranked}
use Rattle.mw_model.specs.Rasters.{Raster, Sight, raster, cell_at, seen_under}
use Rattle.mw_model.specs.Windows.{View, seen_at}
use Rattle.mw_model.proofs.Ranks.{count_under, nth_from}
use Rattle.mw_rank_bits.specs.Elements.{single_run, lack_at, lacks_under}

count-cons : (limit n : ℕ) (ns : List ℕ) → count_under limit (n ∷ ns) ≡ cond (nat_lt n limit) 1 0 + count_under limit ns
count-cons limit n ns = sum_by-cons (λ s. cond (nat_lt s limit) 1 0) n ns

one-lt : (s v : ℕ) → s < v → ◌≡◌ {A = ℕ} (cond (nat_lt s v) 1 0) 1
one-lt s v lt = rw (lt-ltb s v lt) refl

one-le : (s v : ℕ) → v ≤ s → ◌≡◌ {A = ℕ} (cond (nat_lt s v) 1 0) 0
one-le s v le = rw (le-ltb s v le) refl

count_none : (ns : List ℕ) → count_under 0 ns ≡ 0
count_none [] = refl
count_none (n ∷ ns) = omega (arith, count-cons 0 n ns, one-le n 0 (omega arith), count_none ns)

count_all : (ns : List ℕ) → AllByRecursion (λ m. m ≤ 1) ns → count_under 2 ns ≡ length ns
count_all [] all = refl
count_all (n ∷ ns) all = let le = all.0 in omega (arith, count-cons 2 n ns, one-lt n 2 (omega arith), count_all ns all.1)

count_within : (ns : List ℕ) → count_under 1 ns ≤ length ns
count_within [] = omega arith
count_within (n ∷ ns) = elim (cases_lt n 1) [
  | inl low ↦ omega (arith, count-cons 1 n ns, one-lt n 1 low, count_within ns)
  | inr high ↦ omega (arith, count-cons 1 n ns, one-le n 1 high, count_within ns)
]

-- the greatest is 1 where not all are 0
greatest_is : (a : ℕ) (ns : List ℕ) → a ≤ 1 → AllByRecursion (λ m. m ≤ 1) ns → fold max a ns ≡ max a (min 1 (length ns - count_under 1 ns))
greatest_is a [] le all = let none : max a (min 1 (0 - 0)) ≡ a = omega arith in sym none
greatest_is a (n ∷ ns) le all =
    let small = all.0 in
    let rest = greatest_is (max a n) ns (omega arith) all.1 in
    let within = count_within ns in
    elim (cases_lt n 1) [
      | inl low ↦ rest ∙ lower a n (length ns) (count_under 1 ns) (count_under 1 (n ∷ ns)) (length (n ∷ ns)) low (omega (arith, count-cons 1 n ns, one-lt n 1 low)) (omega arith)
      | inr high ↦ rest ∙ upper a n (length ns) (count_under 1 ns) (count_under 1 (n ∷ ns)) (length (n ∷ ns)) le small high within (omega (arith, count-cons 1 n ns, one-le n 1 high)) (omega arith)
    ]
  where
    lower : (a n m z y l : ℕ) → n < 1 → y ≡ 1 + z → l ≡ 1 + m → max (max a n) (min 1 (m - z)) ≡ max a (min 1 (l - y))
    lower a n m z y l low y-is l-is = omega arith

    upper : (a n m z y l : ℕ) → a ≤ 1 → n ≤ 1 → 1 ≤ n → z ≤ m → y ≡ z → l ≡ 1 + m → max (max a n) (min 1 (m - z)) ≡ max a (min 1 (l - y))
    upper a n m z y l le small high within y-is l-is = omega arith

pub ranked_set : (k number n : ℕ) (ns : List ℕ) → AllByRecursion (λ m. m ≤ 1) ns → length ns ≤ n → number ≡ min (max k 1) (n + 1) → min (cond (nat_lt (count_under 1 ns) number) 1 0) (fold max 0 ns) ≡ ranked k ns
ranked_set k number n ns small few number-is =
    let z = count_under 1 ns in
    let m = length ns in
    let within = count_within ns in
    let all = count_all ns small in
    let none = count_none ns in
    let most = greatest_is 0 ns (omega arith) small in
    elim (cases_lt 0 m) [
      | inr empty ↦ is_empty ns (cond (nat_lt z number) 1 0) empty
      | inl some ↦
          let place = max 1 (min k m) in
          elim (cases_lt z place) [
            | inl low ↦
                let first : z < number = omega arith in
                upper (cond (nat_lt z number) 1 0) (fold max 0 ns) m z (one-lt z number first) most (omega arith) ∙ nth_from ns k place 1 refl (low, omega (arith, all))
            | inr high ↦
                lower z number (fold max 0 ns) m k n place within most few number-is refl high some ∙ nth_from ns k place 0 refl (omega (arith, none), high)
          ]
    ]
  where
    is_empty : (ns : List ℕ) (c : ℕ) → length ns ≤ 0 → min c (fold max 0 ns) ≡ ranked k ns
    is_empty [] c empty = let e : min c 0 ≡ 0 = omega arith in e
    is_empty (n ∷ ns) c empty = absurd (omega arith)

    upper : (c g m z : ℕ) → c ≡ 1 → g ≡ max 0 (min 1 (m - z)) → z < m → min c g ≡ 1
    upper c g m z c-is g-is lt = omega arith

    lower : (z number g m k n place : ℕ) → z ≤ m → g ≡ max 0 (min 1 (m - z)) → m ≤ n → number ≡ min (max k 1) (n + 1) → place ≡ max 1 (min k m) → place ≤ z → 0 < m → min (cond (nat_lt z number) 1 0) g ≡ 0
    lower z number g m k n place within g-is few number-is place-is high some = elim (cases_lt z number) [
      | inl lt ↦ let c = one-lt z number lt in omega arith
      | inr ge ↦ let c = one-le z number ge in omega arith
    ]

-- the pixels that are seen and are 0
pub lacks_seen : (sight : Sight ℕ) (offsets : List Offset) (x y : ℕ) → lacks_under sight (map single_run offsets) x y ≡ count_under 1 (seen_under sight offsets x y)
lacks_seen sight [] x y = refl
lacks_seen sight (b ∷ bs) x y =
    let o = sight (pos x +ℤ b.dx) (pos y +ℤ b.dy) in
    sum_by-cons (λ r. lack_at (sight (pos x +ℤ r.dx) (pos y +ℤ r.dy))) (single_run b) (map single_run bs)
    ∙ ap (λ (t : ℕ). lack_at o + t) (lacks_seen sight bs x y)
    ∙ one_more o (seen_under sight bs x y)
  where
    one_more : (o : Option ℕ) (ns : List ℕ) → lack_at o + count_under 1 ns ≡ count_under 1 (cons_option o ns)
    one_more None ns = let e : 0 + count_under 1 ns ≡ count_under 1 ns = omega arith in e
    one_more (Some s) ns = elim (cases_lt s 1) [
      | inl low ↦ omega (arith, count-cons 1 s ns, one-lt s 1 low)
      | inr high ↦ omega (arith, count-cons 1 s ns, one-le s 1 high)
    ]

-- no more is seen than there are offsets
pub seen_few : (sight : Sight ℕ) (offsets : List Offset) (x y : ℕ) → length (seen_under sight offsets x y) ≤ length offsets
seen_few sight [] x y = omega arith
seen_few sight (b ∷ bs) x y = go (sight (pos x +ℤ b.dx) (pos y +ℤ b.dy)) (seen_few sight bs x y)
  where
    go : (o : Option ℕ) → length (seen_under sight bs x y) ≤ length bs → length (cons_option o (seen_under sight bs x y)) ≤ length (b ∷ bs)
    go None rest = omega arith
    go (Some s) rest = omega arith

-- what is seen of a set is 0 or 1
slice_small : (xs : List ℕ) (i : ℕ) → All (λ s. s ≤ 1) xs → IfSome (slice_get xs i) (λ m. m ≤ 1)
slice_small xs i all =
    elim (cases_lt i (length xs)) [
      | inl lt ↦ subst (λ (o : Option ℕ). IfSome o (λ m. m ≤ 1)) (sym (slice_get-get_or xs i 0 lt)) (all i 0 lt)
      | inr past ↦ subst (λ (o : Option ℕ). IfSome o (λ m. m ≤ 1)) (sym (slice_get_past xs i past)) tt
    ]

cell_small : (f : Raster ℕ) → All (λ s. s ≤ 1) f.cells → (x y : ℤ) → IfSome (cell_at f x y) (λ m. m ≤ 1)
cell_small f all (pos x) (pos y) = go (nat_lt x f.width && nat_lt y f.height)
  where
    go : (b : Bool) → IfSome (cond b (slice_get f.cells (y * f.width + x)) None) (λ m. m ≤ 1)
    go true = slice_small f.cells (y * f.width + x) all
    go false = tt
cell_small f all (pos x) (negsuc y) = tt
cell_small f all (negsuc x) y = tt

pub seen_small : (w : View ℕ) (offsets : List Offset) (x y : ℕ) → All (λ s. s ≤ 1) w.cells → AllByRecursion (λ m. m ≤ 1) (seen_under (seen_at w) offsets x y)
seen_small w [] x y all = tt
seen_small w (b ∷ bs) x y all =
    go (seen_at w (pos x +ℤ b.dx) (pos y +ℤ b.dy)) (cell_small (raster w.place.width w.place.height w.cells) all (pos x +ℤ b.dx -ℤ pos w.place.x) (pos y +ℤ b.dy -ℤ pos w.place.y)) (seen_small w bs x y all)
  where
    go : (o : Option ℕ) → IfSome o (λ m. m ≤ 1) → AllByRecursion (λ m. m ≤ 1) (seen_under (seen_at w) bs x y) → AllByRecursion (λ m. m ≤ 1) (cons_option o (seen_under (seen_at w) bs x y))
    go None one rest = rest
    go (Some s) one rest = (one, rest)
