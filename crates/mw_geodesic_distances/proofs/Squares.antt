-- The least of the squares of distances of a place, by the gaps of the columns.
use Rattle.std.proofs.Common.{◌≡◌, ℕ, zero, suc, ◌+◌, ◌*◌, ◌^◌, ◌<◌, ◌≤◌, Bool, true, List, [], ◌∷◌, ◌++◌, length, map, flat_map, min, refl, sym, ap, arith, ◌∙◌, inl, inr}
use Rattle.std.specs.Prelude.{filter, ◌==◌}
use Rattle.std.specs.List.{range_with_len}
use Rattle.std.proofs.lemmas.Bool.{cases_lt, cases_eq, cases_Bool, eq-eqb, eqb-true}
use Rattle.std.proofs.lemmas.Nat.{mul-le}
use Rattle.mw_model.specs.declared.shapes.Kind.TheVariants as kind
use Rattle.mw_model.specs.Pictures.{Picture, picture, sample, drawn}
use Rattle.mw_model.specs.Flat.{least}
use Rattle.mw_model.proofs.ImagePlaces.{sample-drawn, same_picture, length-rows}
use Rattle.mw_model.proofs.Covers.{least_at_most}
use Rattle.mw_geodesic.specs.Distances.{apart_squared, squares_in_row, squared_distance}
use Rattle.mw_geodesic_distances.specs.declared.columns.TheConstants.{FAR}
use Rattle.mw_geodesic_distances.specs.Grids.{grid}
use Rattle.mw_geodesic_distances.specs.Columns.{gap_between, AreGaps}
use Rattle.mw_geodesic_distances.specs.Envelopes.{height_at, parabola, IsNearest}

-- ---- the least of many numbers

least-append : (top : ℕ) (xs ys : List ℕ) → least top (xs ++ ys) ≡ min (least top xs) (least top ys)
least-append top [] ys = omega (arith, least_at_most top ys)
least-append top (x ∷ xs) ys = omega (arith, least-append top xs ys)

-- of the numbers from a on that pass
low_some : (top s : ℕ) (p : ℕ → Bool) (value : ℕ → ℕ) (a n : ℕ) → s ≤ top → ((u : ℕ) → a ≤ u → u < a + n → p u ≡ true → s ≤ value u) → s ≤ least top (map value (filter p (range_with_len a n)))
low_some top s p value a zero low each = low
low_some top s p value a (suc n) low each =
    let rest = low_some top s p value (a + 1) n low (λ u from to passes. each u (omega arith) (omega arith) passes) in
    elim (cases_Bool (p a)) [
      | inl passes ↦ rw passes (let here = each a (omega arith) (omega arith) passes in omega arith)
      | inr fails ↦ rw fails rest
    ]

some_low : (top : ℕ) (p : ℕ → Bool) (value : ℕ → ℕ) (a n u : ℕ) → a ≤ u → u < a + n → p u ≡ true → least top (map value (filter p (range_with_len a n))) ≤ value u
some_low top p value a zero u from to passes = absurd (omega arith)
some_low top p value a (suc n) u from to passes = elim (cases_eq u a) [
  | inl here ↦
      let now : p a ≡ true = ap p (sym here) ∙ passes in
      rw (now, here) (omega arith)
  | inr later ↦
      let rest = some_low top p value (a + 1) n u (omega arith) (omega arith) passes in
      elim (cases_Bool (p a)) [
        | inl passed ↦ rw passed (omega arith)
        | inr fails ↦ rw fails rest
      ]
]

low_all : (top s : ℕ) (row : ℕ → List ℕ) (a n : ℕ) → s ≤ top → ((v : ℕ) → a ≤ v → v < a + n → s ≤ least top (row v)) → s ≤ least top (flat_map row (range_with_len a n))
low_all top s row a zero low each = low
low_all top s row a (suc n) low each =
    let rest = low_all top s row (a + 1) n low (λ v from to. each v (omega arith) (omega arith)) in
    let here = each a (omega arith) (omega arith) in
    omega (arith, least-append top (row a) (flat_map row (range_with_len (a + 1) n)))

all_low : (top : ℕ) (row : ℕ → List ℕ) (a n v : ℕ) → a ≤ v → v < a + n → least top (flat_map row (range_with_len a n)) ≤ least top (row v)
all_low top row a zero v from to = absurd (omega arith)
all_low top row a (suc n) v from to =
    let both = least-append top (row a) (flat_map row (range_with_len (a + 1) n)) in
    elim (cases_eq v a) [
      | inl here ↦ rw here (omega arith)
      | inr later ↦
          let rest = all_low top row (a + 1) n v (omega arith) (omega arith) in
          omega arith
    ]

-- ---- the squares of a place

start_less : (a n : ℕ) → a < n → a < 0 + n
start_less a n lt = omega arith

abbrev squares : Picture → ℕ → ℕ → List ℕ
squares f x y = flat_map (λ v. squares_in_row f x y v) (range_with_len 0 f.height)

square_less : (a b : ℕ) → a ≤ b → a * a ≤ b * b
square_less a b le = mul-le a a b b le le

-- the gap of a column is no further than any of its places that are not in the set
height_low : (x y u v gap : ℕ) → gap ≤ gap_between y v → height_at x u gap ≤ apart_squared x u + apart_squared y v
unfolding height_at
height_low x y u v gap le = add_low (apart_squared x u) (gap * gap) (apart_squared y v) (square_less gap (gap_between y v) le)
  where
    add_low : (a b c : ℕ) → b ≤ c → a + b ≤ a + c
    add_low a b c le = omega arith

height_same : (x y u v gap : ℕ) → gap ≡ gap_between y v → height_at x u gap ≡ apart_squared x u + apart_squared y v
unfolding height_at
height_same x y u v gap is = ap (λ (t : ℕ). apart_squared x u + t * t) is

far_square : (top s x y u v gap : ℕ) → top < 2 ^ 32 → s ≤ top → FAR ≤ gap → gap ≤ gap_between y v → s ≤ apart_squared x u + apart_squared y v
far_square top s x y u v gap small low far le =
    large (apart_squared x u) (apart_squared y v) (square_less FAR (gap_between y v) (trans FAR gap (gap_between y v) far le))
  where
    trans : (a b c : ℕ) → a ≤ b → b ≤ c → a ≤ c
    trans a b c p q = omega arith

    large : (a b : ℕ) → FAR * FAR ≤ b → s ≤ a + b
    large a b q = omega arith

square_is : (f : Picture) (top : ℕ) (g : ℕ → ℕ → ℕ) (x y s : ℕ) → top < 2 ^ 32 → y < f.height → AreGaps f.width f.height (λ u v. sample f u v) g → IsNearest (λ u. g u y) f.width top x s → s ≡ least top (squares f x y)
square_is f top g x y s small q gaps near =
    let low : s ≤ least top (squares f x y) = low_all top s (λ v. squares_in_row f x y v) 0 f.height near.low (λ v from to.
    low_some top s (λ u. sample f u v == 0) (λ u. apart_squared x u + apart_squared y v) 0 f.width near.low (λ u from' to' passes.
    let inside : u < f.width = omega arith in
    let gap = gaps u y inside q in
    let least-is = gap.least v (omega arith) (eqb-true (sample f u v) 0 passes) in
    elim (cases_lt (g u y) FAR) [
      | inl finite ↦ both s (parabola (λ u. g u y) x u) _ (near.least u inside finite) (height_low x y u v (g u y) least-is)
      | inr far ↦ far_square top s x y u v (g u y) small near.low far least-is
    ])) in
    let high : least top (squares f x y) ≤ s = (elim near.reason [
      | inl same ↦ (let most = least_at_most top (squares f x y) in top_low _ most same)
      | inr on ↦
          let gap = gaps on.column y on.within q in
          elim gap.reason [
            | inl far ↦ (let finite = on.finite in absurd (omega arith))
            | inr to ↦
                let a = all_low top (λ v. squares_in_row f x y v) 0 f.height to.row (omega arith) (start_less to.row f.height to.within) in
                let b = some_low top (λ u. sample f u to.row == 0) (λ u. apart_squared x u + apart_squared y to.row) 0 f.width on.column (omega arith) (start_less on.column f.width on.within) (eq-eqb (sample f on.column to.row) 0 to.outside) in
                let c = on.is ∙ height_same x y on.column to.row (g on.column y) to.is in
                both' _ _ _ s a b c
          ]
    ]) in
    equal s (least top (squares f x y)) low high
  where
    both : (a b c : ℕ) → a ≤ b → b ≤ c → a ≤ c
    both a b c p q = omega arith

    both' : (a b c s : ℕ) → a ≤ b → b ≤ c → s ≡ c → a ≤ s
    both' a b c s p q e = omega arith

    top_low : (a : ℕ) → a ≤ top → s ≡ top → a ≤ s
    top_low a p e = omega arith

    equal : (a b : ℕ) → a ≤ b → b ≤ a → a ≡ b
    equal a b p q = omega arith

-- the numbers are the squared distance
pub squares_are : (top : ℕ) (f : Picture) (numbers : List ℕ) (g : ℕ → ℕ → ℕ) → top < 2 ^ 32 → length numbers ≡ f.height * f.width → AreGaps f.width f.height (λ u v. sample f u v) g
    → ((x y : ℕ) → x < f.width → y < f.height → IsNearest (λ u. g u y) f.width top x (grid f.width numbers x y)) → numbers ≡ (squared_distance top f).samples
squares_are top f numbers g small size gaps near =
    let value = λ (x y : ℕ). least top (squares f x y) in
    ap (λ (p : Picture). p.samples)
    (same_picture (picture kind.Grey f.width f.height top numbers) (drawn kind.Grey f.width f.height top value)
    (record { kind = refl; width = refl; height = refl; maxval = refl }) size (length-rows value f.width 0 f.height)
    (λ x y p q. square_is f top g x y (grid f.width numbers x y) small q gaps (near x y p q) ∙ sym (sample-drawn kind.Grey f.width f.height top value x y p q)))
