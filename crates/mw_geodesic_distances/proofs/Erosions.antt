-- How many erosions a place outlives: numbers that are smooth, and each of which has a reason, say it.
use Rattle.std.proofs.Common.{◌≡◌, ℕ, zero, suc, ◌+◌, ◌-◌, ◌*◌, ◌<◌, ◌≤◌, Bool, true, false, cond, List, [], ◌∷◌, length, min, refl, ap, sym, arith, ◌∙◌, inl, inr}
use Rattle.std.specs.Prelude.{count_by, ◌==◌}
use Rattle.std.specs.List.{range_with_len}
use Rattle.std.proofs.lemmas.Bool.{cases_lt, cases_eq, eq-eqb, ne_eqb}
use Rattle.std.proofs.lemmas.List.Sums.{sum_by-cons}
use Rattle.mw_model.specs.declared.offsets.Offset.{Offset}
use Rattle.mw_model.specs.declared.shapes.Kind.TheVariants as kind
use Rattle.mw_model.specs.Pictures.{Picture, picture, sample, drawn, IsPicture}
use Rattle.mw_model.specs.Flat.{under, erosion}
use Rattle.mw_model.specs.Iterates.{times}
use Rattle.mw_model.proofs.ImagePlaces.{sample-drawn, same_picture, length-rows, sample_bounded}
use Rattle.mw_model.proofs.ImageOrder.{sample-erosion}
use Rattle.mw_model.proofs.Iterated.{eroded_shape}
use Rattle.mw_model.proofs.Covers.{least_at_most}
use Rattle.mw_geodesic.specs.Neighbours.{ElementCovers}
use Rattle.mw_geodesic.proofs.Covered.{covers_to, covers_from}
use Rattle.mw_geodesic.specs.Distances.{distance}
use Rattle.mw_geodesic.specs.declared.neighbours.Neighbours.{Neighbours}
use Rattle.mw_geodesic_distances.specs.Metrics.{metric_element, diagonal_reach}
use Rattle.mw_geodesic_distances.specs.Rows.{begin_of_bit}
use Rattle.mw_geodesic_distances.specs.Grids.{grid, IsAdjoining, IsLowered, IsSmooth}
use Rattle.mw_geodesic_distances.proofs.Nearness.{near_from, covered}
use Rattle.mw_model.proofs.Covers as model

-- ---- counting

-- of the numbers from a on, those below t pass
count_passed : (p : ℕ → Bool) (t a n : ℕ) → ((k : ℕ) → a ≤ k → k < a + n → k < t → p k ≡ true) → ((k : ℕ) → a ≤ k → k < a + n → t ≤ k → p k ≡ false) → count_by p (range_with_len a n) ≡ min (t - a) n
count_passed p t a zero pass fail = omega arith
count_passed p t a (suc n) pass fail =
    let rest = count_passed p t (a + 1) n (λ k from to less. pass k (omega arith) (omega arith) less) (λ k from to more. fail k (omega arith) (omega arith) more) in
    let one = sum_by-cons (λ x. cond (p x) 1 0) a (range_with_len (a + 1) n) in
    elim (cases_lt a t) [
      | inl lt ↦
          let here : ◌≡◌ {A = ℕ} (cond (p a) 1 0) 1 = rw (pass a (omega arith) (omega arith) lt) refl in
          omega arith
      | inr ge ↦
          let here : ◌≡◌ {A = ℕ} (cond (p a) 1 0) 0 = rw (fail a (omega arith) (omega arith) ge) refl in
          omega arith
    ]

-- ---- the places that are left

abbrev left_by : List Offset → Picture → ℕ → Picture
left_by e f n = times n (erosion e) f

start_inside : (top bit : ℕ) → bit ≡ 1 → begin_of_bit top bit ≡ top
start_inside top bit is = rw is refl

start_outside : (top bit : ℕ) → bit ≡ 0 → begin_of_bit top bit ≡ 0
start_outside top bit is = rw is refl

-- what numbers have to be
pub record IsDistance (neighbours : Neighbours) (top : ℕ) (f : Picture) (g : ℕ → ℕ → ℕ) : Type 0 where
  pub lowered : IsLowered (record { width = f.width; height = f.height; reach = diagonal_reach neighbours }) (λ x y. begin_of_bit top (sample f x y)) g
  pub smooth : IsSmooth (record { width = f.width; height = f.height; reach = diagonal_reach neighbours }) g

bounded_left : (e : List Offset) (f : Picture) (n x y : ℕ) → IsPicture f → x < f.width → y < f.height → sample (left_by e f n) x y ≤ f.maxval
bounded_left e f zero x y is p q = sample_bounded f is x y p q
bounded_left e f (suc n) x y is p q =
    let shape = eroded_shape e n f in
    let g = left_by e f n in
    omega (arith, sample-erosion e g x y (omega (arith, shape.width)) (omega (arith, shape.height)), least_at_most g.maxval (under g e x y), shape.maxval)

-- a place whose number is over n outlives n erosions, and another does not
outlives : (neighbours : Neighbours) (top : ℕ) (f : Picture) (g : ℕ → ℕ → ℕ) → IsPicture f → f.maxval ≡ 1 → IsDistance neighbours top f g → (n x y : ℕ) → n < top → x < f.width → y < f.height
    → (n < g x y → sample (left_by (metric_element neighbours) f n) x y ≡ 1) × (g x y ≤ n → sample (left_by (metric_element neighbours) f n) x y ≡ 0)
outlives neighbours top f g is one known zero x y lt p q =
    let bound = sample_bounded f is x y p q in
    let low = known.lowered.less x y p q in
    elim (cases_eq (sample f x y) 1) [
      | inl set ↦ (
        λ more. set,
        λ less. elim (known.lowered.reason x y p q) [
          | inl same ↦ absurd (omega (arith, start_inside top (sample f x y) set))
          | inr lower ↦ let some = lower.lower in absurd (omega arith)
        ],
      )
      | inr other ↦
          let none : sample f x y ≡ 0 = omega arith in
          (λ more. absurd (omega (arith, start_outside top (sample f x y) none)), λ less. none)
    ]
outlives neighbours top f g is one known (suc n) x y lt p q =
    let e = metric_element neighbours in
    let b = left_by e f n in
    let shape = eroded_shape e n f in
    let wide = shape.width in
    let high = shape.height in
    let levels = shape.maxval in
    let here = sample-erosion e b x y (omega arith) (omega arith) in
    let most = least_at_most b.maxval (under b e x y) in (
      λ more.
          let all = model.below_least b e b.maxval x y 1 (omega arith) (λ u v p' q' c.
          let near = near_from neighbours x y u v (covers_from e x y u v c) in
          let step = known.smooth.smooth x y u v p q (omega arith) (omega arith) near in
          let left = (outlives neighbours top f g is one known n u v (omega arith) (omega arith) (omega arith)).0 (omega arith) in
          omega arith) in
          omega arith,
      λ less.
          let gone = λ (u v : ℕ) (p' : u < f.width) (q' : v < f.height) (near : IsAdjoining (diagonal_reach neighbours) x y u v) (le : g u v ≤ n).
          let none = (outlives neighbours top f g is one known n u v (omega arith) p' q').1 le in
          let low = model.least_below b e b.maxval x y u v (omega arith) (omega arith) (covers_to e x y u v (covered neighbours x y u v near)) in
          let zero_here : sample (left_by e f (suc n)) x y ≡ 0 = omega arith in
          zero_here in
          elim (cases_lt n (g x y)) [
            | inr le ↦ gone x y p q (inl (refl, omega arith, omega arith)) le
            | inl gt ↦ elim (known.lowered.reason x y p q) [
              | inr lower ↦ let step = lower.lower in gone lower.column lower.row lower.across lower.down lower.near (omega arith)
              | inl same ↦ elim (cases_eq (sample f x y) 1) [
                | inl set ↦ absurd (omega (arith, start_inside top (sample f x y) set))
                | inr other ↦
                    let bound = sample_bounded f is x y p q in
                    let none : sample f x y ≡ 0 = omega arith in
                    absurd (omega (arith, start_outside top (sample f x y) none))
              ]
            ]
          ],
    )

pub start_most : (top bit : ℕ) → begin_of_bit top bit ≤ top
start_most top bit = elim (cases_eq bit 1) [
  | inl set ↦ rw set (omega arith)
  | inr other ↦ rw (ne_eqb bit 1 other) (omega arith)
]

counted : (neighbours : Neighbours) (top : ℕ) (f : Picture) (g : ℕ → ℕ → ℕ) → IsPicture f → f.maxval ≡ 1 → IsDistance neighbours top f g → (x y : ℕ) → x < f.width → y < f.height
    → count_by (λ n. sample (times n (erosion (metric_element neighbours)) f) x y == 1) (range_with_len 0 top) ≡ g x y
counted neighbours top f g is one known x y p q =
    let e = metric_element neighbours in
    let passed = count_passed (λ n. sample (times n (erosion e) f) x y == 1) (g x y) 0 top
    (λ k from to less. eq-eqb _ 1 ((outlives neighbours top f g is one known k x y (omega arith) p q).0 less))
    (λ k from to more. ne_eqb _ 1 (λ same. let none = (outlives neighbours top f g is one known k x y (omega arith) p q).1 more in absurd (omega arith))) in
    let low = known.lowered.less x y p q in
    omega (arith, start_most top (sample f x y))

-- the numbers are the distance
pub distance_is : (neighbours : Neighbours) (top : ℕ) (f : Picture) (numbers : List ℕ) → IsPicture f → f.maxval ≡ 1 → length numbers ≡ f.height * f.width → IsDistance neighbours top f (grid f.width numbers)
    → numbers ≡ (distance (metric_element neighbours) top f).samples
distance_is neighbours top f numbers is one size known =
    let value = λ (x y : ℕ). count_by (λ n. sample (times n (erosion (metric_element neighbours)) f) x y == 1) (range_with_len 0 top) in
    ap (λ (p : Picture). p.samples)
    (same_picture (picture kind.Grey f.width f.height top numbers) (drawn kind.Grey f.width f.height top value)
    (record { kind = refl; width = refl; height = refl; maxval = refl }) size (length-rows value f.width 0 f.height)
    (λ x y p q. sym (counted neighbours top f (grid f.width numbers) is one known x y p q) ∙ sym (sample-drawn kind.Grey f.width f.height top value x y p q)))
