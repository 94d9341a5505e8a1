-- Reconstruction: it is the least image above the marker that geodesic dilation leaves as it is.
use Rattle.std.proofs.Common.{◌≡◌, ℕ, zero, suc, ◌+◌, ◌*◌, ◌<◌, ◌≤◌, ◌⊎◌, List, [], ◌∷◌, length, get_or, min, max, refl, sym, arith, ◌∙◌, inl, inr, cond, true, false}
use Rattle.std.specs.Prelude.{count_by, nat_le}
use Rattle.std.proofs.lemmas.Bool.{cases_lt, le-leb, lt-leb}
use Rattle.std.proofs.lemmas.List.Sums.{sum_by-cons, count_by-le-length}
use Rattle.mw_model.specs.declared.offsets.Offset.{Offset}
use Rattle.mw_model.specs.Pictures.{Picture, sample}
use Rattle.mw_model.specs.Flat.{under, greatest, dilation}
use Rattle.mw_model.specs.Iterates.{times, union}
use Rattle.mw_model.specs.Laws.{Below, SameShape}
use Rattle.mw_model.proofs.ImagePlaces.{sample-redrawn, same_picture, redrawn_shape, shape_sym, shape_trans, length-rows, by_places}
use Rattle.std.proofs.lemmas.Nat.{mul-add-lt}
use Rattle.std.proofs.Math.Nat.{mul_comm}
use Rattle.mw_model.proofs.ImageOrder.{sample-dilation}
use Rattle.mw_geodesic.specs.Neighbours.{ElementCovers}
use Rattle.mw_geodesic.proofs.Covered.{below_greatest, greatest_below}
use Rattle.mw_geodesic.specs.Geodesics.{meet, geodesic_dilation, reconstruction}

-- what no place can be raised by any more
pub record IsClosed (e : List Offset) (mask h : Picture) : Type 0 where
  pub closed : (x y u v : ℕ) → x < h.width → y < h.height → u < h.width → v < h.height → ElementCovers e x y u v → min (sample h u v) (sample mask x y) ≤ sample h x y

pub sample-meet : (f g : Picture) (x y : ℕ) → x < f.width → y < f.height → sample (meet f g) x y ≡ min (sample f x y) (sample g x y)
sample-meet f g x y p q = sample-redrawn f (λ x y. min (sample f x y) (sample g x y)) x y p q

pub sample-step : (e : List Offset) (mask f : Picture) (x y : ℕ) → x < f.width → y < f.height
    → sample (geodesic_dilation e mask f) x y ≡ min (max (sample f x y) (greatest (under f e x y))) (sample mask x y)
sample-step e mask f x y p q =
    let first = sample-meet (union f (dilation e f)) mask x y p q in
    let second = sample-redrawn f (λ x y. max (sample f x y) (sample (dilation e f) x y)) x y p q in
    let third = sample-dilation e f x y p q in
    omega arith

-- the greatest under an element, cut to a bound
pub greatest_cut : (f : Picture) (e : List Offset) (x y m t : ℕ) → ((u v : ℕ) → u < f.width → v < f.height → ElementCovers e x y u v → min (sample f u v) m ≤ t)
    → min (greatest (under f e x y)) m ≤ t
greatest_cut f e x y m t each =
    elim (cases_lt t m) [
      | inr low ↦ omega arith
      | inl lt ↦
          let h = greatest_below f e x y t (λ u v p q c. let s = each u v p q c in omega arith) in
          omega arith
    ]

abbrev pub start : Picture → Picture → Picture
start mask marker = meet marker mask

abbrev pub spread : List Offset → Picture → Picture → ℕ → Picture
spread e mask marker n = times n (geodesic_dilation e mask) (meet marker mask)

pub spread_shape : (e : List Offset) (mask marker : Picture) (n : ℕ) → SameShape (spread e mask marker n) marker
spread_shape e mask marker zero = redrawn_shape marker _
spread_shape e mask marker (suc n) =
    shape_trans (record { kind = refl; width = refl; height = refl; maxval = refl }) (spread_shape e mask marker n)

pub spread_size : (e : List Offset) (mask marker : Picture) (n : ℕ) → length (spread e mask marker n).samples ≡ marker.height * marker.width
spread_size e mask marker zero = length-rows (λ x y. min (sample marker x y) (sample mask x y)) marker.width 0 marker.height
spread_size e mask marker (suc n) =
    let f = spread e mask marker n in
    let shape = spread_shape e mask marker n in
    let g = union f (dilation e f) in
    length-rows (λ x y. min (sample g x y) (sample mask x y)) g.width 0 g.height
    ∙ product g.height g.width marker.height marker.width shape.height shape.width
  where
    product : (a b c d : ℕ) → a ≡ c → b ≡ d → a * b ≡ c * d
    product a b c d p q = cc

-- One step more is above.
pub step_rises : (e : List Offset) (mask f : Picture) → Below f mask → Below f (geodesic_dilation e mask f)
step_rises e mask f within x y p q =
    let low = within x y p q in
    omega (arith, sample-step e mask f x y p q)

pub step_within : (e : List Offset) (mask f : Picture) (x y : ℕ) → x < f.width → y < f.height → sample (geodesic_dilation e mask f) x y ≤ sample mask x y
step_within e mask f x y p q = omega (arith, sample-step e mask f x y p q)

pub spread_within : (e : List Offset) (mask marker : Picture) (n : ℕ) → Below (spread e mask marker n) mask
spread_within e mask marker zero x y p q = omega (arith, sample-meet marker mask x y p q)
spread_within e mask marker (suc n) x y p q = step_within e mask (spread e mask marker n) x y p q

pub spread_above : (e : List Offset) (mask marker : Picture) (n : ℕ) → Below (start mask marker) (spread e mask marker n)
spread_above e mask marker zero x y p q = omega arith
spread_above e mask marker (suc n) x y p q =
    let shape = spread_shape e mask marker n in
    let before = spread_above e mask marker n x y p q in
    let step = step_rises e mask (spread e mask marker n) (spread_within e mask marker n) x y (omega (arith, shape.width)) (omega (arith, shape.height)) in
    omega arith

-- What is closed and above the marker is above each step.
pub spread_least : (e : List Offset) (mask marker h : Picture) (n : ℕ) → SameShape h marker → Below (start mask marker) h → IsClosed e mask h → Below (spread e mask marker n) h
spread_least e mask marker h zero shape above closed x y p q = above x y p q
spread_least e mask marker h (suc n) shape above closed x y p q =
    let f = spread e mask marker n in
    let same = spread_shape e mask marker n in
    let before = spread_least e mask marker h n shape above closed in
    let cut = greatest_cut f e x y (sample mask x y) (sample h x y) (λ u v in_u in_v covers.
    let low = before u v in_u in_v in
    let edge = closed.closed x y u v (omega (arith, same.width, shape.width)) (omega (arith, same.height, shape.height)) (omega (arith, same.width, shape.width)) (omega (arith, same.height, shape.height)) covers in
    omega arith) in
    let here = before x y p q in
    omega (arith, sample-step e mask f x y p q)

-- ---- it is closed: the places of a level grow with each step, or never again

-- how many samples are at least k
abbrev pub at_level : ℕ → List ℕ → ℕ
at_level k xs = count_by (λ s. nat_le k s) xs

-- of two lists of which the second is above, more samples of the second are at least k, or the same
grown_or_same : (k : ℕ) (xs ys : List ℕ) → length xs ≡ length ys → ((i : ℕ) → i < length xs → get_or xs i 0 ≤ get_or ys i 0)
    → (at_level k xs < at_level k ys) ⊎ ((at_level k xs ≡ at_level k ys) × ((i : ℕ) → i < length xs → k ≤ get_or ys i 0 → k ≤ get_or xs i 0))
grown_or_same k [] [] e each = inr (refl, λ i p. absurd (omega arith))
grown_or_same k [] (y ∷ ys) e each = absurd (omega arith)
grown_or_same k (x ∷ xs) [] e each = absurd (omega arith)
grown_or_same k (x ∷ xs) (y ∷ ys) e each =
    let rest = grown_or_same k xs ys (omega arith) (λ i p. each (suc i) (omega arith)) in
    let low : x ≤ y = each zero (omega arith) in
    let cx = sum_by-cons (λ s. cond (nat_le k s) 1 0) x xs in
    let cy = sum_by-cons (λ s. cond (nat_le k s) 1 0) y ys in
    elim (cases_lt y k) [
      | inl small ↦
          let ex : nat_le k x ≡ false = lt-leb k x (omega arith) in
          let ey : nat_le k y ≡ false = lt-leb k y small in
          let dx : at_level k (x ∷ xs) ≡ at_level k xs = cx ∙ rw ex (omega arith) in
          let dy : at_level k (y ∷ ys) ≡ at_level k ys = cy ∙ rw ey (omega arith) in
          elim rest [
            | inl more ↦ inl (omega arith)
            | inr same ↦ inr (omega (arith, same.0), at_head x y xs ys k (λ h. absurd (omega arith)) same.1)
          ]
      | inr large ↦
          let ey : nat_le k y ≡ true = le-leb k y large in
          let dy : at_level k (y ∷ ys) ≡ 1 + at_level k ys = cy ∙ rw ey refl in
          elim (cases_lt x k) [
            | inl under ↦
                let ex : nat_le k x ≡ false = lt-leb k x under in
                let dx : at_level k (x ∷ xs) ≡ at_level k xs = cx ∙ rw ex (omega arith) in
                inl (elim rest [ inl more ↦ omega arith | inr same ↦ omega (arith, same.0) ])
            | inr over ↦
                let ex : nat_le k x ≡ true = le-leb k x over in
                let dx : at_level k (x ∷ xs) ≡ 1 + at_level k xs = cx ∙ rw ex refl in
                elim rest [
                  | inl more ↦ inl (omega arith)
                  | inr same ↦ inr (omega (arith, same.0), at_head x y xs ys k (λ h. over) same.1)
                ]
          ]
    ]
  where
    at_head : (x y : ℕ) (xs ys : List ℕ) (k : ℕ) → (k ≤ y → k ≤ x) → ((i : ℕ) → i < length xs → k ≤ get_or ys i 0 → k ≤ get_or xs i 0)
        → (i : ℕ) → i < length (x ∷ xs) → k ≤ get_or (y ∷ ys) i 0 → k ≤ get_or (x ∷ xs) i 0
    at_head x y xs ys k here rest zero p h = here h
    at_head x y xs ys k here rest (suc i) p h = rest i (omega arith) h

-- no place comes to level k by the step
abbrev Quiet : ℕ → Picture → Picture → Type 0
Quiet k f g = (x y : ℕ) → x < f.width → y < f.height → k ≤ sample g x y → k ≤ sample f x y

-- where nothing comes to a level by a step, nothing comes to it by the next
quiet_on : (e : List Offset) (mask f : Picture) (k : ℕ) → Below f mask → Quiet k f (geodesic_dilation e mask f)
    → Quiet k (geodesic_dilation e mask f) (geodesic_dilation e mask (geodesic_dilation e mask f))
quiet_on e mask f zero within quiet x y p q h = omega arith
quiet_on e mask f (suc k) within quiet x y p q h =
    let g = geodesic_dilation e mask f in
    let here = sample-step e mask g x y p q in
    let old = sample-step e mask f x y p q in
    let rises = step_rises e mask f within x y p q in
    elim (cases_lt (sample g x y) (suc k)) [
      | inr there ↦ there
      | inl not ↦
          let none = greatest_below g e x y k (λ u v in_u in_v covers.
          let below = below_greatest f e x y u v in_u in_v covers in
          elim (cases_lt (sample g u v) (suc k)) [
            | inl lt ↦ omega arith
            | inr there ↦
                let came = quiet u v in_u in_v there in
                absurd (omega arith)
          ]) in
          absurd (omega arith)
    ]

-- a step brings more places to the level, or none
grew_or_quiet : (e : List Offset) (mask f : Picture) (k : ℕ) → length f.samples ≡ f.height * f.width → length (geodesic_dilation e mask f).samples ≡ f.height * f.width → Below f mask
    → (at_level k f.samples < at_level k (geodesic_dilation e mask f).samples) ⊎ Quiet k f (geodesic_dilation e mask f)
grew_or_quiet e mask f k size after within =
    let g = geodesic_dilation e mask f in
    elim (grown_or_same k f.samples g.samples (size ∙ sym after)
    (λ i p. by_places (λ i. get_or f.samples i 0 ≤ get_or g.samples i 0) f.width f.height (step_rises e mask f within) i (omega arith))) [
      | inl more ↦ inl more
      | inr same ↦ inr (λ x y p q h. same.1 (y * f.width + x) (omega (arith, size, mul-add-lt y f.width x f.height q p, mul_comm f.width f.height)) h)
    ]

grow_now : (e : List Offset) (mask marker : Picture) (k n : ℕ)
    → (at_level k (spread e mask marker n).samples < at_level k (spread e mask marker (suc n)).samples) ⊎ Quiet k (spread e mask marker n) (spread e mask marker (suc n))
grow_now e mask marker k n =
    let f = spread e mask marker n in
    let shape = spread_shape e mask marker n in
    let same : f.height * f.width ≡ marker.height * marker.width = product f.height f.width marker.height marker.width shape.height shape.width in
    grew_or_quiet e mask f k (spread_size e mask marker n ∙ sym same) (spread_size e mask marker (suc n) ∙ sym same) (spread_within e mask marker n)
  where
    product : (a b c d : ℕ) → a ≡ c → b ≡ d → a * b ≡ c * d
    product a b c d p q = cc

-- as many places have come to the level as steps were made, or none comes any more
grown : (e : List Offset) (mask marker : Picture) (k n : ℕ)
    → (n + 1 ≤ at_level k (spread e mask marker (suc n)).samples) ⊎ Quiet k (spread e mask marker n) (spread e mask marker (suc n))
grown e mask marker k zero =
    elim (grow_now e mask marker k zero) [
      | inr quiet ↦ inr quiet
      | inl more ↦ inl (omega arith)
    ]
grown e mask marker k (suc n) =
    elim (grown e mask marker k n) [
      | inr quiet ↦ inr (quiet_on e mask (spread e mask marker n) k (spread_within e mask marker n) quiet)
      | inl many ↦ elim (grow_now e mask marker k (suc n)) [
        | inl more ↦ inl (omega arith)
        | inr quiet ↦ inr quiet
      ]
    ]

-- The reconstruction is closed.
pub reconstruction_closed : (e : List Offset) (mask marker : Picture) → IsClosed e mask (reconstruction e mask marker)
reconstruction_closed e mask marker =
    let n = marker.height * marker.width in
    let f = spread e mask marker n in
    let g = geodesic_dilation e mask f in
    record {
      closed = λ x y u v p q p' q' covers.
          let step = sample-step e mask f x y p q in
          let under = below_greatest f e x y u v p' q' covers in
          let here : sample g x y ≤ sample f x y = elim (grown e mask marker (sample g x y) n) [
            | inl many ↦ absurd (omega (arith, count_by-le-length (λ s. nat_le (sample g x y) s) g.samples, spread_size e mask marker (suc n)))
            | inr quiet ↦ quiet x y p q (omega arith)
          ] in
          omega arith;
    }

-- An image above the marker that is closed, and not above the reconstruction, is the reconstruction.
pub only_reconstruction : (e : List Offset) (mask marker r : Picture) → SameShape r marker → length r.samples ≡ r.height * r.width
    → Below (start mask marker) r → IsClosed e mask r → Below r (reconstruction e mask marker) → r ≡ reconstruction e mask marker
only_reconstruction e mask marker r shape size above closed below =
    let n = marker.height * marker.width in
    let f = spread e mask marker n in
    let same = spread_shape e mask marker n in
    let low = spread_least e mask marker r n shape above closed in
    same_picture r f (shape_trans shape (shape_sym same)) size
    (spread_size e mask marker n ∙ sym (product f.height f.width marker.height marker.width same.height same.width))
    (λ x y p q.
    let up = below x y p q in
    let down = low x y (omega (arith, shape.width, same.width)) (omega (arith, shape.height, same.height)) in
    omega arith)
  where
    product : (a b c d : ℕ) → a ≡ c → b ≡ d → a * b ≡ c * d
    product a b c d p q = cc

-- ---- laws

-- what geodesic dilation leaves below itself is closed
pub closed_from_step : (e : List Offset) (mask h : Picture) → Below (geodesic_dilation e mask h) h → IsClosed e mask h
closed_from_step e mask h below = record {
  closed = λ x y u v p q p' q' covers.
      let step = sample-step e mask h x y p q in
      let low = below x y p q in
      let under = below_greatest h e x y u v p' q' covers in
      omega arith;
}

pub reconstruction_fixed : (e : List Offset) (mask marker : Picture) → geodesic_dilation e mask (reconstruction e mask marker) ≡ reconstruction e mask marker
reconstruction_fixed e mask marker =
    let n = marker.height * marker.width in
    let f = spread e mask marker n in
    let g = geodesic_dilation e mask f in
    let shape = spread_shape e mask marker n in
    let closed = reconstruction_closed e mask marker in
    let within = spread_within e mask marker n in
    same_picture g f (record { kind = refl; width = refl; height = refl; maxval = refl })
    (spread_size e mask marker (suc n) ∙ sym (product f.height f.width marker.height marker.width shape.height shape.width))
    (spread_size e mask marker n ∙ sym (product f.height f.width marker.height marker.width shape.height shape.width))
    (λ x y p q.
    let up = step_rises e mask f within x y p q in
    let step = sample-step e mask f x y p q in
    let cut = greatest_cut f e x y (sample mask x y) (sample f x y) (λ u v a b covers. closed.closed x y u v p q a b covers) in
    omega arith)
  where
    product : (a b c d : ℕ) → a ≡ c → b ≡ d → a * b ≡ c * d
    product a b c d p q = cc
