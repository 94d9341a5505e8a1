-- Paths, and the components of a set.
use Rattle.std.proofs.Common.{◌≡◌, ℕ, zero, suc, ◌*◌, ◌<◌, ◌≤◌, List, [], ◌∷◌, max, pos, ◌+ℤ◌, refl, arith, ◌∙◌, inl, inr, true}
use Rattle.std.specs.Prelude.{◌↔◌, ◌==◌, ◌&&◌, if◌then◌else◌}
use Rattle.std.proofs.lemmas.Bool.{cases_lt, cases_Bool, and_parts, eqb-true, eq-eqb, and_from}
use Rattle.mw_model.specs.declared.offsets.Offset.{Offset}
use Rattle.mw_model.specs.Pictures.{Picture, sample, IsSet}
use Rattle.mw_model.specs.Flat.{under, greatest}
use Rattle.mw_model.proofs.Covers.{in_frame, outside, seen}
use Rattle.mw_model.proofs.ImagePlaces.{sample-redrawn, same_picture, shape_sym, shape_trans, sample_bounded}
use Rattle.mw_geodesic.specs.Geodesics.{reconstruction}
use Rattle.mw_geodesic.specs.Neighbours.{IsPlace, ElementCovers, IsSymmetric}
use Rattle.mw_geodesic.specs.Components.{component}
use Rattle.mw_geodesic.specs.Paths.{Joined, ends, goes, point, AreConnected}
use Rattle.mw_geodesic.proofs.Reconstructed.{rebuilt_size}
use Rattle.mw_geodesic.proofs.Geodesic.{spread, spread_shape, spread_above, spread_within, sample-meet, sample-step, reconstruction_closed}

-- what the greatest under an element comes from
pub record Source (f : Picture) (e : List Offset) (x y k : ℕ) : Type 0 where
  pub u : ℕ
  pub v : ℕ
  pub column : u < f.width
  pub row : v < f.height
  pub covers : ElementCovers e x y u v
  pub high : k ≤ sample f u v

source : (f : Picture) (e : List Offset) (x y k : ℕ) → 1 ≤ k → k ≤ greatest (under f e x y) → Source f e x y k
source f [] x y k some high = absurd (omega arith)
source f (b ∷ bs) x y k some high =
    elim (seen f (pos x +ℤ b.dx) (pos y +ℤ b.dy)) [
      | outside is ↦
          let rest = source f bs x y k some (rw is at high) in
          record { u = rest.u; v = rest.v; column = rest.column; row = rest.row; covers = inr rest.covers; high = rest.high }
      | in_frame u v p q col row is ↦
          let here : k ≤ max (sample f u v) (greatest (under f bs x y)) = rw is at high in
          elim (cases_lt (sample f u v) k) [
            | inr there ↦ record { u = u; v = v; column = p; row = q; covers = inl (record { columns = col; rows = row }); high = there }
            | inl less ↦
                let rest = source f bs x y k some (omega arith) in
                record { u = rest.u; v = rest.v; column = rest.column; row = rest.row; covers = inr rest.covers; high = rest.high }
          ]
    ]

joined_down : (e : List Offset) (mask marker : Picture) (k n x y : ℕ) → x < marker.width → y < marker.height → 1 ≤ k → k ≤ sample (spread e mask marker n) x y → Joined e mask marker k x y
joined_down e mask marker k zero x y p q some high =
    let is = sample-meet marker mask x y p q in
    ends x y (record { column = p; row = q }) (omega arith) (omega arith)
joined_down e mask marker k (suc n) x y p q some high =
    let f = spread e mask marker n in
    let shape = spread_shape e mask marker n in
    let wide = shape.width in
    let tall = shape.height in
    let is = sample-step e mask f x y (omega arith) (omega arith) in
    elim (cases_lt (sample f x y) k) [
      | inr before ↦ joined_down e mask marker k n x y p q some before
      | inl less ↦
          let from = source f e x y k some (omega arith) in
          goes x y from.u from.v (record { column = p; row = q }) (omega arith) from.covers
          (joined_down e mask marker k n from.u from.v (omega (arith, from.column)) (omega (arith, from.row)) some from.high)
    ]

pub joined_place : (e : List Offset) (mask marker : Picture) (k x y : ℕ) → Joined e mask marker k x y → IsPlace marker x y
joined_place e mask marker k x y (ends x' y' place high top) = place
joined_place e mask marker k x y (goes x' y' u v place high covers rest) = place

pub joined_up : (e : List Offset) (mask marker : Picture) (k x y : ℕ) → Joined e mask marker k x y → k ≤ sample (reconstruction e mask marker) x y
joined_up e mask marker k x y (ends x' y' place high top) =
    let above = spread_above e mask marker (marker.height * marker.width) x' y' place.column place.row in
    let is = sample-meet marker mask x' y' place.column place.row in
    omega arith
joined_up e mask marker k x y (goes x' y' u v place high covers rest) =
    let shape = spread_shape e mask marker (marker.height * marker.width) in
    let from = joined_place e mask marker k u v rest in
    let low = joined_up e mask marker k u v rest in
    let wide = shape.width in
    let tall = shape.height in
    let closed = reconstruction_closed e mask marker in
    let edge = closed.closed x' y' u v (omega (arith, place.column)) (omega (arith, place.row)) (omega (arith, from.column)) (omega (arith, from.row)) covers in
    omega arith

-- The reconstruction is at level k or more exactly where such a path begins.
pub by_paths : (e : List Offset) (mask marker : Picture) (k x y : ℕ) → x < marker.width → y < marker.height → 1 ≤ k
    → (k ≤ sample (reconstruction e mask marker) x y) ↔ Joined e mask marker k x y
by_paths e mask marker k x y p q some =
    (joined_down e mask marker k (marker.height * marker.width) x y p q some, joined_up e mask marker k x y)

-- ---- components

-- the one place of a point
pub point_is : (f : Picture) (u v x y : ℕ) → x < f.width → y < f.height → 1 ≤ sample (point f u v) x y → (x ≡ u) × (y ≡ v)
point_is f u v x y p q high =
    let is = sample-redrawn f (λ x y. if x == u && y == v then 1 else 0) x y p q in
    elim (cases_Bool (x == u && y == v)) [
      | inl same ↦
          let both = and_parts (x == u) (y == v) same in
          (eqb-true x u both.0, eqb-true y v both.1)
      | inr not ↦
          let nothing : sample (point f u v) x y ≡ 0 = is ∙ rw not refl in
          absurd (omega arith)
    ]

point_there : (f : Picture) (u v : ℕ) → u < f.width → v < f.height → sample (point f u v) u v ≡ 1
point_there f u v p q =
    let here : (u == u && v == v) ≡ true = and_from (u == u) (v == v) (eq-eqb u u refl) (eq-eqb v v refl) in
    sample-redrawn f (λ x y. if x == u && y == v then 1 else 0) u v p q ∙ rw here refl

pub leads_itself : (e : List Offset) (f : Picture) (x y : ℕ) → IsPlace f x y → 1 ≤ sample f x y → AreConnected e f x y x y
leads_itself e f x y place high = ends x y (record { column = place.column; row = place.row }) high (omega (arith, point_there f x y place.column place.row))

pub leads_from : (e : List Offset) (f : Picture) (x y u v : ℕ) → AreConnected e f x y u v → IsPlace f x y × (1 ≤ sample f x y)
leads_from e f x y u v (ends x' y' place high top) = (record { column = place.column; row = place.row }, high)
leads_from e f x y u v (goes x' y' s t place high covers rest) = (record { column = place.column; row = place.row }, high)

pub leads_on : (e : List Offset) (f : Picture) (x y u v s t : ℕ) → AreConnected e f s t x y → AreConnected e f x y u v → AreConnected e f s t u v
leads_on e f x y u v s t (ends s' t' place high top) next =
    let is = point_is f x y s' t' place.column place.row top in
    rw (is.0, is.1) next
leads_on e f x y u v s t (goes s' t' a b place high covers rest) next =
    goes s' t' a b (record { column = place.column; row = place.row }) high covers (leads_on e f x y u v a b rest next)

pub leads_back : (e : List Offset) (f : Picture) (u v s t x y : ℕ) → IsSymmetric e → AreConnected e f x y u v → AreConnected e f x y s t → AreConnected e f u v s t
leads_back e f u v s t x y turns (ends x' y' place high top) back =
    let is = point_is f u v x' y' place.column place.row top in
    rw (← is.0, ← is.1) back
leads_back e f u v s t x y turns (goes x' y' a b place high covers rest) back =
    let from = leads_from e f a b u v rest in
    leads_back e f u v s t a b turns rest
    (goes a b x' y' (record { column = from.0.column; row = from.0.row }) from.1 (turns x' y' a b covers) back)

-- what is in a component
pub in_component : (e : List Offset) (f : Picture) (x y u v : ℕ) → x < f.width → y < f.height → (1 ≤ sample (component e f u v) x y) ↔ AreConnected e f x y u v
in_component e f x y u v p q = by_paths e f (point f u v) 1 x y p q (omega arith)

-- Components are those of each of their places.
pub one_component : (e : List Offset) (f : Picture) (x y u v : ℕ) → IsSymmetric e → IsSet f → x < f.width → y < f.height → sample (component e f u v) x y ≡ 1
    → component e f x y ≡ component e f u v
one_component e f x y u v turns is_set p q here =
    let there = (in_component e f x y u v p q).0 (omega arith) in
    let from = leads_from e f x y u v there in
    let back = leads_back e f u v x y x y turns there (leads_itself e f x y from.0 from.1) in
    let n = f.height * f.width in
    let g = component e f x y in
    let h = component e f u v in
    let g_shape = spread_shape e f (point f x y) n in
    let h_shape = spread_shape e f (point f u v) n in
    same_picture g h (shape_trans g_shape (shape_trans (record { kind = refl; width = refl; height = refl; maxval = refl }) (shape_sym h_shape)))
    (rebuilt_size e f (point f x y)) (rebuilt_size e f (point f u v))
    (λ s t a b.
    let a' : s < f.width = omega (arith, g_shape.width) in
    let b' : t < f.height = omega (arith, g_shape.height) in
    let top = sample_bounded f is_set.picture s t a' b' in
    let one = is_set.maxval in
    let g_low = spread_within e f (point f x y) n s t a b in
    let h_low = spread_within e f (point f u v) n s t (omega (arith, h_shape.width)) (omega (arith, h_shape.height)) in
    elim (cases_lt (sample g s t) 1) [
      | inl out ↦ elim (cases_lt (sample h s t) 1) [
        | inl out' ↦ omega arith
        | inr within ↦
            let way = leads_on e f u v x y s t ((in_component e f s t u v a' b').0 within) back in
            let high = (in_component e f s t x y a' b').1 way in
            omega arith
      ]
      | inr within ↦
          let way = leads_on e f x y u v s t ((in_component e f s t x y a' b').0 within) there in
          let high = (in_component e f s t u v a' b').1 way in
          omega arith
    ])

-- each place of a set is in its own component
pub own_component : (e : List Offset) (f : Picture) (x y : ℕ) → IsSet f → x < f.width → y < f.height → sample f x y ≡ 1 → sample (component e f x y) x y ≡ 1
own_component e f x y is_set p q one =
    let n = f.height * f.width in
    let shape = spread_shape e f (point f x y) n in
    let high = (in_component e f x y x y p q).1 (leads_itself e f x y (record { column = p; row = q }) (omega arith)) in
    let low = spread_within e f (point f x y) n x y (omega (arith, shape.width)) (omega (arith, shape.height)) in
    omega arith
