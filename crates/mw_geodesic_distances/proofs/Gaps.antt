-- How far the places of a frame are from what is not in the set, within their columns.
use Rattle.std.proofs.Common.{◌≡◌, ℕ, zero, suc, ◌+◌, ◌-◌, ◌<◌, ◌≤◌, ◌⊎◌, min, refl, sym, ap, arith, ◌∙◌, inl, inr}
use Rattle.std.proofs.lemmas.Bool.{cases_lt, cases_eq, ne_eqb}
use Rattle.mw_geodesic_distances.specs.declared.columns.TheConstants.{FAR}
use Rattle.mw_geodesic_distances.specs.declared.frame.Frame.{Frame}
use Rattle.mw_geodesic_distances.specs.Rows.{begin_of_bit, IsLoweredStraight}
use Rattle.mw_geodesic_distances.specs.Grids.{AreUpTo}
use Rattle.mw_geodesic_distances.specs.Columns.{IsLoweredDown, IsLoweredUp, gap_between, IsGapTo, IsGap, AreGaps}
use Rattle.mw_geodesic_distances.proofs.Lists.{IsRowPut}

-- ---- one column

-- what a column begins with, and how it is lowered from its top and then from its bottom
record IsColumn (h : ℕ) (set st d u : ℕ → ℕ) : Type 0 where
  bits : (y : ℕ) → y < h → set y ≤ 1
  start : (y : ℕ) → y < h → st y ≡ begin_of_bit FAR (set y)
  first : 0 < h → d 0 ≡ st 0
  down : (v y : ℕ) → v + 1 ≡ y → y < h → d y ≡ min (st y) (d v + 1)
  last : (y : ℕ) → y + 1 ≡ h → u y ≡ d y
  up : (y v : ℕ) → y + 1 ≡ v → v < h → u y ≡ min (d y) (u v + 1)

started : (h : ℕ) (set st d u : ℕ → ℕ) → IsColumn h set st d u → (y : ℕ) → y < h → ((set y ≡ 1) × (st y ≡ FAR)) ⊎ ((set y ≡ 0) × (st y ≡ 0))
started h set st d u c y p =
    let bit = c.bits y p in
    let is = c.start y p in
    elim (cases_eq (set y) 1) [
      | inl one ↦ inl (one, is ∙ rw one refl)
      | inr other ↦ inr (omega arith, is ∙ rw (ne_eqb (set y) 1 other) refl)
    ]

down_less : (h : ℕ) (set st d u : ℕ → ℕ) → IsColumn h set st d u → (y : ℕ) → y < h → d y ≤ st y
down_less h set st d u c zero p = let is = c.first p in omega arith
down_less h set st d u c (suc y) p = let is = c.down y (suc y) (omega arith) p in omega arith

up_less : (h : ℕ) (set st d u : ℕ → ℕ) → IsColumn h set st d u → (y : ℕ) → y < h → u y ≤ d y
up_less h set st d u c y p = elim (cases_eq (y + 1) h) [
  | inl end ↦ let is = c.last y end in omega arith
  | inr more ↦ let is = c.up y (y + 1) refl (omega arith) in omega arith
]

down_far : (h : ℕ) (set st d u : ℕ → ℕ) → IsColumn h set st d u → (k v y : ℕ) → v + k ≡ y → y < h → set v ≡ 0 → d y ≤ k
down_far h set st d u c zero v y e p out =
    let same : v ≡ y = omega arith in
    let none : set y ≡ 0 = ap set (sym same) ∙ out in
    let less = down_less h set st d u c y p in
    elim (started h set st d u c y p) [
      | inl one ↦ let a = one.0 in absurd (omega arith)
      | inr zero_is ↦ let a = zero_is.1 in omega arith
    ]
down_far h set st d u c (suc k) v y e p out =
    let before = down_far h set st d u c k v (v + k) refl (omega arith) out in
    let is = c.down (v + k) y (omega arith) p in
    omega arith

up_far : (h : ℕ) (set st d u : ℕ → ℕ) → IsColumn h set st d u → (k v y : ℕ) → y + k ≡ v → v < h → set v ≡ 0 → u y ≤ k
up_far h set st d u c zero v y e p out =
    let same : y ≡ v = omega arith in
    let less = up_less h set st d u c y (omega arith) in
    let low = down_far h set st d u c zero v y (omega arith) (omega arith) out in
    omega arith
up_far h set st d u c (suc k) v y e p out =
    let behind = up_far h set st d u c k v (y + 1) (omega arith) p out in
    let is = c.up y (y + 1) refl (omega arith) in
    omega arith

gap_least : (h : ℕ) (set st d u : ℕ → ℕ) → IsColumn h set st d u → (y v : ℕ) → y < h → v < h → set v ≡ 0 → u y ≤ gap_between y v
gap_least h set st d u c y v p q out = elim (cases_lt y v) [
  | inl above ↦ let far = up_far h set st d u c (v - y) v y (omega arith) q out in omega arith
  | inr below ↦
      let far = down_far h set st d u c (y - v) v y (omega arith) p out in
      let less = up_less h set st d u c y p in
      omega arith
]

-- the row of some place that is not in the set, no further down
record IsAbove (h y : ℕ) (set : ℕ → ℕ) (s : ℕ) : Type 0 where
  row : ℕ
  below : row ≤ y
  outside : set row ≡ 0
  is : s + row ≡ y

down_reason : (h : ℕ) (set st d u : ℕ → ℕ) → IsColumn h set st d u → (y : ℕ) → y < h → (d y ≡ FAR) ⊎ IsAbove h y set (d y)
down_reason h set st d u c zero p =
    let is = c.first p in
    elim (started h set st d u c zero p) [
      | inl one ↦ let a = one.1 in inl (omega arith)
      | inr out ↦ let a = out.1 in inr (record { row = 0; below = omega arith; outside = out.0; is = omega arith })
    ]
down_reason h set st d u c (suc y) p =
    let is = c.down y (suc y) (omega arith) p in
    let less = down_less h set st d u c (suc y) p in
    elim (started h set st d u c (suc y) p) [
      | inr out ↦ let a = out.1 in inr (record { row = suc y; below = omega arith; outside = out.0; is = omega arith })
      | inl one ↦
          let a = one.1 in
          elim (cases_lt (d y + 1) (st (suc y))) [
            | inr far ↦ inl (omega arith)
            | inl near ↦ elim (down_reason h set st d u c y (omega arith)) [
              | inl far ↦ absurd (omega arith)
              | inr some ↦
                  let b = some.below in
                  let e = some.is in
                  inr (record { row = some.row; below = omega arith; outside = some.outside; is = omega arith })
            ]
          ]
    ]

-- what is as far as it is from above
stays_down : (h : ℕ) (set st d u : ℕ → ℕ) → IsColumn h set st d u → (y : ℕ) → y < h → d y ≤ u y → (u y ≡ FAR) ⊎ IsGapTo h y set (u y)
stays_down h set st d u c y p same =
    let less = up_less h set st d u c y p in
    elim (down_reason h set st d u c y p) [
      | inl far ↦ inl (omega arith)
      | inr some ↦
          let b = some.below in
          let s = some.is in
          inr (record { row = some.row; within = omega arith; outside = some.outside; is = omega arith })
    ]

up_reason : (h : ℕ) (set st d u : ℕ → ℕ) → IsColumn h set st d u → (k y : ℕ) → y + (k + 1) ≡ h → (u y ≡ FAR) ⊎ IsGapTo h y set (u y)
up_reason h set st d u c zero y e = stays_down h set st d u c y (omega arith) (let is = c.last y (omega arith) in omega arith)
up_reason h set st d u c (suc k) y e = elim (cases_lt (u y) (d y)) [
  | inr same ↦ stays_down h set st d u c y (omega arith) same
  | inl lower ↦
      let is = c.up y (y + 1) refl (omega arith) in
      let low = down_less h set st d u c y (omega arith) in
      elim (up_reason h set st d u c k (y + 1) (omega arith)) [
        | inl far ↦ elim (started h set st d u c y (omega arith)) [
          | inl one ↦ let a = one.1 in absurd (omega arith)
          | inr out ↦ let a = out.1 in absurd (omega arith)
        ]
        | inr some ↦
            let b = some.is in
            let least = gap_least h set st d u c y some.row (omega arith) some.within some.outside in
            inr (record { row = some.row; within = some.within; outside = some.outside; is = omega arith })
      ]
]

gap_low : (h : ℕ) (set st d u : ℕ → ℕ) → IsColumn h set st d u → (y : ℕ) → y < h → u y ≤ FAR
gap_low h set st d u c y p =
    let a = up_less h set st d u c y p in
    let b = down_less h set st d u c y p in
    elim (started h set st d u c y p) [
      | inl one ↦ let s = one.1 in omega arith
      | inr out ↦ let s = out.1 in omega arith
    ]

gap_is : (h : ℕ) (set st d u : ℕ → ℕ) → IsColumn h set st d u → (y : ℕ) → y < h → IsGap h y set (u y)
gap_is h set st d u c y p = record {
  low = gap_low h set st d u c y p;
  least = λ v q out. gap_least h set st d u c y v p q out;
  reason = up_reason h set st d u c (h - (y + 1)) y (omega arith);
}

pub gaps_are : (w h : ℕ) (set f g made : ℕ → ℕ → ℕ) → ((x y : ℕ) → x < w → y < h → set x y ≤ 1) → ((x y : ℕ) → x < w → y < h → f x y ≡ begin_of_bit FAR (set x y)) → IsLoweredDown w h f g → IsLoweredUp w h g made → AreGaps w h set made
gaps_are w h set f g made bits start down up x y p q =
    gap_is h (set x) (f x) (g x) (made x) (record {
      bits = λ y q. bits x y p q;
      start = λ y q. start x y p q;
      first = λ some. down.first x p some;
      down = λ v y e q. down.next x v y p e q;
      last = λ y e. up.last x y p e;
      up = λ y v e q. up.next x y v p e q;
    }) y q

-- ---- row by row

pub record IsLoweredTo (frame : Frame) (y : ℕ) (f g : ℕ → ℕ → ℕ) (other : ℕ → ℕ) : Type 0 where
  pub rest : (x v : ℕ) → x < frame.width → y ≤ v → v < frame.height → g x v ≡ f x v
  pub top : (x : ℕ) → x < frame.width → 0 < frame.height → g x 0 ≡ f x 0
  pub next : (x v w : ℕ) → x < frame.width → v + 1 ≡ w → w < y → w < frame.height → g x w ≡ min (f x w) (g x v + 1)
  pub first : y ≡ 0 → (x : ℕ) → x < frame.width → other x ≡ FAR
  pub above : (v : ℕ) → v + 1 ≡ y → (x : ℕ) → x < frame.width → other x ≡ g x v

pub lowered_none : (frame : Frame) (f : ℕ → ℕ → ℕ) (other : ℕ → ℕ) → ((x : ℕ) → x < frame.width → other x ≡ FAR) → IsLoweredTo frame 0 f f other
lowered_none frame f other far = record {
  rest = λ x v p le q. refl;
  top = λ x p q. refl;
  next = λ x v w p e lt q. absurd (omega arith);
  first = λ e. far;
  above = λ v e. absurd (omega arith);
}

pub lowered_more : (frame : Frame) (y : ℕ) (f g h : ℕ → ℕ → ℕ) (other old made copy : ℕ → ℕ) → y < frame.height → AreUpTo frame FAR f → IsLoweredTo frame y f g other → ((x : ℕ) → x < frame.width → old x ≡ g x y) → IsLoweredStraight frame.width other old made
    → IsRowPut frame.width frame.height y made g h → ((x : ℕ) → copy x ≡ made x) → IsLoweredTo frame (y + 1) f h copy
lowered_more frame y f g h other old made copy inside low known same step put copied = record {
  rest = λ x v p le q. put.others x v p q (λ e. absurd (omega arith)) ∙ known.rest x v p (omega arith) q;
  top = λ x p q. elim (cases_eq y 0) [
    | inr some ↦ put.others x 0 p q (λ e. absurd (omega arith)) ∙ known.top x p q
    | inl none ↦
        let far = known.first none x p in
        let is = step x p in
        let was = same x p in
        let here = put.here x p in
        let stood = known.top x p q in
        let most = low x 0 p q in
        let row : h x 0 ≡ h x y = ap (h x) (sym none) in
        let row' : g x y ≡ g x 0 = ap (g x) none in
        omega arith
  ];
  next = λ x v w p e lt q. elim (cases_eq w y) [
    | inr ne ↦
        let a = put.others x w p q ne in
        let b = put.others x v p (omega arith) (λ e'. absurd (omega arith)) in
        let c = known.next x v w p e (omega arith) q in
        omega arith
    | inl here ↦
        let a = put.here x p in
        let b = put.others x v p (omega arith) (λ e'. absurd (omega arith)) in
        let c = step x p in
        let d = same x p in
        let d' = known.rest x y p (omega arith) inside in
        let d'' = known.above v (omega arith) x p in
        rw here (omega arith)
  ];
  first = λ e. absurd (omega arith);
  above = λ v e x p.
      let here : v ≡ y = omega arith in
      rw here (copied x ∙ sym (put.here x p));
}

pub lowered_all : (frame : Frame) (y : ℕ) (f g : ℕ → ℕ → ℕ) (other : ℕ → ℕ) → frame.height ≤ y → IsLoweredTo frame y f g other → IsLoweredDown frame.width frame.height f g
lowered_all frame y f g other end known = record {
  first = λ x p q. known.top x p q;
  next = λ x v w p e q. known.next x v w p e (omega arith) q;
}

pub record IsLoweredBack (frame : Frame) (y : ℕ) (f g : ℕ → ℕ → ℕ) (other : ℕ → ℕ) : Type 0 where
  pub rest : (x v : ℕ) → x < frame.width → v < y → v < frame.height → g x v ≡ f x v
  pub end : (x v : ℕ) → x < frame.width → v + 1 ≡ frame.height → g x v ≡ f x v
  pub next : (x v w : ℕ) → x < frame.width → v + 1 ≡ w → y ≤ v → w < frame.height → g x v ≡ min (f x v) (g x w + 1)
  pub last : y ≡ frame.height → (x : ℕ) → x < frame.width → other x ≡ FAR
  pub below : y < frame.height → (x : ℕ) → x < frame.width → other x ≡ g x y

pub back_none : (frame : Frame) (y : ℕ) (f : ℕ → ℕ → ℕ) (other : ℕ → ℕ) → y ≡ frame.height → ((x : ℕ) → x < frame.width → other x ≡ FAR) → IsLoweredBack frame y f f other
back_none frame y f other e far = record {
  rest = λ x v p lt q. refl;
  end = λ x v p q. refl;
  next = λ x v w p e' le q. absurd (omega arith);
  last = λ e'. far;
  below = λ lt. absurd (omega arith);
}

pub back_more : (frame : Frame) (y w : ℕ) (f g h : ℕ → ℕ → ℕ) (other old made copy : ℕ → ℕ) → y + 1 ≡ w → y < frame.height → AreUpTo frame FAR f → IsLoweredBack frame w f g other → ((x : ℕ) → x < frame.width → old x ≡ g x y)
    → IsLoweredStraight frame.width other old made → IsRowPut frame.width frame.height y made g h → ((x : ℕ) → copy x ≡ made x) → IsLoweredBack frame y f h copy
back_more frame y w f g h other old made copy after inside low known same step put copied = record {
  rest = λ x v p lt q. put.others x v p q (λ e. absurd (omega arith)) ∙ known.rest x v p (omega arith) q;
  end = λ x v p e. elim (cases_eq v y) [
    | inr ne ↦ put.others x v p (omega arith) ne ∙ known.end x v p e
    | inl here ↦
        let far = known.last (omega arith) x p in
        let is = step x p in
        let was = same x p in
        let stood = known.rest x y p (omega arith) inside in
        let put-is = put.here x p in
        let most = low x y p inside in
        rw here (omega arith)
  ];
  next = λ x v v' p e le q. elim (cases_eq v y) [
    | inr ne ↦
        let a = put.others x v p (omega arith) ne in
        let b = put.others x v' p q (λ e'. absurd (omega arith)) in
        let c = known.next x v v' p e (omega arith) q in
        omega arith
    | inl here ↦
        let row : v' ≡ w = omega arith in
        let lt : w < frame.height = omega arith in
        let a = put.here x p in
        let b = put.others x w p lt (λ e'. absurd (omega arith)) in
        let c = step x p in
        let d = same x p in
        let d' = known.rest x y p (omega arith) inside in
        let d'' = known.below lt x p in
        rw (here, row) (omega arith)
  ];
  last = λ e. absurd (omega arith);
  below = λ lt x p. copied x ∙ sym (put.here x p);
}

pub back_all : (frame : Frame) (f g : ℕ → ℕ → ℕ) (other : ℕ → ℕ) → IsLoweredBack frame 0 f g other → IsLoweredUp frame.width frame.height f g
back_all frame f g other known = record {
  last = λ x y p e. known.end x y p e;
  next = λ x y v p e q. known.next x y v p e (omega arith) q;
}

pub lowered_low : (frame : Frame) (f g : ℕ → ℕ → ℕ) → AreUpTo frame FAR f → IsLoweredDown frame.width frame.height f g → AreUpTo frame FAR g
lowered_low frame f g low down x y p q = elim (cases_eq y 0) [
  | inl e ↦
      let a = down.first x p (omega arith) in
      let b = low x 0 p (omega arith) in
      rw e (omega arith)
  | inr ne ↦
      let a = down.next x (y - 1) y p (omega arith) q in
      let b = low x y p q in
      omega arith
]
