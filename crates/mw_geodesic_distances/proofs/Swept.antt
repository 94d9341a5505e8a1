-- How the rows of a frame are lowered, one after another.
use Rattle.std.proofs.Common.{◌≡◌, ℕ, zero, suc, ◌+◌, ◌-◌, ◌<◌, ◌≤◌, ◌⊎◌, refl, sym, ap, arith, ◌∙◌, inl, inr}
use Rattle.std.proofs.lemmas.Bool.{cases_lt, cases_eq}
use Rattle.mw_geodesic_distances.specs.declared.frame.Frame.{Frame}
use Rattle.mw_geodesic_distances.specs.Rows.{IsStepRight, IsStepLeft}
use Rattle.mw_geodesic_distances.specs.Grids.{AreUpTo, IsAdjoining, HasLower, IsLowered, IsForward, IsSmooth}
use Rattle.mw_geodesic_distances.proofs.Lists.{IsRowPut}

-- ---- lowered

pub lowered_itself : (frame : Frame) (f : ℕ → ℕ → ℕ) → IsLowered frame f f
lowered_itself frame f = record { less = λ x y p q. omega arith; reason = λ x y p q. inl refl }

lower_still : (frame : Frame) (g h : ℕ → ℕ → ℕ) (x y s t : ℕ) → IsLowered frame g h → t ≡ s → HasLower frame g x y s → HasLower frame h x y t
lower_still frame g h x y s t lowered same has =
    let less = lowered.less has.column has.row has.across has.down in
    let step = has.lower in
    record { column = has.column; row = has.row; across = has.across; down = has.down; near = has.near; lower = omega arith }

pub lowered_on : (frame : Frame) (f g h : ℕ → ℕ → ℕ) → IsLowered frame f g → IsLowered frame g h → IsLowered frame f h
lowered_on frame f g h first second = record {
  less = λ x y p q.
      let a = first.less x y p q in
      let b = second.less x y p q in
      omega arith;
  reason = λ x y p q. elim (second.reason x y p q) [
    | inr lower ↦ inr lower
    | inl same ↦ elim (first.reason x y p q) [
      | inl same' ↦ inl (same ∙ same')
      | inr lower ↦ inr (lower_still frame g h x y (g x y) (h x y) second same lower)
    ]
  ];
}

-- a first image with the same numbers is lowered as well
pub lowered_begun : (frame : Frame) (f e g : ℕ → ℕ → ℕ) → ((x y : ℕ) → x < frame.width → y < frame.height → f x y ≡ e x y) → IsLowered frame f g → IsLowered frame e g
lowered_begun frame f e g same lowered = record {
  less = λ x y p q. let a = lowered.less x y p q in omega (arith, same x y p q);
  reason = λ x y p q. elim (lowered.reason x y p q) [
    | inl stood ↦ inl (stood ∙ same x y p q)
    | inr lower ↦ inr lower
  ];
}

pub low_on : (frame : Frame) (top : ℕ) (f g : ℕ → ℕ → ℕ) → AreUpTo frame top f → IsLowered frame f g → AreUpTo frame top g
low_on frame top f g low lowered x y p q =
    let a = low x y p q in
    let b = lowered.less x y p q in
    omega arith

-- ---- from the top

pub record IsSweptDown (frame : Frame) (top y : ℕ) (f g : ℕ → ℕ → ℕ) (other : ℕ → ℕ) : Type 0 where
  pub rest : (x v : ℕ) → x < frame.width → y ≤ v → v < frame.height → g x v ≡ f x v
  pub lowered : IsLowered frame f g
  pub along : (u x v : ℕ) → u + 1 ≡ x → x < frame.width → v < y → v < frame.height → g x v ≤ g u v + 1
  pub across : (x u v w : ℕ) → x < frame.width → u < frame.width → v + 1 ≡ w → w < y → w < frame.height → x ≤ u + frame.reach → u ≤ x + frame.reach → g x w ≤ g u v + 1
  pub first : y ≡ 0 → (u : ℕ) → u < frame.width → other u ≡ top
  pub above : (v : ℕ) → v + 1 ≡ y → (u : ℕ) → u < frame.width → other u ≡ g u v

pub down_none : (frame : Frame) (top : ℕ) (f : ℕ → ℕ → ℕ) (other : ℕ → ℕ) → ((u : ℕ) → u < frame.width → other u ≡ top) → IsSweptDown frame top 0 f f other
down_none frame top f other far = record {
  rest = λ x v p le q. refl;
  lowered = lowered_itself frame f;
  along = λ u x v next p lt q. absurd (omega arith);
  across = λ x u v w p p' next lt q left right. absurd (omega arith);
  first = λ e. far;
  above = λ v e. absurd (omega arith);
}

-- a row that was lowered, in the frame
row_lowered_right : (frame : Frame) (top y : ℕ) (f g h : ℕ → ℕ → ℕ) (other old new : ℕ → ℕ) → y < frame.height → AreUpTo frame top f → IsSweptDown frame top y f g other
    → ((x : ℕ) → x < frame.width → old x ≡ g x y) → IsStepRight frame.reach frame.width other old new → IsRowPut frame.width frame.height y new g h → IsLowered frame g h
row_lowered_right frame top y f g h other old new down low known same step put = record {
  less = λ x v p q. elim (cases_eq v y) [
    | inr other ↦ let is = put.others x v p q other in omega arith
    | inl here ↦
        let is = put.here x p in
        let less = step.less x p in
        let was = same x p in
        rw here (omega arith)
  ];
  reason = λ x v p q. elim (cases_eq v y) [
    | inr other ↦ inl (put.others x v p q other)
    | inl here ↦ rw here (reason x p)
  ];
}
  where
    reason : (x : ℕ) → x < frame.width → (h x y ≡ g x y) ⊎ HasLower frame h x y (h x y)
    reason x p =
        let is = put.here x p in
        elim (step.reason x p) [
          | inl stood ↦ inl (is ∙ stood ∙ same x p)
          | inr (inl after) ↦
              let next = after.next in
              let inside : after.column < frame.width = omega arith in
              let before = put.here after.column inside in
              let more = after.is in
              inr (record { column = after.column; row = y; across = inside; down = down; near = inl (refl, omega arith, omega arith); lower = omega arith })
          | inr (inr from) ↦
              let more = from.is in
              elim (cases_eq y 0) [
                | inl begins ↦
                    let far = known.first begins from.column from.within in
                    let less = step.less x p in
                    let was = same x p in
                    let most = low_on frame top f g low known.lowered x y p down in
                    absurd (omega arith)
                | inr some ↦
                    let row = known.above (y - 1) (omega arith) from.column from.within in
                    let is' = put.others from.column (y - 1) from.within (omega arith) (λ e. absurd (omega arith)) in
                    inr (record { column = from.column; row = y - 1; across = from.within; down = omega arith; near = inr (from.left, from.right, omega arith, omega arith); lower = omega arith })
              ]
        ]

pub down_more : (frame : Frame) (top y : ℕ) (f g h : ℕ → ℕ → ℕ) (other old new copy : ℕ → ℕ) → y < frame.height → AreUpTo frame top f → IsSweptDown frame top y f g other
    → ((x : ℕ) → x < frame.width → old x ≡ g x y) → IsStepRight frame.reach frame.width other old new → IsRowPut frame.width frame.height y new g h → ((x : ℕ) → copy x ≡ new x) → IsSweptDown frame top (y + 1) f h copy
down_more frame top y f g h other old new copy down low known same step put copied = record {
  rest = λ x v p le q. put.others x v p q (λ e. absurd (omega arith)) ∙ known.rest x v p (omega arith) q;
  lowered = lowered_on frame f g h known.lowered (row_lowered_right frame top y f g h other old new down low known same step put);
  along = λ u x v next p lt q. elim (cases_eq v y) [
    | inr other ↦
        let a = put.others x v p q other in
        let b = put.others u v (omega arith) q other in
        let c = known.along u x v next p (omega arith) q in
        omega arith
    | inl here ↦
        let a = put.here x p in
        let b = put.here u (omega arith) in
        let c = step.along u x next p in
        rw here (omega arith)
  ];
  across = λ x u v w p p' next lt q left right. elim (cases_eq w y) [
    | inr other ↦
        let a = put.others x w p q other in
        let b = put.others u v p' (omega arith) (λ e. absurd (omega arith)) in
        let c = known.across x u v w p p' next (omega arith) q left right in
        omega arith
    | inl here ↦
        let a = put.here x p in
        let b = put.others u v p' (omega arith) (λ e. absurd (omega arith)) in
        let c = step.across x u p p' left right in
        let d = known.above v (omega arith) u p' in
        rw here (omega arith)
  ];
  first = λ e. absurd (omega arith);
  above = λ v e u p.
      let here : v ≡ y = omega arith in
      rw here (copied u ∙ sym (put.here u p));
}

pub down_all : (frame : Frame) (top y : ℕ) (f g : ℕ → ℕ → ℕ) (other : ℕ → ℕ) → frame.height ≤ y → IsSweptDown frame top y f g other → IsForward frame g
down_all frame top y f g other end known = record {
  along = λ u x v next p q. known.along u x v next p (omega arith) q;
  across = λ x u v w p p' next q left right. known.across x u v w p p' next (omega arith) q left right;
}

-- ---- from the bottom

pub record IsSweptUp (frame : Frame) (top y : ℕ) (f g : ℕ → ℕ → ℕ) (other : ℕ → ℕ) : Type 0 where
  pub rest : (x v : ℕ) → x < frame.width → v < y → v < frame.height → g x v ≡ f x v
  pub lowered : IsLowered frame f g
  pub right : (x u v : ℕ) → x + 1 ≡ u → u < frame.width → y ≤ v → v < frame.height → g x v ≤ g u v + 1
  pub left : (x u v : ℕ) → x + 1 ≡ u → u < frame.width → y ≤ v → v < frame.height → g u v ≤ g x v + 1
  pub up : (x u v w : ℕ) → x < frame.width → u < frame.width → v + 1 ≡ w → y ≤ v → w < frame.height → x ≤ u + frame.reach → u ≤ x + frame.reach → g x v ≤ g u w + 1
  pub down : (x u v w : ℕ) → x < frame.width → u < frame.width → v + 1 ≡ w → y ≤ v → w < frame.height → x ≤ u + frame.reach → u ≤ x + frame.reach → g u w ≤ g x v + 1
  pub last : y ≡ frame.height → (u : ℕ) → u < frame.width → other u ≡ top
  pub below : y < frame.height → (u : ℕ) → u < frame.width → other u ≡ g u y

pub up_none : (frame : Frame) (top y : ℕ) (f : ℕ → ℕ → ℕ) (other : ℕ → ℕ) → y ≡ frame.height → ((u : ℕ) → u < frame.width → other u ≡ top) → IsSweptUp frame top y f f other
up_none frame top y f other end far = record {
  rest = λ x v p lt q. refl;
  lowered = lowered_itself frame f;
  right = λ x u v next p le q. absurd (omega arith);
  left = λ x u v next p le q. absurd (omega arith);
  up = λ x u v w p p' next le q left right. absurd (omega arith);
  down = λ x u v w p p' next le q left right. absurd (omega arith);
  last = λ e. far;
  below = λ lt. absurd (omega arith);
}

-- what a row is lowered by, below row y
abbrev IsBelow : Frame → ℕ → ℕ → (ℕ → ℕ → ℕ) → (ℕ → ℕ) → Type 0
IsBelow frame top w g other = ((w ≡ frame.height) × ((u : ℕ) → u < frame.width → other u ≡ top)) ⊎ ((w < frame.height) × ((u : ℕ) → u < frame.width → other u ≡ g u w))

is_below : (frame : Frame) (top w : ℕ) (f g : ℕ → ℕ → ℕ) (other : ℕ → ℕ) → w ≤ frame.height → IsSweptUp frame top w f g other → IsBelow frame top w g other
is_below frame top w f g other le known = elim (cases_eq w frame.height) [
  | inl end ↦ inl (end, known.last end)
  | inr some ↦ let lt : w < frame.height = omega arith in inr (lt, known.below lt)
]

row_lowered_left : (frame : Frame) (top y w : ℕ) (g h : ℕ → ℕ → ℕ) (other old new : ℕ → ℕ) → y + 1 ≡ w → y < frame.height → AreUpTo frame top g → IsBelow frame top w g other
    → ((x : ℕ) → x < frame.width → old x ≡ g x y) → IsStepLeft frame.reach frame.width other old new → IsRowPut frame.width frame.height y new g h → IsLowered frame g h
row_lowered_left frame top y w g h other old new next inside low beside same step put = record {
  less = λ x v p q. elim (cases_eq v y) [
    | inr other ↦ let is = put.others x v p q other in omega arith
    | inl here ↦
        let is = put.here x p in
        let less = step.less x p in
        let was = same x p in
        rw here (omega arith)
  ];
  reason = λ x v p q. elim (cases_eq v y) [
    | inr other ↦ inl (put.others x v p q other)
    | inl here ↦ rw here (reason x p)
  ];
}
  where
    reason : (x : ℕ) → x < frame.width → (h x y ≡ g x y) ⊎ HasLower frame h x y (h x y)
    reason x p =
        let is = put.here x p in
        elim (step.reason x p) [
          | inl stood ↦ inl (is ∙ stood ∙ same x p)
          | inr (inl before) ↦
              let next' = before.next in
              let after = put.here before.column before.within in
              let more = before.is in
              inr (record { column = before.column; row = y; across = before.within; down = inside; near = inl (refl, omega arith, omega arith); lower = omega arith })
          | inr (inr from) ↦
              let more = from.is in
              elim beside [
                | inl none ↦
                    let far = none.1 from.column from.within in
                    let less = step.less x p in
                    let was = same x p in
                    let most = low x y p inside in
                    absurd (omega arith)
                | inr some ↦
                    let row = some.1 from.column from.within in
                    let lt = some.0 in
                    let is' = put.others from.column w from.within lt (λ e. absurd (omega arith)) in
                    inr (record { column = from.column; row = w; across = from.within; down = lt; near = inr (from.left, from.right, omega arith, omega arith); lower = omega arith })
              ]
        ]

-- the rows in which no number is over one more than those beside it
record IsLevel (n : ℕ) (row : ℕ → ℕ) : Type 0 where
  right : (x u : ℕ) → x + 1 ≡ u → u < n → row x ≤ row u + 1
  left : (x u : ℕ) → x + 1 ≡ u → u < n → row u ≤ row x + 1

-- two columns of a level row that are no more than two apart
level_two : (n : ℕ) (row : ℕ → ℕ) (a b : ℕ) → IsLevel n row → a < n → b < n → a ≤ b + 2 → b ≤ a + 2 → row a ≤ row b + 2
level_two n row a b level p q near near' = elim (cases_lt a b) [
  | inl lt ↦
      let first = level.right a (a + 1) refl (omega arith) in
      elim (cases_eq (a + 1) b) [
        | inl e ↦ rw (sym e) (omega arith)
        | inr ne ↦
            let e : a + 1 + 1 ≡ b = omega arith in
            let second = level.right (a + 1) b e q in
            omega arith
      ]
  | inr ge ↦ elim (cases_eq a b) [
    | inl e ↦ rw e (omega arith)
    | inr ne ↦
        let first = level.left b (b + 1) refl (omega arith) in
        elim (cases_eq (b + 1) a) [
          | inl e ↦ rw (sym e) (omega arith)
          | inr ne' ↦
              let e : b + 1 + 1 ≡ a = omega arith in
              let second = level.left (b + 1) a e p in
              omega arith
        ]
  ]
]

-- The second sweep keeps what the first one did: from the left to the right
kept_along : (reach n : ℕ) (other old new : ℕ → ℕ) → reach ≤ 1 → IsLevel n other → ((u x : ℕ) → u + 1 ≡ x → x < n → old x ≤ old u + 1) → IsStepLeft reach n other old new
    → (x u : ℕ) → x + 1 ≡ u → u < n → new u ≤ new x + 1
kept_along reach n other old new small level was step x u next p =
    let inside : x < n = omega arith in
    elim (step.reason x inside) [
      | inl same ↦
          let less = step.less u p in
          let before = was x u next p in
          omega arith
      | inr (inl before) ↦
          let is = before.is in
          let same : before.column ≡ u = (let e = before.next in omega arith) in
          let there : new before.column ≡ new u = ap new same in
          omega arith
      | inr (inr from) ↦
          let is = from.is in
          let a = from.left in
          let b = from.right in
          let c = from.within in
          elim (cases_lt (from.column + 1) n) [
            | inl more ↦
                let beside = level.left from.column (from.column + 1) refl more in
                let low = step.across u (from.column + 1) p more (omega arith) (omega arith) in
                omega arith
            | inr end ↦
                let low = step.across u from.column p c (omega arith) (omega arith) in
                omega arith
          ]
    ]

-- and from above to below
kept_across : (reach n : ℕ) (other old new : ℕ → ℕ) → reach ≤ 1 → IsLevel n other → ((x u : ℕ) → x < n → u < n → x ≤ u + reach → u ≤ x + reach → other u ≤ old x + 1) → IsStepLeft reach n other old new
    → (left x u : ℕ) → left + x ≡ n → x < n → u < n → x ≤ u + reach → u ≤ x + reach → other u ≤ new x + 1
kept_across reach n other old new small level was step zero x u all p q near near' = absurd (omega arith)
kept_across reach n other old new small level was step (suc left) x u all p q near near' =
    elim (step.reason x p) [
      | inl same ↦ let before = was x u p q near near' in omega arith
      | inr (inl before) ↦
          let is = before.is in
          let next = before.next in
          let there = before.within in
          elim (cases_lt (u + 1) n) [
            | inl more ↦
                let beside = level.right u (u + 1) refl more in
                let low = kept_across reach n other old new small level was step left before.column (u + 1) (omega arith) there more (omega arith) (omega arith) in
                omega arith
            | inr end ↦
                let low = kept_across reach n other old new small level was step left before.column u (omega arith) there q (omega arith) (omega arith) in
                omega arith
          ]
      | inr (inr from) ↦
          let is = from.is in
          let a = from.left in
          let b = from.right in
          let two = level_two n other u from.column level q from.within (omega arith) (omega arith) in
          omega arith
    ]

pub up_more : (frame : Frame) (top y w : ℕ) (f g h : ℕ → ℕ → ℕ) (other old new copy : ℕ → ℕ) → frame.reach ≤ 1 → y + 1 ≡ w → y < frame.height → AreUpTo frame top f → IsForward frame f → IsSweptUp frame top w f g other
    → ((x : ℕ) → x < frame.width → old x ≡ g x y) → IsStepLeft frame.reach frame.width other old new → IsRowPut frame.width frame.height y new g h → ((x : ℕ) → copy x ≡ new x) → IsSweptUp frame top y f h copy
up_more frame top y w f g h other old new copy small next inside low forward known same step put copied = record {
  rest = λ x v p lt q. put.others x v p q (λ e. absurd (omega arith)) ∙ known.rest x v p (omega arith) q;
  lowered = lowered_on frame f g h known.lowered (row_lowered_left frame top y w g h other old new next inside (low_on frame top f g low known.lowered) beside same step put);
  right = λ x u v e p le q. elim (cases_eq v y) [
    | inr ne ↦
        let a = put.others x v (omega arith) q ne in
        let b = put.others u v p q ne in
        let c = known.right x u v e p (omega arith) q in
        omega arith
    | inl here ↦
        let a = put.here x (omega arith) in
        let b = put.here u p in
        let c = step.along x u e p in
        rw here (omega arith)
  ];
  left = λ x u v e p le q. elim (cases_eq v y) [
    | inr ne ↦
        let a = put.others x v (omega arith) q ne in
        let b = put.others u v p q ne in
        let c = known.left x u v e p (omega arith) q in
        omega arith
    | inl here ↦
        let a = put.here x (omega arith) in
        let b = put.here u p in
        let c = kept_along frame.reach frame.width other old new small level was_along step x u e p in
        rw here (omega arith)
  ];
  up = λ x u v v' p p' e le q near near'. elim (cases_eq v y) [
    | inr ne ↦
        let a = put.others x v p (omega arith) ne in
        let b = put.others u v' p' q (λ e'. absurd (omega arith)) in
        let c = known.up x u v v' p p' e (omega arith) q near near' in
        omega arith
    | inl here ↦
        let row : v' ≡ w = omega arith in
        let a = put.here x p in
        let b = put.others u w p' (omega arith) (λ e'. absurd (omega arith)) in
        let c = step.across x u p p' near near' in
        let d = known.below (omega arith) u p' in
        rw (here, row) (omega arith)
  ];
  down = λ x u v v' p p' e le q near near'. elim (cases_eq v y) [
    | inr ne ↦
        let a = put.others x v p (omega arith) ne in
        let b = put.others u v' p' q (λ e'. absurd (omega arith)) in
        let c = known.down x u v v' p p' e (omega arith) q near near' in
        omega arith
    | inl here ↦
        let row : v' ≡ w = omega arith in
        let lt : w < frame.height = omega arith in
        let a = put.here x p in
        let b = put.others u w p' lt (λ e'. absurd (omega arith)) in
        let c = kept_across frame.reach frame.width other old new small level (was_across lt) step (frame.width - x) x u (omega arith) p p' near near' in
        let d = known.below lt u p' in
        rw (here, row) (omega arith)
  ];
  last = λ e. absurd (omega arith);
  below = λ lt u p. copied u ∙ sym (put.here u p);
}
  where
    beside : IsBelow frame top w g other
    beside = is_below frame top w f g other (omega arith) known

    level : IsLevel frame.width other
    level = elim beside [
      | inl none ↦ record {
        right = λ x u e p. let a = none.1 x (omega arith) in let b = none.1 u p in omega arith;
        left = λ x u e p. let a = none.1 x (omega arith) in let b = none.1 u p in omega arith;
      }
      | inr some ↦ record {
        right = λ x u e p. let a = some.1 x (omega arith) in let b = some.1 u p in let c = known.right x u w e p (omega arith) some.0 in omega arith;
        left = λ x u e p. let a = some.1 x (omega arith) in let b = some.1 u p in let c = known.left x u w e p (omega arith) some.0 in omega arith;
      }
    ]

    was_along : (u x : ℕ) → u + 1 ≡ x → x < frame.width → old x ≤ old u + 1
    was_along u x e p =
        let a = same x p in
        let b = same u (omega arith) in
        let a' = known.rest x y p (omega arith) inside in
        let b' = known.rest u y (omega arith) (omega arith) inside in
        let c = forward.along u x y e p inside in
        omega arith

    was_across : w < frame.height → (x u : ℕ) → x < frame.width → u < frame.width → x ≤ u + frame.reach → u ≤ x + frame.reach → other u ≤ old x + 1
    was_across lt x u p p' near near' =
        let a = same x p in
        let a' = known.rest x y p (omega arith) inside in
        let b = known.below lt u p' in
        let b' = known.lowered.less u w p' lt in
        let c = forward.across u x y w p' p next lt near' near in
        omega arith

pub up_all : (frame : Frame) (top : ℕ) (f g : ℕ → ℕ → ℕ) (other : ℕ → ℕ) → frame.reach ≤ 1 → IsSweptUp frame top 0 f g other → IsSmooth frame g
up_all frame top f g other small known = record { smooth = smooth }
  where
    row_near : (x u v : ℕ) → x < frame.width → u < frame.width → v < frame.height → x ≤ u + 1 → u ≤ x + 1 → g x v ≤ g u v + 1
    row_near x u v p p' q near near' = elim (cases_lt x u) [
      | inl before ↦ known.right x u v (omega arith) p' (omega arith) q
      | inr after ↦ elim (cases_eq x u) [
        | inl e ↦ rw e (omega arith)
        | inr ne ↦ known.left u x v (omega arith) p (omega arith) q
      ]
    ]

    smooth : (x y u v : ℕ) → x < frame.width → y < frame.height → u < frame.width → v < frame.height → IsAdjoining frame.reach x y u v → g x y ≤ g u v + 1
    smooth x y u v p q p' q' (inl near) =
        let row = near.0 in
        rw row (row_near x u y p p' q near.1 near.2)
    smooth x y u v p q p' q' (inr near) =
        let a = near.0 in
        let b = near.1 in
        let c = near.2 in
        let d = near.3 in
        elim (cases_lt y v) [
          | inl above ↦ known.up x u y v p p' (omega arith) (omega arith) q' a b
          | inr from ↦ elim (cases_eq v y) [
            | inl e ↦ rw e (row_near x u y p p' q (omega arith) (omega arith))
            | inr ne ↦ known.down u x v y p' p (omega arith) (omega arith) q b a
          ]
        ]
