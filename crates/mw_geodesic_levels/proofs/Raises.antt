-- How images are raised.
use Rattle.std.proofs.Common.{◌≡◌, ℕ, ◌+◌, ◌-◌, ◌*◌, ◌<◌, ◌≤◌, ◌⊎◌, Bool, true, List, length, get_or, set, map, min, max, ap, sym, subst, arith, ◌∙◌, inl, inr}
use Rattle.std.proofs.lemmas.Bool.{cases_lt, cases_eq, cases_order}
use Rattle.std.proofs.lemmas.List.{get_or-map, get_or-set_same, get_or-set_other, map-set, length-map}
use Rattle.std.proofs.lemmas.Nat.{mul-add-lt}
use Rattle.std.proofs.Math.Nat.{mul_comm}
use Rattle.mw_geodesic_levels.specs.declared.frame.Frame.{Frame}
use Rattle.mw_geodesic_levels.specs.Levels.{level_numbered, IsPut, IsNearby, IsStillBy, StaysUnderStill, IsRaised, CanRise, IsHighest, IsStillTo}

-- a sample that was read has the level of its number
pub level_read : {A : Type 0} (level : A → ℕ) (xs : List A) (i : ℕ) (a : A) → i < length xs → a ≡ get_or xs i a → level a ≡ level_numbered level xs i
level_read level xs i a lt is = ap level is ∙ sym (get_or-map level xs i a 0 lt)

-- a sample that is written
pub put_is : {A : Type 0} (level : A → ℕ) (xs : List A) (i : ℕ) (s : A) → i < length xs → IsPut (level s) i (level_numbered level xs) (level_numbered level (set xs i s))
put_is level xs i s lt = record {
  here = ap (λ (l : List ℕ). get_or l i 0) (map-set level xs i s) ∙ get_or-set_same (map level xs) i (level s) 0 (omega (arith, length-map xs level));
  others = λ j ne. ap (λ (l : List ℕ). get_or l j 0) (map-set level xs i s) ∙ get_or-set_other (map level xs) i j (level s) 0 ne;
}

pub in_frame : (w h x y : ℕ) → x < w → y < h → y * w + x < h * w
in_frame w h x y p q = omega (arith, mul-add-lt y w x h q p, mul_comm w h)

-- ---- raised

pub raised_itself : (frame : Frame) (mask f : ℕ → ℕ) → IsRaised frame mask f f
raised_itself frame mask f = record { over = λ i lt. omega arith; within = λ h still under. under }

pub raised_on : {frame : Frame} {mask f g h : ℕ → ℕ} → IsRaised frame mask f g → IsRaised frame mask g h → IsRaised frame mask f h
raised_on first second = record {
  over = λ i lt.
      let a = first.over i lt in
      let b = second.over i lt in
      omega arith;
  within = λ k still under. second.within k still (first.within k still under);
}

-- a first image with the same levels is raised as well
pub raised_from : {frame : Frame} {mask f g : ℕ → ℕ} (e : ℕ → ℕ) → ((i : ℕ) → i < frame.height * frame.width → f i ≡ e i) → IsRaised frame mask f g → IsRaised frame mask e g
raised_from e same raised = record {
  over = λ i lt. let a = raised.over i lt in omega (arith, same i lt);
  within = λ h still under. raised.within h still (λ i lt. let a = under i lt in omega (arith, same i lt));
}

-- a level that is allowed is put in the place of one that is not over it
pub put_raised : {frame : Frame} {mask f g : ℕ → ℕ} (i s : ℕ) → f i ≤ s → StaysUnderStill frame mask f i s → IsPut s i f g → IsRaised frame mask f g
put_raised i s low allowed put = record {
  over = λ j lt. elim (cases_eq j i) [
    | inl e ↦ let here = put.here in rw e (omega arith)
    | inr ne ↦ omega (arith, put.others j ne)
  ];
  within = λ h still under j lt. elim (cases_eq j i) [
    | inl e ↦
        let top = allowed h still under in
        let here = put.here in
        rw e (omega arith)
    | inr ne ↦ let below = under j lt in omega (arith, put.others j ne)
  ];
}

-- ---- what is allowed

-- the greatest level near a place, cut to the mask
pub highest_allowed : (frame : Frame) (mask f : ℕ → ℕ) (x y v reach s : ℕ) → x < frame.width → y < frame.height → v < frame.height
    → ((u : ℕ) → x ≤ u + reach → u ≤ x + reach → IsNearby frame.corners x y u v) → IsHighest frame f x v reach s → StaysUnderStill frame mask f (y * frame.width + x) (min s (mask (y * frame.width + x)))
highest_allowed frame mask f x y v reach s p q r near high h still under =
    elim (cases_lt (h (y * frame.width + x)) (mask (y * frame.width + x))) [
      | inr le ↦ omega arith
      | inl lt ↦
          let top = high.least (h (y * frame.width + x)) (λ u across a b.
          let edge = still.still x y v p q r u across (near u a b) in
          let from = under (v * frame.width + u) (in_frame frame.width frame.height u v across r) in
          omega arith) in
          omega arith
    ]

-- a place that is raised to one near it, within the mask
pub pulled : (frame : Frame) (mask f g : ℕ → ℕ) (x y u v i j s t : ℕ) → x < frame.width → y < frame.height → u < frame.width → v < frame.height → IsNearby frame.corners x y u v
    → i ≡ y * frame.width + x → j ≡ v * frame.width + u → s ≡ f j → t ≡ max (f i) (min s (mask i)) → IsPut t i f g → IsRaised frame mask f g
pulled frame mask f g x y u v i j s t p q across r near at from is level put =
    put_raised i t (omega arith)
    (λ h still under.
    let edge = still.still x y v p q r u across near in
    let low = under (v * frame.width + u) (in_frame frame.width frame.height u v across r) in
    let own = under i (omega (arith, in_frame frame.width frame.height x y p q)) in
    omega (arith, ap mask at, ap h at, ap f from)) put

-- a place that can be raised by those near it in a row
pub can_rise : (frame : Frame) (mask f : ℕ → ℕ) (x y v reach s i t : ℕ) → x < frame.width → y < frame.height → v < frame.height
    → ((u : ℕ) → x ≤ u + reach → u ≤ x + reach → IsNearby frame.corners x y u v) → IsHighest frame f x v reach s → i ≡ y * frame.width + x → t ≡ min s (mask i) → f i < t → CanRise frame mask f i t
can_rise frame mask f x y v reach s i t p q r near high at is more = record {
  inside = omega (arith, in_frame frame.width frame.height x y p q);
  more = more;
  masked = omega arith;
  allowed = λ h still under.
      let top = highest_allowed frame mask f x y v reach s p q r near high h still under in
      omega (arith, ap mask at, ap h at);
}

-- a place that can't
pub still_by : (frame : Frame) (mask f : ℕ → ℕ) (x y v reach s i t : ℕ) → ((x u : ℕ) → IsNearby frame.corners x y u v → (x ≤ u + reach) × (u ≤ x + reach)) → IsHighest frame f x v reach s
    → i ≡ y * frame.width + x → t ≡ min s (mask i) → t ≤ f i → IsStillBy frame mask f x y v
still_by frame mask f x y v reach s i t nears high at is none = λ u across near.
    let close = nears x u near in
    let top = high.most u across close.0 close.1 in
    omega (arith, ap mask at, ap f at)

-- a row is still by all rows, if it is by that above, by itself and by that below
pub still_in_row : (frame : Frame) (mask f : ℕ → ℕ) (y above below : ℕ) → ((v : ℕ) → y ≤ v + 1 → v < y → v ≡ above) → ((v : ℕ) → v ≤ y + 1 → y < v → v < frame.height → v ≡ below)
    → ((x : ℕ) → x < frame.width → IsStillBy frame mask f x y above) → ((x : ℕ) → x < frame.width → IsStillBy frame mask f x y y) → ((x : ℕ) → x < frame.width → IsStillBy frame mask f x y below)
    → (x v : ℕ) → x < frame.width → v < frame.height → IsStillBy frame mask f x y v
still_in_row frame mask f y above below one two by_above beside by_below x v p q = λ u across near.
    elim (cases_order v y) [
      | inl e ↦ subst (λ (k : ℕ). IsStillBy frame mask f x y k) (sym e) (beside x p) u across near
      | inr (inl less) ↦ subst (λ (k : ℕ). IsStillBy frame mask f x y k) (sym (one v near.above less)) (by_above x p) u across near
      | inr (inr more) ↦ subst (λ (k : ℕ). IsStillBy frame mask f x y k) (sym (two v near.below more q)) (by_below x p) u across near
    ]

-- ---- the greatest of three samples

pub highest_is : (frame : Frame) (f : ℕ → ℕ) (x v reach left right i j k s : ℕ) → x < frame.width → reach ≤ 1 → left ≡ x - reach → right ≡ min (x + reach) (frame.width - 1)
    → i ≡ v * frame.width + left → j ≡ v * frame.width + x → k ≡ v * frame.width + right → s ≡ max (f j) (max (f i) (f k)) → IsHighest frame f x v reach s
highest_is frame f x v reach left right i j k s p small l r at_left at_middle at_right is = record {
  most = λ u across a b. elim (cases_order u x) [
    | inl e ↦ rw e (omega (arith, ap f at_middle))
    | inr (inl less) ↦ let at : u ≡ left = omega arith in rw at (omega (arith, ap f at_left))
    | inr (inr more) ↦ let at : u ≡ right = omega arith in rw at (omega (arith, ap f at_right))
  ];
  least = λ t each.
      let one = each x p (omega arith) (omega arith) in
      let two = each left (omega arith) (omega arith) (omega arith) in
      let three = each right (omega arith) (omega arith) (omega arith) in
      omega (arith, ap f at_left, ap f at_middle, ap f at_right);
}

-- a place that one near it can raise
pub near_rises : (frame : Frame) (mask f : ℕ → ℕ) (x y u v i j t : ℕ) → x < frame.width → y < frame.height → u < frame.width → v < frame.height → IsNearby frame.corners x y u v
    → i ≡ y * frame.width + x → j ≡ v * frame.width + u → t ≡ min (f j) (mask i) → f i < t → CanRise frame mask f i t
near_rises frame mask f x y u v i j t p q across r near at from_at is more = record {
  inside = omega (arith, in_frame frame.width frame.height x y p q);
  more = more;
  masked = omega arith;
  allowed = λ h still under.
      let edge = still.still x y v p q r u across near in
      let from = under (v * frame.width + u) (in_frame frame.width frame.height u v across r) in
      omega (arith, ap mask at, ap h at, ap f from_at);
}

-- one sample more is cut to the mask
pub cut_more : (f mask g h : ℕ → ℕ) (i s : ℕ) → s ≡ min (g i) (mask i) → IsPut s i g h → ((k : ℕ) → k < i → g k ≡ min (f k) (mask k)) → ((k : ℕ) → i ≤ k → g k ≡ f k)
    → ((k : ℕ) → k < i + 1 → h k ≡ min (f k) (mask k)) × ((k : ℕ) → i + 1 ≤ k → h k ≡ f k)
cut_more f mask g h i s is put done rest = (
  λ k lt. elim (cases_eq k i) [
    | inl e ↦
        let here = put.here in
        let old = rest i (omega arith) in
        rw e (omega arith)
    | inr ne ↦
        let same = put.others k ne in
        let before = done k (omega arith) in
        omega arith
  ],
  λ k le. put.others k (λ e. absurd (omega arith)) ∙ rest k (omega arith),
)

-- a level is found under another name of its number
pub level_at : (f : ℕ → ℕ) (i j s : ℕ) → i ≡ j → s ≡ f i → s ≡ f j
level_at f i j s e is = is ∙ ap f e

-- the level that was put
pub level_put : {f g : ℕ → ℕ} (i j s : ℕ) → i ≡ j → IsPut s i f g → s ≡ g j
level_put {f} {g} i j s e put = sym put.here ∙ ap g e

-- ---- one place by one other

pub still_to : (frame : Frame) (mask f : ℕ → ℕ) (x y u v i j : ℕ) → i ≡ y * frame.width + x → j ≡ v * frame.width + u → min (f j) (mask i) ≤ f i → IsStillTo frame mask f x y u v
still_to frame mask f x y u v i j at from low = omega (arith, ap mask at, ap f at, ap f from)

-- one column more
pub left_more : (frame : Frame) (mask f : ℕ → ℕ) (y v x u : ℕ) → x ≡ u + 1 → ((k : ℕ) → k + 1 < x → IsStillTo frame mask f (k + 1) y k v) → IsStillTo frame mask f x y u v → (k : ℕ) → k + 1 < x + 1 → IsStillTo frame mask f (k + 1) y k v
left_more frame mask f y v x u one before here k lt = elim (cases_lt (k + 1) x) [
  | inl less ↦ before k less
  | inr more ↦ left_same frame mask f y v x u (k + 1) k (omega arith) (omega arith) here
]
  where
    left_same : (frame : Frame) (mask f : ℕ → ℕ) (y v x u p k : ℕ) → x ≡ p → u ≡ k → IsStillTo frame mask f x y u v → IsStillTo frame mask f p y k v
    left_same frame mask f y v x u p k e d low = rw (← e, ← d) low

pub right_more : (frame : Frame) (mask f : ℕ → ℕ) (y v u x : ℕ) → u ≡ x + 1 → ((k : ℕ) → k + 1 < u → IsStillTo frame mask f k y (k + 1) v) → IsStillTo frame mask f x y u v → (k : ℕ) → k + 1 < u + 1 → IsStillTo frame mask f k y (k + 1) v
right_more frame mask f y v u x one before here k lt = elim (cases_lt (k + 1) u) [
  | inl less ↦ before k less
  | inr more ↦ right_same frame mask f y v u x (k + 1) k (omega arith) (omega arith) here
]
  where
    right_same : (frame : Frame) (mask f : ℕ → ℕ) (y v u x p k : ℕ) → u ≡ p → x ≡ k → IsStillTo frame mask f x y u v → IsStillTo frame mask f k y p v
    right_same frame mask f y v u x p k e d low = rw (← e, ← d) low

-- by all of a row that are near: by that of the same column, and by those beside it where they are
pub still_along : (frame : Frame) (mask f : ℕ → ℕ) (y v far : ℕ) → ((x u : ℕ) → IsNearby frame.corners x y u v → (x ≤ u + far) × (u ≤ x + far)) → far ≤ 1 → ((x : ℕ) → x < frame.width → IsStillTo frame mask f x y x v)
    → (far ≡ 0) ⊎ (((u : ℕ) → u + 1 < frame.width → IsStillTo frame mask f (u + 1) y u v) × ((x : ℕ) → x + 1 < frame.width → IsStillTo frame mask f x y (x + 1) v)) → (x : ℕ) → x < frame.width → IsStillBy frame mask f x y v
still_along frame mask f y v far nears small straight beside x p u across near =
    let close = nears x u near in
    elim (cases_order u x) [
      | inl e ↦ same x u e (straight x p)
      | inr (inl less) ↦ elim beside [
        | inl none ↦ absurd (let a = close.0 in omega arith)
        | inr both ↦ left u x (let a = close.0 in omega arith) (both.0 u (let a = close.0 in omega arith))
      ]
      | inr (inr more) ↦ elim beside [
        | inl none ↦ absurd (let a = close.1 in omega arith)
        | inr both ↦ right x u (let a = close.1 in omega arith) (both.1 x (let a = close.1 in omega arith))
      ]
    ]
  where
    same : (x u : ℕ) → u ≡ x → IsStillTo frame mask f x y x v → IsStillTo frame mask f x y u v
    same x u e low = rw e low

    left : (u x : ℕ) → x ≡ u + 1 → IsStillTo frame mask f (u + 1) y u v → IsStillTo frame mask f x y u v
    left u x e low = rw e low

    right : (x u : ℕ) → u ≡ x + 1 → IsStillTo frame mask f x y (x + 1) v → IsStillTo frame mask f x y u v
    right x u e low = rw e low

-- ---- near

-- a place of another column is near, where it is in the same row or corners count
pub near_across : {corners : Bool} {x y u v : ℕ} → x ≤ u + 1 → u ≤ x + 1 → y ≤ v + 1 → v ≤ y + 1 → (corners ≡ true) ⊎ (y ≡ v) → IsNearby corners x y u v
near_across left right above below across = record {
  left = left;
  right = right;
  above = above;
  below = below;
  across = elim across [ inl corner ↦ inl corner | inr same ↦ inr (inr (sym same)) ];
}
