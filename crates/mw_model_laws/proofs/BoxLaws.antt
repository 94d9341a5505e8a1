-- Full rectangles.
use Rattle.std.proofs.Common.{◌≡◌, ℕ, zero, suc, ◌+◌, ◌-◌, ◌*◌, ◌<◌, ◌≤◌, ◌⊎◌, List, [], ◌∷◌, ◌++◌, map, pos, ◌+ℤ◌, ◌-ℤ◌, ap, sym, arith, ◌∙◌, inl, inr, refl}
use Rattle.std.specs.List.{range_with_len, flat_map}
use Rattle.std.proofs.lemmas.Bool.{cases_lt, cases_eq}
use Rattle.std.proofs.lemmas.Int.{ints}
use Rattle.std.proofs.Math.Nat.{le_antisymm}
use Rattle.mw_model.specs.declared.offsets.Offset.{Offset}
use Rattle.mw_model.specs.Pictures.{Picture, sample, IsPicture}
use Rattle.mw_model.specs.Flat.{under, least, greatest, erosion, dilation, reflected}
use Rattle.mw_model.specs.Iterates.{times, rectangle}
use Rattle.mw_model_laws.proofs.Composed.{AreComposed, CoverSame, erosion-erosion, dilation-dilation, dilation_same}
use Rattle.mw_model.proofs.ImagePlaces.{same_picture, redrawn_shape, shape_sym, length-rows, sample_bounded}
use Rattle.mw_model.proofs.ImageOrder.{sample-erosion, sample-dilation}
use Rattle.mw_model.proofs.Covers.{reflected-IsTurned, turned_back, Covers, least_below, below_least, below_greatest, greatest_below}

covers_either : (cs bs : List Offset) (x y u v : ℕ) → Covers (cs ++ bs) x y u v → Covers cs x y u v ⊎ Covers bs x y u v
covers_either [] bs x y u v c = inr c
covers_either (a ∷ cs) bs x y u v (inl e) = inl (inl e)
covers_either (a ∷ cs) bs x y u v (inr c) = elim (covers_either cs bs x y u v c) [ inl first ↦ inl (inr first) | inr second ↦ inr second ]

covers_left : (cs bs : List Offset) (x y u v : ℕ) → Covers cs x y u v → Covers (cs ++ bs) x y u v
covers_left [] bs x y u v c = absurd c
covers_left (a ∷ cs) bs x y u v (inl e) = inl e
covers_left (a ∷ cs) bs x y u v (inr c) = inr (covers_left cs bs x y u v c)

covers_right : (cs bs : List Offset) (x y u v : ℕ) → Covers bs x y u v → Covers (cs ++ bs) x y u v
covers_right [] bs x y u v c = c
covers_right (a ∷ cs) bs x y u v c = inr (covers_right cs bs x y u v c)

-- one row of the rectangle, from its place a on
abbrev row : ℕ → ℕ → ℕ → ℕ → ℕ → List Offset
row left up j a n = map (λ i. let b : Offset = record { dx = pos i -ℤ pos left; dy = pos j -ℤ pos up } in b) (range_with_len a n)

abbrev rows : ℕ → ℕ → ℕ → ℕ → ℕ → List Offset
rows left up m a n = flat_map (λ j. row left up j 0 m) (range_with_len a n)

column-of_step : (x i left u : ℕ) → pos x +ℤ (pos i -ℤ pos left) ≡ pos u → x + i ≡ u + left
column-of_step x i left u e = omega (arith, ints)

step_back : (x i left u : ℕ) → x + i ≡ u + left → pos x +ℤ (pos i -ℤ pos left) ≡ pos u
step_back x i left u e = omega (arith, ints)

row_covers : (left up j a n x y u v : ℕ) → Covers (row left up j a n) x y u v → (x + a ≤ u + left) × (u + left < x + a + n) × (y + j ≡ v + up)
row_covers left up j a zero x y u v c = absurd c
row_covers left up j a (suc n) x y u v (inl e) =
    let across = column-of_step x a left u e.0 in
    (omega arith, omega arith, column-of_step y j up v e.1)
row_covers left up j a (suc n) x y u v (inr c) =
    let rest = row_covers left up j (a + 1) n x y u v c in
    (omega arith, omega arith, rest.2)

covers_row : (left up j a n x y u v : ℕ) → x + a ≤ u + left → u + left < x + a + n → y + j ≡ v + up → Covers (row left up j a n) x y u v
covers_row left up j a zero x y u v from to e = absurd (omega arith)
covers_row left up j a (suc n) x y u v from to e =
    elim (cases_eq (x + a) (u + left)) [
      | inl here ↦ inl (step_back x a left u here, step_back y j up v e)
      | inr later ↦ inr (covers_row left up j (a + 1) n x y u v (omega arith) (omega arith) e)
    ]

rows_cover : (left up m a n x y u v : ℕ) → Covers (rows left up m a n) x y u v → (x ≤ u + left) × (u + left < x + m) × (y + a ≤ v + up) × (v + up < y + a + n)
rows_cover left up m a zero x y u v c = absurd c
rows_cover left up m a (suc n) x y u v c =
    elim (covers_either (row left up a 0 m) (rows left up m (a + 1) n) x y u v c) [
      | inl this ↦ let h = row_covers left up a 0 m x y u v this in (omega arith, omega arith, omega arith, omega arith)
      | inr rest ↦ let h = rows_cover left up m (a + 1) n x y u v rest in (h.0, h.1, omega arith, omega arith)
    ]

cover_rows : (left up m a n x y u v : ℕ) → x ≤ u + left → u + left < x + m → y + a ≤ v + up → v + up < y + a + n → Covers (rows left up m a n) x y u v
cover_rows left up m a zero x y u v p q from to = absurd (omega arith)
cover_rows left up m a (suc n) x y u v p q from to =
    elim (cases_eq (y + a) (v + up)) [
      | inl here ↦ covers_left (row left up a 0 m) (rows left up m (a + 1) n) x y u v (covers_row left up a 0 m x y u v (omega arith) (omega arith) here)
      | inr later ↦ covers_right (row left up a 0 m) (rows left up m (a + 1) n) x y u v (cover_rows left up m (a + 1) n x y u v p q (omega arith) (omega arith))
    ]

-- the places that a rectangle covers
pub record IsWithin (left right up down x y u v : ℕ) : Type 0 where
  pub left_of : x ≤ u + left
  pub right_of : u ≤ x + right
  pub above : y ≤ v + up
  pub below : v ≤ y + down

pub within : (left right up down x y u v : ℕ) → Covers (rectangle left right up down) x y u v → IsWithin left right up down x y u v
within left right up down x y u v c =
    let h = rows_cover left up (left + right + 1) 0 (up + down + 1) x y u v c in
    record { left_of = h.0; right_of = omega arith; above = omega arith; below = omega arith }

pub covers_within : (left right up down x y u v : ℕ) → IsWithin left right up down x y u v → Covers (rectangle left right up down) x y u v
covers_within left right up down x y u v h =
    cover_rows left up (left + right + 1) 0 (up + down + 1) x y u v h.left_of (omega (arith, h.right_of)) (omega (arith, h.above)) (omega (arith, h.below))

-- A way to a place that n + 1 steps reach goes over a place of the frame that one step reaches.
midway : (n left right x u w : ℕ) → x < w → u < w → x ≤ u + suc n * left → u ≤ x + suc n * right
    → (t : ℕ) × (t < w) × (x ≤ t + left) × (t ≤ x + right) × (t ≤ u + n * left) × (u ≤ t + n * right)
midway n left right x u w p q lower upper =
    elim (cases_lt (u + left) x) [
      | inl far ↦ (x - left, omega arith, omega arith, omega arith, omega arith, omega arith)
      | inr near ↦ elim (cases_lt (x + right) u) [
        | inl far ↦ (x + right, omega arith, omega arith, omega arith, omega arith, omega arith)
        | inr near_too ↦ (u, q, near, near_too, omega arith, omega arith)
      ]
    ]

-- the rectangle multiplied
abbrev multiplied : ℕ → ℕ → ℕ → ℕ → ℕ → List Offset
multiplied n left right up down = rectangle (n * left) (n * right) (n * up) (n * down)

-- one step and then n steps reach what n + 1 steps reach
IsWithin-onward : (n left right up down x y s t u v : ℕ) → IsWithin left right up down x y s t → IsWithin (n * left) (n * right) (n * up) (n * down) s t u v
    → IsWithin (suc n * left) (suc n * right) (suc n * up) (suc n * down) x y u v
IsWithin-onward n left right up down x y s t u v first rest = record {
  left_of = omega (arith, first.left_of, rest.left_of);
  right_of = omega (arith, first.right_of, rest.right_of);
  above = omega (arith, first.above, rest.above);
  below = omega (arith, first.below, rest.below);
}

-- n steps and one more
multiplied_composed : (left right up down n width height : ℕ) → AreComposed (rectangle left right up down) (multiplied n left right up down) (multiplied (suc n) left right up down) width height
multiplied_composed left right up down n width height = record {
  within = λ x y s t u v first second.
      covers_within (suc n * left) (suc n * right) (suc n * up) (suc n * down) x y u v
      (IsWithin-onward n left right up down x y s t u v (within left right up down x y s t first) (within (n * left) (n * right) (n * up) (n * down) s t u v second));
  whole = λ x y u v p q p' q' covers.
      let far = within (suc n * left) (suc n * right) (suc n * up) (suc n * down) x y u v covers in
      let across = midway n left right x u width p p' far.left_of far.right_of in
      let along = midway n up down y v height q q' far.above far.below in
      record {
        s = across.0;
        t = along.0;
        across = across.1;
        down = along.1;
        first = covers_within left right up down x y across.0 along.0 (record { left_of = across.2; right_of = across.3; above = along.2; below = along.3 });
        second = covers_within (n * left) (n * right) (n * up) (n * down) across.0 along.0 u v (record { left_of = across.4; right_of = across.5; above = along.4; below = along.5 });
      };
}

-- a column of rows
separated : (left right up down width height : ℕ) → AreComposed (rectangle 0 0 up down) (rectangle left right 0 0) (rectangle left right up down) width height
separated left right up down width height = record {
  within = λ x y s t u v first second.
      let h = within 0 0 up down x y s t first in
      let k = within left right 0 0 s t u v second in
      covers_within left right up down x y u v
      (record { left_of = omega (arith, h.left_of, h.right_of, k.left_of); right_of = omega (arith, h.left_of, h.right_of, k.right_of); above = omega (arith, k.above, k.below, h.above); below = omega (arith, k.above, k.below, h.below) });
  whole = λ x y u v p q p' q' covers.
      let h = within left right up down x y u v covers in
      record {
        s = x;
        t = v;
        across = p;
        down = q';
        first = covers_within 0 0 up down x y x v (record { left_of = omega arith; right_of = omega arith; above = h.above; below = h.below });
        second = covers_within left right 0 0 x v u v (record { left_of = h.left_of; right_of = h.right_of; above = omega arith; below = omega arith });
      };
}

pub erosion-rows_columns : (left right up down : ℕ) (f : Picture) → erosion (rectangle 0 0 up down) (erosion (rectangle left right 0 0) f) ≡ erosion (rectangle left right up down) f
erosion-rows_columns left right up down f =
    erosion-erosion (rectangle 0 0 up down) (rectangle left right 0 0) (rectangle left right up down) f (separated left right up down f.width f.height)

pub dilation-rows_columns : (left right up down : ℕ) (f : Picture) → dilation (rectangle 0 0 up down) (dilation (rectangle left right 0 0) f) ≡ dilation (rectangle left right up down) f
dilation-rows_columns left right up down f =
    dilation-dilation (rectangle 0 0 up down) (rectangle left right 0 0) (rectangle left right up down) f (separated left right up down f.width f.height)

-- the reflected rectangle reaches to the other sides
pub reflected_rectangle : (left right up down : ℕ) → CoverSame (reflected (rectangle left right up down)) (rectangle right left down up)
reflected_rectangle left right up down = record {
  to = λ x y u v covers.
      let h = within left right up down u v x y (turned_back (rectangle left right up down) x y u v covers) in
      covers_within right left down up x y u v (record { left_of = h.right_of; right_of = h.left_of; above = h.below; below = h.above });
  from = λ x y u v covers.
      let h = within right left down up x y u v covers in
      reflected-IsTurned (rectangle left right up down) u v x y (covers_within left right up down u v x y (record { left_of = h.right_of; right_of = h.left_of; above = h.below; below = h.above }));
}

-- the rectangle of one place covers that place
covers_itself : (left right up down x y : ℕ) → Covers (multiplied 0 left right up down) x y x y
covers_itself left right up down x y =
    covers_within (0 * left) (0 * right) (0 * up) (0 * down) x y x y (record { left_of = omega arith; right_of = omega arith; above = omega arith; below = omega arith })

-- and no other
covers_alone : (left right up down x y u v : ℕ) → Covers (multiplied 0 left right up down) x y u v → (u ≡ x) × (v ≡ y)
covers_alone left right up down x y u v c =
    let h = within (0 * left) (0 * right) (0 * up) (0 * down) x y u v c in
    (omega (arith, h.left_of, h.right_of), omega (arith, h.above, h.below))

no_erosion : (left right up down : ℕ) (f : Picture) → IsPicture f → f ≡ erosion (multiplied 0 left right up down) f
no_erosion left right up down f picture =
    let b = multiplied 0 left right up down in
    same_picture f (erosion b f) (shape_sym (redrawn_shape f (λ x y. least f.maxval (under f b x y)))) picture.size (length-rows (λ x y. least f.maxval (under f b x y)) f.width 0 f.height)
    (λ x y p q.
    let upper = least_below f b f.maxval x y x y p q (covers_itself left right up down x y) in
    let lower : sample f x y ≤ least f.maxval (under f b x y) = below_least f b f.maxval x y (sample f x y) (sample_bounded f picture x y p q)
    (λ u v p' q' c. let e = covers_alone left right up down x y u v c in rw (e.0, e.1) (omega arith)) in
    le_antisymm lower upper ∙ sym (sample-erosion b f x y p q))

no_dilation : (left right up down : ℕ) (f : Picture) → IsPicture f → f ≡ dilation (multiplied 0 left right up down) f
no_dilation left right up down f picture =
    let b = multiplied 0 left right up down in
    same_picture f (dilation b f) (shape_sym (redrawn_shape f (λ x y. greatest (under f b x y)))) picture.size (length-rows (λ x y. greatest (under f b x y)) f.width 0 f.height)
    (λ x y p q.
    let lower = below_greatest f b x y x y p q (covers_itself left right up down x y) in
    let upper : greatest (under f b x y) ≤ sample f x y = greatest_below f b x y (sample f x y)
    (λ u v p' q' c. let e = covers_alone left right up down x y u v c in rw (e.0, e.1) (omega arith)) in
    le_antisymm lower upper ∙ sym (sample-dilation b f x y p q))

pub times-erosion_box : (left right up down n : ℕ) (f : Picture) → IsPicture f → times n (erosion (rectangle left right up down)) f ≡ erosion (rectangle (n * left) (n * right) (n * up) (n * down)) f
times-erosion_box left right up down zero f picture = no_erosion left right up down f picture
times-erosion_box left right up down (suc n) f picture =
    ap (erosion (rectangle left right up down)) (times-erosion_box left right up down n f picture) ∙ erosion-erosion (rectangle left right up down) (multiplied n left right up down) (multiplied (suc n) left right up down) f (multiplied_composed left right up down n f.width f.height)

pub times-dilation_box : (left right up down n : ℕ) (f : Picture) → IsPicture f → times n (dilation (rectangle left right up down)) f ≡ dilation (rectangle (n * left) (n * right) (n * up) (n * down)) f
times-dilation_box left right up down zero f picture = no_dilation left right up down f picture
times-dilation_box left right up down (suc n) f picture =
    ap (dilation (rectangle left right up down)) (times-dilation_box left right up down n f picture) ∙ dilation-dilation (rectangle left right up down) (multiplied n left right up down) (multiplied (suc n) left right up down) f (multiplied_composed left right up down n f.width f.height)

pub times-reflected_box : (left right up down n : ℕ) (f : Picture) → IsPicture f → times n (dilation (reflected (rectangle left right up down))) f ≡ dilation (rectangle (n * right) (n * left) (n * down) (n * up)) f
times-reflected_box left right up down n f picture = each n ∙ times-dilation_box right left down up n f picture
  where
    each : (n : ℕ) → times n (dilation (reflected (rectangle left right up down))) f ≡ times n (dilation (rectangle right left down up)) f
    each zero = refl
    each (suc n) =
        dilation_same (reflected (rectangle left right up down)) (rectangle right left down up) (times n (dilation (reflected (rectangle left right up down))) f) (reflected_rectangle left right up down)
        ∙ ap (dilation (rectangle right left down up)) (each n)
