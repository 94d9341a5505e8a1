-- Full rectangles that hold their origin, as boxes: what is covered by a box whose bounds are multiplied.
use Rattle.std.proofs.Common.{◌≡◌, ℕ, zero, suc, ◌+◌, ◌*◌, ◌≤◌, List, [], ◌∷◌, map, ℤ, pos, negsuc, ◌+ℤ◌, ◌-ℤ◌, ◌≤ℤ◌, neg_ℤ, ap, sym, arith, ◌∙◌, refl}
use Rattle.std.specs.Prelude.{◌*ℤ◌}
use Rattle.std.specs.List.{range_with_len, flat_map}
use Rattle.std.proofs.lemmas.Int.{ints}
use Rattle.std.proofs.Math.IntN.{pos-*ℤ-pos, pos-*ℤ-negsuc}
use Rattle.mw_model.proofs.mw_facts.Alls.{flat_map-same}
use Rattle.mw_model.specs.declared.offsets.Offset.{Offset}
use Rattle.mw_model.specs.declared.offsets.OffsetBox.{OffsetBox}
use Rattle.mw_model.specs.Rectangles.{nonnegative, span, box_offsets}
use Rattle.mw_model.specs.Pictures.{Picture, IsPicture}
use Rattle.mw_model.specs.Flat.{erosion, dilation, reflected}
use Rattle.mw_model.specs.Iterates.{times, rectangle}
use Rattle.mw_model.specs.Laws.{HoldsOrigin}
use Rattle.mw_model.proofs.Covers.{reflected-IsTurned, turned_back}
use Rattle.mw_gran.specs.Boxes.{multiplied}
use Rattle.mw_plan.specs.Steps.{turned_box}
use Rattle.mw_plan.proofs.Boxes.{element_covers, element-way}
use Rattle.mw_plan.specs.mw_element.Figures.{FillsBox}
use Rattle.mw_plan.proofs.mw_model_laws.BoxLaws.{within, covers_within, times-erosion_box, times-dilation_box, reflected_rectangle}
use Rattle.mw_plan.proofs.mw_model_laws.Composed.{CoverSame, erosion_same, dilation_same}

-- ---- boxes that hold their origin

-- the bounds of the box, as distances from its origin
pub record Bounds (box : OffsetBox) (l r t d : ℕ) : Type 0 where
  pub left : box.x0 ≡ neg_ℤ (pos l)
  pub right : box.x1 ≡ pos r
  pub top : box.y0 ≡ neg_ℤ (pos t)
  pub bottom : box.y1 ≡ pos d

-- an element that fills the box covers what the rectangle covers
filled_is_rectangle : (box : OffsetBox) (b : List Offset) (l r t d : ℕ) → FillsBox box b → Bounds box l r t d → CoverSame b (rectangle l r t d)
filled_is_rectangle box b l r t d fills bounds = record {
  to = λ x y u v covers.
      let by = element-way b x y u v covers in
      let inside = (fills by.by).0 by.holds in
      covers_within l r t d x y u v (record {
        left_of = low (by.by).dx box.x0 x u l by.leads.0 bounds.left inside.left;
        right_of = high (by.by).dx box.x1 x u r by.leads.0 bounds.right inside.right;
        above = low (by.by).dy box.y0 y v t by.leads.1 bounds.top inside.top;
        below = high (by.by).dy box.y1 y v d by.leads.1 bounds.bottom inside.bottom;
      });
  from = λ x y u v covers.
      let h = within l r t d x y u v covers in
      let a : Offset = record { dx = pos u -ℤ pos x; dy = pos v -ℤ pos y } in
      element_covers b a x y u v
      ((fills a).1 (record {
        left = low_back box.x0 x u l bounds.left h.left_of;
        right = high_back box.x1 x u r bounds.right h.right_of;
        top = low_back box.y0 y v t bounds.top h.above;
        bottom = high_back box.y1 y v d bounds.bottom h.below;
      }))
      (there x u, there y v);
}
  where
    low : (z z0 : ℤ) (x u l : ℕ) → pos x +ℤ z ≡ pos u → z0 ≡ neg_ℤ (pos l) → z0 ≤ℤ z → x ≤ u + l
    low z z0 x u l e is le = omega (arith, ints)

    high : (z z1 : ℤ) (x u r : ℕ) → pos x +ℤ z ≡ pos u → z1 ≡ pos r → z ≤ℤ z1 → u ≤ x + r
    high z z1 x u r e is le = omega (arith, ints)

    low_back : (z0 : ℤ) (x u l : ℕ) → z0 ≡ neg_ℤ (pos l) → x ≤ u + l → z0 ≤ℤ (pos u -ℤ pos x)
    low_back z0 x u l is le = omega (arith, ints)

    high_back : (z1 : ℤ) (x u r : ℕ) → z1 ≡ pos r → u ≤ x + r → (pos u -ℤ pos x) ≤ℤ z1
    high_back z1 x u r is le = omega (arith, ints)

    there : (x u : ℕ) → pos x +ℤ (pos u -ℤ pos x) ≡ pos u
    there x u = omega (arith, ints)

-- the offsets of the box are those of the rectangle
span_is : (a b : ℤ) (l r : ℕ) → a ≡ neg_ℤ (pos l) → b ≡ pos r → span a b ≡ l + r + 1
span_is a b l r p q = go (b -ℤ a +ℤ pos 1) refl
  where
    go : (z : ℤ) → b -ℤ a +ℤ pos 1 ≡ z → nonnegative z ≡ l + r + 1
    go (pos n) e = omega (arith, ints)
    go (negsuc n) e = absurd (omega (arith, ints))

same_map : {X : Type 0} (f g : ℕ → X) (ns : List ℕ) → ((n : ℕ) → f n ≡ g n) → map f ns ≡ map g ns
same_map f g [] each = refl
same_map f g (n ∷ ns) each = ap (λ (t : _). t ∷ map f ns) (each n) ∙ ap (λ (t : List _). g n ∷ t) (same_map f g ns each)

box_is_rectangle : (box : OffsetBox) (l r t d : ℕ) → Bounds box l r t d → box_offsets box ≡ rectangle l r t d
box_is_rectangle box l r t d bounds =
    ap (λ (n : ℕ). flat_map (λ j. map (λ i. from_corner i j) (range_with_len 0 n)) (range_with_len 0 (span box.y0 box.y1))) (span_is box.x0 box.x1 l r bounds.left bounds.right)
    ∙ ap (λ (n : ℕ). flat_map (λ j. map (λ i. from_corner i j) (range_with_len 0 (l + r + 1))) (range_with_len 0 n)) (span_is box.y0 box.y1 t d bounds.top bounds.bottom)
    ∙ flat_map-same (λ j. map (λ i. from_corner i j) (range_with_len 0 (l + r + 1))) (λ j. map (λ i. from_origin i j) (range_with_len 0 (l + r + 1))) (range_with_len 0 (t + d + 1))
    (λ j. same_map (λ i. from_corner i j) (λ i. from_origin i j) (range_with_len 0 (l + r + 1)) (λ i. same i j))
  where
    offset : ℤ → ℤ → Offset
    offset x y = record { dx = x; dy = y }

    from_corner : ℕ → ℕ → Offset
    from_corner i j = offset (box.x0 +ℤ pos i) (box.y0 +ℤ pos j)

    from_origin : ℕ → ℕ → Offset
    from_origin i j = offset (pos i -ℤ pos l) (pos j -ℤ pos t)

    shift : (z : ℤ) (n i : ℕ) → z ≡ neg_ℤ (pos n) → z +ℤ pos i ≡ pos i -ℤ pos n
    shift z n i e = omega (arith, ints)

    same : (i j : ℕ) → from_corner i j ≡ from_origin i j
    same i j =
        ap (λ (z : ℤ). offset z (box.y0 +ℤ pos j)) (shift box.x0 l i bounds.left)
        ∙ ap (λ (z : ℤ). offset (pos i -ℤ pos l) z) (shift box.y0 t j bounds.top)

-- ---- boxes with multiplied bounds

-- a box that holds its origin has such bounds
pub record IsBounded (box : OffsetBox) : Type 0 where
  pub left : ℕ
  pub right : ℕ
  pub top : ℕ
  pub bottom : ℕ
  pub bounds : Bounds box left right top bottom

below_origin : (z : ℤ) → z ≤ℤ pos 0 → (n : ℕ) × (z ≡ neg_ℤ (pos n))
below_origin (pos n) le = (0, omega (arith, ints))
below_origin (negsuc n) le = (suc n, refl)

above_origin : (z : ℤ) → pos 0 ≤ℤ z → (n : ℕ) × (z ≡ pos n)
above_origin (pos n) le = (n, refl)
above_origin (negsuc n) le = absurd (omega (arith, ints))

FillsBox-bounded : (box : OffsetBox) (b : List Offset) → FillsBox box b → HoldsOrigin b → IsBounded box
FillsBox-bounded box b fills holds =
    let inside = (fills (record { dx = pos 0; dy = pos 0 })).0 holds in
    let left = below_origin box.x0 inside.left in
    let right = above_origin box.x1 inside.right in
    let top = below_origin box.y0 inside.top in
    let bottom = above_origin box.y1 inside.bottom in
    record { left = left.0; right = right.0; top = top.0; bottom = bottom.0; bounds = record { left = left.1; right = right.1; top = top.1; bottom = bottom.1 } }

times_neg : (n l : ℕ) → pos n *ℤ neg_ℤ (pos l) ≡ neg_ℤ (pos (n * l))
times_neg n zero = pos-*ℤ-pos n zero ∙ ap (λ (k : ℕ). pos k) (none n) ∙ ap (λ (k : ℕ). neg_ℤ (pos k)) (sym (none n))
  where
    none : (n : ℕ) → n * zero ≡ 0
    none n = omega arith
times_neg n (suc l) = pos-*ℤ-negsuc n l

multiplied_bounds : (n : ℕ) (box : OffsetBox) (l r t d : ℕ) → Bounds box l r t d → Bounds (multiplied n box) (n * l) (n * r) (n * t) (n * d)
multiplied_bounds n box l r t d bounds = record {
  left = ap (λ (z : ℤ). pos n *ℤ z) bounds.left ∙ times_neg n l;
  right = ap (λ (z : ℤ). pos n *ℤ z) bounds.right ∙ pos-*ℤ-pos n r;
  top = ap (λ (z : ℤ). pos n *ℤ z) bounds.top ∙ times_neg n t;
  bottom = ap (λ (z : ℤ). pos n *ℤ z) bounds.bottom ∙ pos-*ℤ-pos n d;
}

turned_bounds : (box : OffsetBox) (l r t d : ℕ) → Bounds box l r t d → Bounds (turned_box box) r l d t
turned_bounds box l r t d bounds = record {
  left = ap neg_ℤ bounds.right;
  right = back box.x0 l bounds.left;
  top = ap neg_ℤ bounds.bottom;
  bottom = back box.y0 t bounds.top;
}
  where
    back : (z : ℤ) (n : ℕ) → z ≡ neg_ℤ (pos n) → neg_ℤ z ≡ pos n
    back z n e = omega (arith, ints)

times_same : (first second : Picture → Picture) (n : ℕ) (f : Picture) → ((g : Picture) → first g ≡ second g) → times n first f ≡ times n second f
times_same first second zero f same = refl
times_same first second (suc n) f same = same (times n first f) ∙ ap second (times_same first second n f same)

cover_turned : (b c : List Offset) → CoverSame b c → CoverSame (reflected b) (reflected c)
cover_turned b c same = record {
  to = λ x y u v covers. reflected-IsTurned c u v x y (same.to u v x y (turned_back b x y u v covers));
  from = λ x y u v covers. reflected-IsTurned b u v x y (same.from u v x y (turned_back c x y u v covers));
}

cover_both : (a b c : List Offset) → CoverSame a b → CoverSame b c → CoverSame a c
cover_both a b c first second = record {
  to = λ x y u v covers. second.to x y u v (first.to x y u v covers);
  from = λ x y u v covers. first.from x y u v (second.from x y u v covers);
}

-- For an element that is a full rectangle and holds its origin.
module _ (box : OffsetBox) (b : List Offset) (n : ℕ) (f : Picture) (fills : FillsBox box b) (holds : HoldsOrigin b) (picture : IsPicture f) where
  -- one erosion by the multiplied box is n erosions by the element
  pub erosion-multiplied : erosion (box_offsets (multiplied n box)) f ≡ times n (erosion b) f
  erosion-multiplied =
      let at = FillsBox-bounded box b fills holds in
      let is = at.bounds in
      let same = filled_is_rectangle box b at.left at.right at.top at.bottom fills is in
      ap (λ (t : List Offset). erosion t f) (box_is_rectangle (multiplied n box) (n * at.left) (n * at.right) (n * at.top) (n * at.bottom) (multiplied_bounds n box at.left at.right at.top at.bottom is))
      ∙ sym (times-erosion_box at.left at.right at.top at.bottom n f picture)
      ∙ sym (times_same (erosion b) (erosion (rectangle at.left at.right at.top at.bottom)) n f (λ g. erosion_same b (rectangle at.left at.right at.top at.bottom) g same))

  -- and a dilation by the multiplied box is so many dilations
  pub dilation-multiplied : dilation (box_offsets (multiplied n box)) f ≡ times n (dilation b) f
  dilation-multiplied =
      let at = FillsBox-bounded box b fills holds in
      let is = at.bounds in
      let same = filled_is_rectangle box b at.left at.right at.top at.bottom fills is in
      ap (λ (t : List Offset). dilation t f) (box_is_rectangle (multiplied n box) (n * at.left) (n * at.right) (n * at.top) (n * at.bottom) (multiplied_bounds n box at.left at.right at.top at.bottom is))
      ∙ sym (times-dilation_box at.left at.right at.top at.bottom n f picture)
      ∙ sym (times_same (dilation b) (dilation (rectangle at.left at.right at.top at.bottom)) n f (λ g. dilation_same b (rectangle at.left at.right at.top at.bottom) g same))

  -- by the turned box they are those by the reflected element
  pub dilation-multiplied_turned : dilation (box_offsets (multiplied n (turned_box box))) f ≡ times n (dilation (reflected b)) f
  dilation-multiplied_turned =
      let at = FillsBox-bounded box b fills holds in
      let is = at.bounds in
      let l = at.left in
      let r = at.right in
      let t = at.top in
      let d = at.bottom in
      let same = cover_both (reflected b) (reflected (rectangle l r t d)) (rectangle r l d t) (cover_turned b (rectangle l r t d) (filled_is_rectangle box b l r t d fills is)) (reflected_rectangle l r t d) in
      ap (λ (e : List Offset). dilation e f) (box_is_rectangle (multiplied n (turned_box box)) (n * r) (n * l) (n * d) (n * t) (multiplied_bounds n (turned_box box) r l d t (turned_bounds box l r t d is)))
      ∙ sym (times-dilation_box r l d t n f picture)
      ∙ sym (times_same (dilation (reflected b)) (dilation (rectangle r l d t)) n f (λ g. dilation_same (reflected b) (rectangle r l d t) g same))
