-- Lists of offsets: sameness, reach and boxes.
use Rattle.std.proofs.Common.{◌≡◌, ℕ, ◌+◌, ◌<◌, ◌≤◌, false, List, [], ◌∷◌, ◌++◌, length, take, map, max, ℤ, pos, negsuc, refl, sym, ap, subst, ◌∙◌, arith, get_or}
use Rattle.std.specs.Prelude.{neg_ℤ, ◌+ℤ◌, ◌≤ℤ◌, ◌≢◌}
use Rattle.std.proofs.lemmas.Bool.{true≢false, false_from_ne_true}
use Rattle.std.proofs.lemmas.List.{take_all, take_more, map-append}
use Rattle.std.specs.Bool.{Decides}
use Rattle.std.specs.Cmp.{IsEquivalence, decided}
use Rattle.std.specs.Ordering.{int_eq}
use Rattle.std.specs.List.{AllByRecursion, IsDistinct}
use Rattle.std.proofs.lemmas.Bool.Decides.{Decides-and, Decides-int_eq, Decides-like}
use Rattle.std.proofs.lemmas.Int.{ints}
use Rattle.mw_model.proofs.mw_facts.Alls.{all-weaker, all-push}
use Rattle.mw_model.specs.declared.offsets.Offset.{Offset}
use Rattle.mw_model.specs.declared.offsets.OffsetBox.{OffsetBox}
use Rattle.mw_model.specs.declared.offsets.Reach.{Reach}
use Rattle.mw_model.specs.Elements.{IsFigure, IsNear, reach_of, same_offset}
use Rattle.mw_model.specs.Rectangles.{nonnegative, WithinReach}
use Rattle.mw_element.specs.Figures.{InBox, LiesIn, figure, reach_grown, turned}
use Rattle.mw_model.specs.Flat.{greatest, reflected}
use Rattle.mw_model.proofs.Covers.{offset-same}

-- ---- sameness

pub same_decides : (a b : Offset) → Decides (same_offset a b) (a ≡ b)
same_decides a b =
    Decides-like (same_offset a b) (λ e. offset-same a.dx a.dy b.dx b.dy e.0 e.1) (λ e. (ap (λ (o : Offset). o.dx) e, ap (λ (o : Offset). o.dy) e))
    (Decides-and (int_eq a.dx b.dx) (int_eq a.dy b.dy) (Decides-int_eq a.dx b.dx) (Decides-int_eq a.dy b.dy))

pub same_equiv : IsEquivalence same_offset
same_equiv = decided same_offset same_decides

-- ---- turned round

neg_near : (z : ℤ) → negsuc 253 ≤ℤ z → z ≤ℤ pos 254 → (negsuc 253 ≤ℤ neg_ℤ z) × (neg_ℤ z ≤ℤ pos 254)
neg_near z low high = (omega (arith, ints, low, high), omega (arith, ints, low, high))

turned_near : (b : Offset) → IsNear b → IsNear (turned b)
turned_near b n =
    let x = neg_near b.dx n.left n.right in
    let y = neg_near b.dy n.top n.bottom in
    record { left = x.0; right = x.1; top = y.0; bottom = y.1 }

pub reflected_near : (xs : List Offset) → AllByRecursion IsNear xs → AllByRecursion IsNear (reflected xs)
reflected_near [] n = tt
reflected_near (x ∷ xs) n = (turned_near x n.0, reflected_near xs n.1)

neg_same : (x y : ℤ) → neg_ℤ x ≡ neg_ℤ y → x ≡ y
neg_same x y e = omega (arith, ints, e)

pub not_same : (a b : Offset) → (a ≡ b → ⊥) → same_offset a b ≡ false
not_same a b none = false_from_ne_true (same_offset a b) (λ e. none ((same_decides a b).0 e))

turned_apart : (a b : Offset) → same_offset a b ≡ false → same_offset (turned a) (turned b) ≡ false
turned_apart a b e =
    not_same (turned a) (turned b) (λ t.
    let x = neg_same a.dx b.dx (ap (λ (o : Offset). o.dx) t) in
    let y = neg_same a.dy b.dy (ap (λ (o : Offset). o.dy) t) in
    true≢false (sym ((same_decides a b).1 (offset-same a.dx a.dy b.dx b.dy x y)) ∙ e))

reflected_apart : (a : Offset) (xs : List Offset) → AllByRecursion (λ b. same_offset a b ≡ false) xs → AllByRecursion (λ b. same_offset (turned a) b ≡ false) (reflected xs)
reflected_apart a [] h = tt
reflected_apart a (x ∷ xs) h = (turned_apart a x h.0, reflected_apart a xs h.1)

pub reflected_distinct : (xs : List Offset) → IsDistinct same_offset xs → IsDistinct same_offset (reflected xs)
unfolding IsDistinct
reflected_distinct [] h = tt
reflected_distinct (x ∷ xs) h = (reflected_apart x xs h.0, reflected_distinct xs h.1)

pub reflected_some : (xs : List Offset) → xs ≢ [] → reflected xs ≢ []
reflected_some [] some e = some refl
reflected_some (x ∷ xs) some e = cc

pub reflected_figure : (w h : ℕ) (xs : List Offset) → IsFigure (figure w h xs) → IsFigure (figure w h (reflected xs))
reflected_figure w h xs is = record { distinct = reflected_distinct xs is.distinct; some = reflected_some xs is.some; near = reflected_near xs is.near; sides = is.sides }

-- ---- reach

pub greatest_more : (xs : List ℕ) (n : ℕ) → greatest (xs ++ n ∷ []) ≡ max (greatest xs) n
greatest_more [] n = omega arith
greatest_more (x ∷ xs) n = ap (max x) (greatest_more xs n) ∙ omega arith

far_more : (f : Offset → ℕ) (xs : List Offset) (b : Offset) → greatest (map f (xs ++ b ∷ [])) ≡ max (greatest (map f xs)) (f b)
far_more f xs b = ap greatest (map-append f xs (b ∷ [])) ∙ greatest_more (map f xs) (f b)

pub reach_more : (xs : List Offset) (b : Offset) → reach_of (xs ++ b ∷ []) ≡ reach_grown (reach_of xs) b
reach_more xs b =
    rw (
      far_more (λ (o : Offset). nonnegative (neg_ℤ o.dx)) xs b,
      far_more (λ (o : Offset). nonnegative o.dx) xs b,
      far_more (λ (o : Offset). nonnegative (neg_ℤ o.dy)) xs b,
      far_more (λ (o : Offset). nonnegative o.dy) xs b,
    ) refl

steps_bound : (z : ℤ) (m : ℕ) → nonnegative z ≤ m → z ≤ℤ pos m
steps_bound (pos n) m le = omega (arith, ints, le)
steps_bound (negsuc n) m le = omega (arith, ints)

neg_bound : (z : ℤ) (m : ℕ) → nonnegative (neg_ℤ z) ≤ m → pos 0 ≤ℤ (z +ℤ pos m)
neg_bound z m le = let b = steps_bound (neg_ℤ z) m le in omega (arith, ints, b)

leads_all : (r : Reach) (xs : List Offset) → greatest (map (λ (b : Offset). nonnegative (neg_ℤ b.dx)) xs) ≤ r.left → greatest (map (λ (b : Offset). nonnegative b.dx) xs) ≤ r.right
    → greatest (map (λ (b : Offset). nonnegative (neg_ℤ b.dy)) xs) ≤ r.up → greatest (map (λ (b : Offset). nonnegative b.dy) xs) ≤ r.down → WithinReach r xs
leads_all r [] left right up down = tt
leads_all r (b ∷ xs) left right up down = (
  record {
    left = neg_bound b.dx r.left (omega (arith, left));
    right = steps_bound b.dx r.right (omega (arith, right));
    up = neg_bound b.dy r.up (omega (arith, up));
    down = steps_bound b.dy r.down (omega (arith, down));
  },
  leads_all r xs (omega (arith, left)) (omega (arith, right)) (omega (arith, up)) (omega (arith, down)),
)

pub reach_within : (xs : List Offset) → WithinReach (reach_of xs) xs
reach_within xs = leads_all (reach_of xs) xs (omega arith) (omega arith) (omega arith) (omega arith)

-- ---- boxes

pub box_more : (inner outer : OffsetBox) (b : Offset) → LiesIn inner outer → InBox inner b → InBox outer b
box_more inner outer b lies in' =
    record { left = omega (arith, ints, lies.left, in'.left); right = omega (arith, ints, lies.right, in'.right); top = omega (arith, ints, lies.top, in'.top); bottom = omega (arith, ints, lies.bottom, in'.bottom) }

pub all_boxed : (inner outer : OffsetBox) (xs : List Offset) (b : Offset) → LiesIn inner outer → InBox outer b → AllByRecursion (λ o. InBox inner o) xs → AllByRecursion (λ o. InBox outer o) (xs ++ b ∷ [])
all_boxed inner outer xs b lies last all =
    all-push (λ o. InBox outer o) xs b (all-weaker (λ o. InBox inner o) (λ o. InBox outer o) xs (λ o in'. box_more inner outer o lies in') all) last

pub near_box : (xs : List Offset) → AllByRecursion IsNear xs → AllByRecursion (λ o. InBox (record { x0 = negsuc 253; x1 = pos 254; y0 = negsuc 253; y1 = pos 254 }) o) xs
near_box xs near =
    all-weaker IsNear (λ o. InBox (record { x0 = negsuc 253; x1 = pos 254; y0 = negsuc 253; y1 = pos 254 }) o) xs (λ o n. record { left = n.left; right = n.right; top = n.top; bottom = n.bottom }) near

pub boxed_below : (box : OffsetBox) (xs : List Offset) → 0 < length xs → AllByRecursion (λ o. InBox box o) xs → (box.x0 ≤ℤ box.x1) × (box.y0 ≤ℤ box.y1)
boxed_below box [] some all = absurd (omega (arith, some))
boxed_below box (x ∷ xs) some all = (omega (arith, ints, all.0.left, all.0.right), omega (arith, ints, all.0.top, all.0.bottom))

-- ---- steps of loops

pub reach_step : (xs : List Offset) (i : ℕ) (d : Offset) (old new : Reach) → i < length xs → old ≡ reach_of (take i xs) → new ≡ reach_grown old (get_or xs i d) → new ≡ reach_of (take (i + 1) xs)
reach_step xs i d old new lt so_far e =
    e ∙ ap (λ (r : Reach). reach_grown r (get_or xs i d)) so_far ∙ sym (reach_more (take i xs) (get_or xs i d)) ∙ ap reach_of (sym (take_more xs i d lt))

pub reach_end : (xs : List Offset) (i : ℕ) (r : Reach) → length xs ≤ i → r ≡ reach_of (take i xs) → WithinReach r xs
reach_end xs i r le e =
    let same : r ≡ reach_of xs = e ∙ ap reach_of (take_all i xs le) in
    subst (λ (k : Reach). WithinReach k xs) (sym same) (reach_within xs)

pub bounds_step : (xs : List Offset) (i : ℕ) (d : Offset) (old new : OffsetBox) → i < length xs → AllByRecursion (λ o. InBox old o) (take i xs) → LiesIn old new → InBox new (get_or xs i d) → AllByRecursion (λ o. InBox new o) (take (i + 1) xs)
bounds_step xs i d old new lt so_far lies last =
    subst (λ (ys : List Offset). AllByRecursion (λ o. InBox new o) ys) (sym (take_more xs i d lt)) (all_boxed old new (take i xs) (get_or xs i d) lies last so_far)

pub near_bounds : (bounds : OffsetBox) (xs : List Offset) → ((box : OffsetBox) → AllByRecursion (λ o. InBox box o) xs → LiesIn bounds box) → AllByRecursion IsNear xs
    → LiesIn bounds (record { x0 = negsuc 253; x1 = pos 254; y0 = negsuc 253; y1 = pos 254 })
near_bounds bounds xs least near = least (record { x0 = negsuc 253; x1 = pos 254; y0 = negsuc 253; y1 = pos 254 }) (near_box xs near)
