-- The offsets of a box.
use Rattle.std.proofs.Common.{◌≡◌, ℕ, zero, suc, ◌+◌, ◌<◌, ◌≤◌, ℤ, pos, negsuc, ◌+ℤ◌, ◌-ℤ◌, ◌≤ℤ◌, neg_ℤ, List, [], ◌∷◌, map, refl, ap, subst, arith, ◌∙◌, zero-add}
use Rattle.std.specs.List.{range_with_len, flat_map, AllByRecursion}
use Rattle.std.proofs.lemmas.Int.{ints}
use Rattle.mw_model.proofs.mw_facts.Alls.{all-append, all-append_left, all-append_right, all-weaker}
use Rattle.mw_model.proofs.mw_facts.Numbers.{add_one-add}
use Rattle.mw_model.specs.declared.offsets.Offset.{Offset}
use Rattle.mw_model.specs.declared.offsets.OffsetBox.{OffsetBox}
use Rattle.mw_model.specs.Rectangles.{span, nonnegative, box_offsets}
use Rattle.mw_model.specs.declared.offsets.Reach.{Reach}
use Rattle.mw_model.specs.Flat.{greatest}
use Rattle.mw_model.specs.Elements.{reach_of}
use Rattle.mw_model.proofs.Covers.{offset}
use Rattle.mw_element.specs.Figures.{InBox}
use Rattle.mw_step_task.proofs.AllOf.{all_map}
use Rattle.mw_step_task.proofs.Bounded.{greatest_below}

all_range : (P : ℕ → Type 0) (a n : ℕ) → ((k : ℕ) → a ≤ k → k < a + n → P k) → AllByRecursion P (range_with_len a n)
all_range P a zero each = tt
all_range P a (suc n) each = (each a (omega arith) (omega arith), all_range P (a + 1) n (λ k from to. each k (omega arith) (omega arith)))

range_all : (P : ℕ → Type 0) (a n : ℕ) → AllByRecursion P (range_with_len a n) → (k : ℕ) → k < n → P (a + k)
range_all P a zero all k lt = absurd (omega arith)
range_all P a (suc n) all zero lt = subst P (none a) all.0
  where
    none : (a : ℕ) → a ≡ a + zero
    none a = omega arith
range_all P a (suc n) all (suc k) lt = subst P (add_one-add a k) (range_all P (a + 1) n all.1 k (omega arith))

all_flat : {A : Type 0} (P : A → Type 0) (row : ℕ → List A) (xs : List ℕ) → AllByRecursion (λ j. AllByRecursion P (row j)) xs → AllByRecursion P (flat_map row xs)
all_flat P row [] all = tt
all_flat P row (x ∷ xs) all = all-append P (row x) (flat_map row xs) all.0 (all_flat P row xs all.1)

flat_all : {A : Type 0} (P : A → Type 0) (row : ℕ → List A) (xs : List ℕ) → AllByRecursion P (flat_map row xs) → AllByRecursion (λ j. AllByRecursion P (row j)) xs
flat_all P row [] all = tt
flat_all P row (x ∷ xs) all = (all-append_left P (row x) (flat_map row xs) all, flat_all P row xs (all-append_right P (row x) (flat_map row xs) all))

-- the places of a side
in_span : (a b : ℤ) (i : ℕ) → i < span a b → (a +ℤ pos i) ≤ℤ b
in_span a b i lt = go (b -ℤ a +ℤ pos 1) refl lt
  where
    go : (z : ℤ) → b -ℤ a +ℤ pos 1 ≡ z → i < nonnegative z → (a +ℤ pos i) ≤ℤ b
    go (pos n) e lt = omega (arith, ints)
    go (negsuc n) e lt = absurd (omega arith)

pub record Step (a : ℤ) (d : ℤ) (n : ℕ) : Type 0 where
  pub steps : ℕ
  pub is : a +ℤ pos steps ≡ d
  pub small : steps < n

span_has : (a b d : ℤ) → a ≤ℤ d → d ≤ℤ b → Step a d (span a b)
span_has a b d low high = go (d -ℤ a) refl
  where
    large : (z : ℤ) (n : ℕ) → pos n ≤ℤ z → n ≤ nonnegative z
    large (pos m) n le = omega (arith, ints)
    large (negsuc m) n le = absurd (omega (arith, ints))

    go : (z : ℤ) → d -ℤ a ≡ z → Step a d (span a b)
    go (pos n) e =
        let le : n + 1 ≤ span a b = large (b -ℤ a +ℤ pos 1) (n + 1) (omega (arith, ints)) in
        record { steps = n; is = omega (arith, ints); small = omega arith }
    go (negsuc n) e = absurd (omega (arith, ints))

-- what holds of each offset between the bounds holds of all offsets of the box
pub box_all : (P : Offset → Type 0) (box : OffsetBox) → ((b : Offset) → InBox box b → P b) → AllByRecursion P (box_offsets box)
box_all P box each =
    let columns = span box.x0 box.x1 in
    let rows = span box.y0 box.y1 in
    all_flat P (λ j. map (λ i. offset (box.x0 +ℤ pos i) (box.y0 +ℤ pos j)) (range_with_len 0 columns)) (range_with_len 0 rows)
    (all_range (λ j. AllByRecursion P (map (λ i. offset (box.x0 +ℤ pos i) (box.y0 +ℤ pos j)) (range_with_len 0 columns))) 0 rows (λ j _ j-lt.
    (all_map P (λ i. offset (box.x0 +ℤ pos i) (box.y0 +ℤ pos j)) (range_with_len 0 columns)).1
    (all_range (λ i. P (offset (box.x0 +ℤ pos i) (box.y0 +ℤ pos j))) 0 columns (λ i _ i-lt.
    each (offset (box.x0 +ℤ pos i) (box.y0 +ℤ pos j)) (record {
      left = omega (arith, ints);
      right = in_span box.x0 box.x1 i (omega arith);
      top = omega (arith, ints);
      bottom = in_span box.y0 box.y1 j (omega arith);
    })))))

-- and what holds of all offsets of the box holds of each between the bounds
pub box_at : (P : Offset → Type 0) (box : OffsetBox) → AllByRecursion P (box_offsets box) → (b : Offset) → InBox box b → P b
box_at P box all b inside =
    let columns = span box.x0 box.x1 in
    let rows = span box.y0 box.y1 in
    let across = span_has box.x0 box.x1 b.dx inside.left inside.right in
    let down = span_has box.y0 box.y1 b.dy inside.top inside.bottom in
    let by_rows = flat_all P (λ j. map (λ i. offset (box.x0 +ℤ pos i) (box.y0 +ℤ pos j)) (range_with_len 0 columns)) (range_with_len 0 rows) all in
    let row = range_all (λ j. AllByRecursion P (map (λ i. offset (box.x0 +ℤ pos i) (box.y0 +ℤ pos j)) (range_with_len 0 columns))) 0 rows by_rows down.steps down.small in
    let one = range_all (λ i. P (offset (box.x0 +ℤ pos i) (box.y0 +ℤ pos (0 + down.steps)))) 0 columns ((all_map P (λ i. offset (box.x0 +ℤ pos i) (box.y0 +ℤ pos (0 + down.steps))) (range_with_len 0 columns)).0 row) across.steps across.small in
    let x-is : box.x0 +ℤ pos (0 + across.steps) ≡ b.dx = ap (λ (n : ℕ). box.x0 +ℤ pos n) (zero-add across.steps) ∙ across.is in
    let y-is : box.y0 +ℤ pos (0 + down.steps) ≡ b.dy = ap (λ (n : ℕ). box.y0 +ℤ pos n) (zero-add down.steps) ∙ down.is in
    subst P (ap (λ (z : ℤ). offset z (box.y0 +ℤ pos (0 + down.steps))) x-is ∙ ap (λ (z : ℤ). offset b.dx z) y-is) one

all_up_to_greatest : (ns : List ℕ) → AllByRecursion (λ n. n ≤ greatest ns) ns
all_up_to_greatest [] = tt
all_up_to_greatest (n ∷ ns) = (omega arith, all-weaker (λ k. k ≤ greatest ns) (λ k. k ≤ greatest (n ∷ ns)) ns (λ k le. omega (arith, le)) (all_up_to_greatest ns))

greatest_none : (measure : Offset → ℕ) (box : OffsetBox) → ((b : Offset) → InBox box b → ⊥) → greatest (map measure (box_offsets box)) ≡ 0
greatest_none measure box none =
    let le : greatest (map measure (box_offsets box)) ≤ 0 =
    greatest_below 0 (map measure (box_offsets box)) ((all_map (λ n. n ≤ 0) measure (box_offsets box)).1 (box_all (λ b. measure b ≤ 0) box (λ b inside. absurd (none b inside)))) in
    omega arith

greatest_at : (measure : Offset → ℕ) (box : OffsetBox) (b : Offset) → InBox box b → ((c : Offset) → InBox box c → measure c ≤ measure b) → greatest (map measure (box_offsets box)) ≡ measure b
greatest_at measure box b inside each =
    let ns = map measure (box_offsets box) in
    let le : greatest ns ≤ measure b = greatest_below (measure b) ns ((all_map (λ n. n ≤ measure b) measure (box_offsets box)).1 (box_all (λ c. measure c ≤ measure b) box each)) in
    let ge : measure b ≤ greatest ns = box_at (λ c. measure c ≤ greatest ns) box ((all_map (λ n. n ≤ greatest ns) measure (box_offsets box)).0 (all_up_to_greatest ns)) b inside in
    omega arith

steps_rise : (z w : ℤ) → z ≤ℤ w → nonnegative z ≤ nonnegative w
steps_rise (pos m) (pos n) le = omega (arith, ints)
steps_rise (pos m) (negsuc n) le = absurd (omega (arith, ints))
steps_rise (negsuc m) w le = omega arith

abbrev pub reach : ℕ → ℕ → ℕ → ℕ → Reach
reach left right up down = record { left = left; right = right; up = up; down = down }

pub same_reach : (a b c d a' b' c' d' : ℕ) → a ≡ a' → b ≡ b' → c ≡ c' → d ≡ d' → reach a b c d ≡ reach a' b' c' d'
same_reach a b c d a' b' c' d' p q r s = cc

pub reach_of_none : (box : OffsetBox) → ((b : Offset) → InBox box b → ⊥) → reach_of (box_offsets box) ≡ reach 0 0 0 0
reach_of_none box none = same_reach _ _ _ _ 0 0 0 0 (greatest_none (λ b. nonnegative (neg_ℤ b.dx)) box none) (greatest_none (λ b. nonnegative b.dx) box none) (greatest_none (λ b. nonnegative (neg_ℤ b.dy)) box none) (greatest_none (λ b. nonnegative b.dy) box none)

pub reach_of_some : (box : OffsetBox) → box.x0 ≤ℤ box.x1 → box.y0 ≤ℤ box.y1 → reach_of (box_offsets box) ≡ reach (nonnegative (neg_ℤ box.x0)) (nonnegative box.x1) (nonnegative (neg_ℤ box.y0)) (nonnegative box.y1)
reach_of_some box wide high =
    let low : InBox box (offset box.x0 box.y0) = record { left = omega (arith, ints); right = wide; top = omega (arith, ints); bottom = high } in
    let top : InBox box (offset box.x1 box.y1) = record { left = wide; right = omega (arith, ints); top = high; bottom = omega (arith, ints) } in
    same_reach _ _ _ _ (nonnegative (neg_ℤ box.x0)) (nonnegative box.x1) (nonnegative (neg_ℤ box.y0)) (nonnegative box.y1)
    (greatest_at (λ b. nonnegative (neg_ℤ b.dx)) box (offset box.x0 box.y0) low (λ c inside. let h = inside.left in steps_rise (neg_ℤ c.dx) (neg_ℤ box.x0) (omega (arith, ints))))
    (greatest_at (λ b. nonnegative b.dx) box (offset box.x1 box.y1) top (λ c inside. steps_rise c.dx box.x1 inside.right))
    (greatest_at (λ b. nonnegative (neg_ℤ b.dy)) box (offset box.x0 box.y0) low (λ c inside. let h = inside.top in steps_rise (neg_ℤ c.dy) (neg_ℤ box.y0) (omega (arith, ints))))
    (greatest_at (λ b. nonnegative b.dy) box (offset box.x1 box.y1) top (λ c inside. steps_rise c.dy box.y1 inside.bottom))
