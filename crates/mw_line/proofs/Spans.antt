-- What is seen under the offsets of a box.
use Rattle.std.proofs.Common.{◌≡◌, ◌⊎◌, ℕ, suc, ◌+◌, ◌-◌, ◌<◌, ◌≤◌, ℤ, pos, ◌+ℤ◌, List, [], ◌∷◌, ◌++◌, None, map, fold, refl, ap, arith, ◌∙◌, inl, inr}
use Rattle.std.specs.List.{range_with_len, flat_map}
use Rattle.std.proofs.lemmas.Grind.{flat_map-append}
use Rattle.std.proofs.lemmas.List.Folds.{flat_map-map}
use Rattle.mw_model.proofs.mw_facts.Alls.{flat_map-same}
use Rattle.mw_model.specs.declared.offsets.Offset.{Offset}
use Rattle.mw_model.specs.declared.offsets.OffsetBox.{OffsetBox}
use Rattle.mw_model.specs.Rectangles.{span, box_offsets}
use Rattle.mw_model.specs.Rasters.{Sight, seen_under}
use Rattle.mw_lane.specs.Shifted.{merge_at}
use Rattle.mw_line.specs.Extrema.{over}
use Rattle.mw_line.proofs.Folds.{IsExtremum}
use Rattle.mw_line.proofs.Over.{those, over_same, over_shift, fold_flat, fold_those, filter_map-flat, all_empty, rows-kept}

flat_map-flat_map : {A B C : Type 0} (h : B → List C) (row : A → List B) (xs : List A) → flat_map h (flat_map row xs) ≡ flat_map (λ x. flat_map h (row x)) xs
flat_map-flat_map h row [] = refl
flat_map-flat_map h row (x ∷ xs) = flat_map-append h (row x) (flat_map row xs) ∙ ap (λ (t : List _). flat_map h (row x) ++ t) (flat_map-flat_map h row xs)

-- one row of a box, and the rows of a box
abbrev pub row_of : {A : Type 0} → Sight A → OffsetBox → ℕ → ℕ → ℕ → List A
row_of sight box x y j = flat_map (λ i. those (sight (pos x +ℤ (box.x0 +ℤ pos i)) (pos y +ℤ (box.y0 +ℤ pos j)))) (range_with_len 0 (span box.x0 box.x1))

pub seen_boxed : {A : Type 0} (sight : Sight A) (box : OffsetBox) (x y : ℕ) → seen_under sight (box_offsets box) x y ≡ flat_map (row_of sight box x y) (range_with_len 0 (span box.y0 box.y1))
seen_boxed sight box x y =
    let look = λ (b : Offset). those (sight (pos x +ℤ b.dx) (pos y +ℤ b.dy)) in
    let place = λ (j i : ℕ). let b : Offset = record { dx = box.x0 +ℤ pos i; dy = box.y0 +ℤ pos j } in b in
    let across = range_with_len 0 (span box.x0 box.x1) in
    let down = range_with_len 0 (span box.y0 box.y1) in
    filter_map-flat (λ (b : Offset). sight (pos x +ℤ b.dx) (pos y +ℤ b.dy)) (box_offsets box)
    ∙ flat_map-flat_map look (λ (j : ℕ). map (place j) across) down
    ∙ flat_map-same (λ (j : ℕ). flat_map look (map (place j) across)) (row_of sight box x y) down (λ j. flat_map-map look (place j) across)

-- a place of a range of m places, of which k from a on may count
abbrev pub Outside : ℕ → ℕ → ℕ → ℕ → Type 0
Outside a k m i = ((i < a) ⊎ (a + k ≤ i)) × (i < m)

pub seen_part : {A : Type 0} (f : A → A → A) → IsExtremum f → (n : A) (sight : Sight A) (box : OffsetBox) (x y a k c l : ℕ) → 0 < k → 0 < l → a + k ≤ span box.x0 box.x1 → c + l ≤ span box.y0 box.y1
    → ((i : ℕ) (row : ℤ) → Outside a k (span box.x0 box.x1) i → sight (pos x +ℤ (box.x0 +ℤ pos i)) row ≡ None)
    → ((j : ℕ) (column : ℤ) → Outside c l (span box.y0 box.y1) j → sight column (pos y +ℤ (box.y0 +ℤ pos j)) ≡ None)
    → fold f n (seen_under sight (box_offsets box) x y) ≡ over f (λ j. over f (λ i. merge_at f n (sight (pos x +ℤ (box.x0 +ℤ pos (a + i))) (pos y +ℤ (box.y0 +ℤ pos (c + j))))) 0 (k - 1)) 0 (l - 1)
seen_part f laws n sight box x y a k c l some_k some_l le_k le_l outside_x outside_y =
    let across = span box.x0 box.x1 in
    let down = span box.y0 box.y1 in
    let cell = λ (j i : ℕ). those (sight (pos x +ℤ (box.x0 +ℤ pos i)) (pos y +ℤ (box.y0 +ℤ pos j))) in
    let empty_row : (j : ℕ) → Outside c l down j → row_of sight box x y j ≡ [] = λ j out. all_empty (cell j) 0 across (λ i from to. ap those (outside_y j (pos x +ℤ (box.x0 +ℤ pos i)) out)) in
    let one_row : (j : ℕ) → fold f n (row_of sight box x y j) ≡ over f (λ i. merge_at f n (sight (pos x +ℤ (box.x0 +ℤ pos (a + i))) (pos y +ℤ (box.y0 +ℤ pos j)))) 0 (k - 1) = λ j.
    ap (fold f n) (rows-kept (cell j) 0 across a k le_k
    (λ i from to. ap those (outside_x i (pos y +ℤ (box.y0 +ℤ pos j)) (inl (before i a to), front i a across k to le_k)))
    (λ i from to. ap those (outside_x i (pos y +ℤ (box.y0 +ℤ pos j)) (inr (behind i a k from), before i across to))))
    ∙ ap (λ (t : ℕ). fold f n (flat_map (cell j) (range_with_len (0 + a) t))) (whole k some_k)
    ∙ fold_flat f laws n (cell j) (0 + a) (k - 1)
    ∙ over_same f (λ i. fold f n (cell j i)) (λ i. merge_at f n (sight (pos x +ℤ (box.x0 +ℤ pos i)) (pos y +ℤ (box.y0 +ℤ pos j)))) (0 + a) (k - 1) (λ i from to. fold_those f n (sight (pos x +ℤ (box.x0 +ℤ pos i)) (pos y +ℤ (box.y0 +ℤ pos j))))
    ∙ over_shift f (λ i. merge_at f n (sight (pos x +ℤ (box.x0 +ℤ pos i)) (pos y +ℤ (box.y0 +ℤ pos j)))) a 0 (0 + a) (k - 1) (turn a) in
    ap (fold f n) (seen_boxed sight box x y)
    ∙ ap (fold f n) (rows-kept (row_of sight box x y) 0 down c l le_l
    (λ j from to. empty_row j (inl (before j c to), front j c down l to le_l))
    (λ j from to. empty_row j (inr (behind j c l from), before j down to)))
    ∙ ap (λ (t : ℕ). fold f n (flat_map (row_of sight box x y) (range_with_len (0 + c) t))) (whole l some_l)
    ∙ fold_flat f laws n (row_of sight box x y) (0 + c) (l - 1)
    ∙ over_shift f (λ j. fold f n (row_of sight box x y j)) c 0 (0 + c) (l - 1) (turn c)
    ∙ over_same f (λ j. fold f n (row_of sight box x y (c + j))) (λ j. over f (λ i. merge_at f n (sight (pos x +ℤ (box.x0 +ℤ pos (a + i))) (pos y +ℤ (box.y0 +ℤ pos (c + j))))) 0 (k - 1)) 0 (l - 1) (λ j from to. one_row (c + j))
  where
    before : (i a : ℕ) → i < 0 + a → i < a
    before i a lt = omega arith

    front : (i a m k : ℕ) → i < 0 + a → a + k ≤ m → i < m
    front i a m k lt le = omega arith

    behind : (i a k : ℕ) → 0 + a + k ≤ i → a + k ≤ i
    behind i a k le = omega arith

    whole : (k : ℕ) → 0 < k → k ≡ suc (k - 1)
    whole k some = omega arith

    turn : (a : ℕ) → 0 + a ≡ a + 0
    turn a = omega arith

-- nothing is seen where a whole side is outside
pub nothing_across : {A : Type 0} (sight : Sight A) (box : OffsetBox) (x y : ℕ) → ((i : ℕ) (row : ℤ) → i < span box.x0 box.x1 → sight (pos x +ℤ (box.x0 +ℤ pos i)) row ≡ None) → seen_under sight (box_offsets box) x y ≡ []
nothing_across sight box x y outside =
    seen_boxed sight box x y
    ∙ all_empty (row_of sight box x y) 0 (span box.y0 box.y1) (λ j from to.
    all_empty (λ (i : ℕ). those (sight (pos x +ℤ (box.x0 +ℤ pos i)) (pos y +ℤ (box.y0 +ℤ pos j)))) 0 (span box.x0 box.x1) (λ i after before. ap those (outside i (pos y +ℤ (box.y0 +ℤ pos j)) (omega arith))))

pub nothing_down : {A : Type 0} (sight : Sight A) (box : OffsetBox) (x y : ℕ) → ((j : ℕ) (column : ℤ) → j < span box.y0 box.y1 → sight column (pos y +ℤ (box.y0 +ℤ pos j)) ≡ None) → seen_under sight (box_offsets box) x y ≡ []
nothing_down sight box x y outside =
    seen_boxed sight box x y
    ∙ all_empty (row_of sight box x y) 0 (span box.y0 box.y1) (λ j from to.
    all_empty (λ (i : ℕ). those (sight (pos x +ℤ (box.x0 +ℤ pos i)) (pos y +ℤ (box.y0 +ℤ pos j)))) 0 (span box.x0 box.x1) (λ i after before. ap those (outside j (pos x +ℤ (box.x0 +ℤ pos i)) (omega arith))))
