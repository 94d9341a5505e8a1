-- Loops over the offsets of a box, row by row, from the last to the first.
use Rattle.std.proofs.Common.{◌≡◌, ℕ, suc, ◌<◌, List, [], ◌∷◌, ◌++◌, length, get_or, drop, drop-cons, pos, ◌+ℤ◌, Option, Some, None, refl, ap, sym, arith, ◌∙◌, zero-add}
use Rattle.std.specs.Prelude.{flat_map}
use Rattle.std.specs.List.{cons_option, range_with_len}
use Rattle.std.specs.Option.{option_to_list}
use Rattle.std.proofs.lemmas.List.FromFn.{get_or-map-range_with_len, get_or-range_with_len, length-map-range_with_len, length-range_with_len}
use Rattle.mw_model.specs.declared.offsets.Offset.{Offset}
use Rattle.mw_model.specs.declared.offsets.OffsetBox.{OffsetBox}
use Rattle.mw_model.specs.Flat.{under}
use Rattle.mw_model.specs.Pictures.{Picture, sample_at}
use Rattle.mw_model.specs.Rectangles.{span}
use Rattle.mw_plan.specs.declared.extremum.ExtremumKind.{ExtremumKind}
use Rattle.mw_plan.specs.declared.extremum.ExtremumKind.TheVariants.{Least, Greatest}
use Rattle.mw_c_places.specs.Boxes.{extreme, row_offsets}
use Rattle.mw_c_places.proofs.UnderOffsets.{under_from}

-- ---- lists

none_left : {A : Type 0} (xs : List A) → drop (length xs) xs ≡ []
none_left [] = refl
none_left (x ∷ xs) = none_left xs

seen_before : (o : Option ℕ) (all ms ns : List ℕ) → all ≡ ms ++ ns → cons_option o all ≡ cons_option o ms ++ ns
seen_before None all ms ns is = is
seen_before (Some n) all ms ns is = ap (λ (xs : List ℕ). n ∷ xs) is

under_append : (f : Picture) (cs bs : List Offset) (x y : ℕ) → under f (cs ++ bs) x y ≡ under f cs x y ++ under f bs x y
under_append f [] bs x y = refl
under_append f (c ∷ cs) bs x y = seen_before (sample_at f (pos x +ℤ c.dx) (pos y +ℤ c.dy)) (under f (cs ++ bs) x y) (under f cs x y) (under f bs x y) (under_append f cs bs x y)

as_list : (o : Option ℕ) (ns : List ℕ) → cons_option o ns ≡ option_to_list o ++ ns
as_list None ns = refl
as_list (Some n) ns = refl

extreme_append : (x : ExtremumKind) (n : ℕ) (ms ns : List ℕ) → extreme x n (ms ++ ns) ≡ extreme x (extreme x n ns) ms
extreme_append Least n [] ns = refl
extreme_append Least n (m ∷ ms) ns = omega (arith, extreme_append Least n ms ns)
extreme_append Greatest n [] ns = omega arith
extreme_append Greatest n (m ∷ ms) ns = omega (arith, extreme_append Greatest n ms ns)

-- ---- a row

pub row_begins : (x : ExtremumKind) (f : Picture) (box : OffsetBox) (j count u v start : ℕ) → count ≡ span box.x0 box.x1 → start ≡ extreme x start (under_from f (row_offsets box j) count u v)
row_begins x f box j count u v start is =
    none x start
    ∙ sym (ap (λ (bs : List Offset). extreme x start (under f bs u v)) (ap (λ (n : ℕ). drop n (row_offsets box j)) (is ∙ sym (length-map-range_with_len (λ i. record { dx = box.x0 +ℤ pos i; dy = box.y0 +ℤ pos j }) 0 (span box.x0 box.x1))) ∙ none_left (row_offsets box j)))
  where
    none : (y : ExtremumKind) (n : ℕ) → n ≡ extreme y n []
    none Least n = refl
    none Greatest n = omega arith

pub more_in_row : (x : ExtremumKind) (f : Picture) (box : OffsetBox) (j k i u v start best new : ℕ) (seen : Option ℕ) → k ≡ suc i → i < span box.x0 box.x1
    → seen ≡ sample_at f (pos u +ℤ (box.x0 +ℤ pos i)) (pos v +ℤ (box.y0 +ℤ pos j)) → best ≡ extreme x start (under_from f (row_offsets box j) k u v)
    → new ≡ extreme x best (option_to_list seen) → new ≡ extreme x start (under_from f (row_offsets box j) i u v)
more_in_row x f box j k i u v start best new seen next lt is so_far step =
    let bs = row_offsets box j in
    let at : ℕ → Offset = λ n. record { dx = box.x0 +ℤ pos n; dy = box.y0 +ℤ pos j } in
    let count = span box.x0 box.x1 in
    let within : i < length bs = omega (arith, lt, length-map-range_with_len at 0 count) in
    let one : get_or bs i (at i) ≡ at i = get_or-map-range_with_len at 0 count i i (at i) lt (zero-add i) in
    let rest = under_from f bs (suc i) u v in
    step
    ∙ ap (λ (n : ℕ). extreme x n (option_to_list seen)) (so_far ∙ ap (λ (n : ℕ). extreme x start (under_from f bs n u v)) next)
    ∙ sym (extreme_append x start (option_to_list seen) rest)
    ∙ ap (extreme x start) (sym (as_list seen rest) ∙ ap (λ (o : Option ℕ). cons_option o rest) is)
    ∙ ap (λ (c : Offset). extreme x start (under f (c ∷ drop (suc i) bs) u v)) (sym one)
    ∙ ap (λ (cs : List Offset). extreme x start (under f cs u v)) (sym (drop-cons bs i (at i) within))

-- ---- rows

-- what is seen under the rows of a box from one on
abbrev pub under_rows_from : Picture → OffsetBox → ℕ → ℕ → ℕ → List ℕ
under_rows_from f box k u v = under f (flat_map (row_offsets box) (drop k (range_with_len 0 (span box.y0 box.y1)))) u v

pub rows_begin : (x : ExtremumKind) (f : Picture) (box : OffsetBox) (count u v start : ℕ) → count ≡ span box.y0 box.y1 → start ≡ extreme x start (under_rows_from f box count u v)
rows_begin x f box count u v start is =
    none x start
    ∙ sym (ap (λ (js : List ℕ). extreme x start (under f (flat_map (row_offsets box) js) u v)) (ap (λ (n : ℕ). drop n (range_with_len 0 (span box.y0 box.y1))) (is ∙ sym (length-range_with_len 0 (span box.y0 box.y1))) ∙ none_left (range_with_len 0 (span box.y0 box.y1))))
  where
    none : (y : ExtremumKind) (n : ℕ) → n ≡ extreme y n []
    none Least n = refl
    none Greatest n = omega arith

pub more_rows : (x : ExtremumKind) (f : Picture) (box : OffsetBox) (k i u v start best new : ℕ) → k ≡ suc i → i < span box.y0 box.y1
    → best ≡ extreme x start (under_rows_from f box k u v) → new ≡ extreme x best (under f (row_offsets box i) u v) → new ≡ extreme x start (under_rows_from f box i u v)
more_rows x f box k i u v start best new next lt so_far step =
    let js = range_with_len 0 (span box.y0 box.y1) in
    let count = span box.y0 box.y1 in
    let within : i < length js = omega (arith, lt, length-range_with_len 0 count) in
    let one : get_or js i 0 ≡ i = get_or-range_with_len 0 count i 0 lt ∙ zero-add i in
    let rest = flat_map (row_offsets box) (drop (suc i) js) in
    step
    ∙ ap (λ (n : ℕ). extreme x n (under f (row_offsets box i) u v)) (so_far ∙ ap (λ (n : ℕ). extreme x start (under_rows_from f box n u v)) next)
    ∙ sym (extreme_append x start (under f (row_offsets box i) u v) (under f rest u v))
    ∙ ap (extreme x start) (sym (under_append f (row_offsets box i) rest u v))
    ∙ ap (λ (n : ℕ). extreme x start (under f (row_offsets box n ++ rest) u v)) (sym one)
    ∙ ap (λ (ns : List ℕ). extreme x start (under f (flat_map (row_offsets box) ns) u v)) (sym (drop-cons js i 0 within))
