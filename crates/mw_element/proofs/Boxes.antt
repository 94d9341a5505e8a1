-- Full boxes: as many offsets as places, and none outside.
use Rattle.std.proofs.Common.{◌≡◌, ℕ, zero, suc, ◌*◌, ◌<◌, true, false, List, [], ◌∷◌, ◌++◌, length, get_or, ℤ, pos, refl, sym, ap, ◌∙◌, arith, inl, inr, ◌⊎◌, length-append}
use Rattle.std.specs.Prelude.{◌+ℤ◌, ◌≤ℤ◌}
use Rattle.std.specs.Ordering.{int_eq}
use Rattle.std.proofs.lemmas.Bool.Decides.{Decides-int_eq}
use Rattle.std.specs.List.{AllByRecursion, Contains, IsDistinct, list_any}
use Rattle.std.specs.Cmp.{both_ways as same_answer}
use Rattle.std.proofs.lemmas.Bool.{true≢false, cases_Bool, or_left, or_right, or_parts}
use Rattle.std.proofs.lemmas.List.{get_or_default}
use Rattle.std.proofs.lemmas.Int.{ints}
use Rattle.std.proofs.lemmas.List.Elements.{recursion_from_All}
use Rattle.std.proofs.lemmas.List.Folds.{list_any-append}
use Rattle.std.proofs.lemmas.Map.Made.{is_member-Decides, length-le_from_is_member, length-from_same_keys}
use Rattle.std.proofs.lemmas.Map.Keys.{IsDistinct-cons}
use Rattle.mw_model.proofs.mw_facts.Alls.{all-weaker, all-append, all-contains}
use Rattle.mw_model.specs.declared.offsets.Offset.{Offset}
use Rattle.mw_model.specs.declared.offsets.OffsetBox.{OffsetBox}
use Rattle.mw_model.specs.Elements.{same_offset}
use Rattle.mw_model.proofs.Covers.{offset, offset-same}
use Rattle.mw_element.specs.Figures.{FillsBox, InBox, LiesIn}
use Rattle.mw_element.proofs.Lists.{same_decides, same_equiv, not_same, box_more}

-- ---- lists of offsets that follow one another

-- in the row, not left of the column
pub record Follows (x y : ℤ) (b : Offset) : Type 0 where
  pub right : x ≤ℤ b.dx
  pub level : b.dy ≡ y

-- not above the row
abbrev pub Below : ℤ → Offset → Type 0
Below y b = y ≤ℤ b.dy

pub apart_right : (a : Offset) (x y : ℤ) (xs : List Offset) → (a.dx +ℤ pos 1) ≤ℤ x → AllByRecursion (Follows x y) xs → AllByRecursion (λ b. same_offset a b ≡ false) xs
apart_right a x y [] lt all = tt
apart_right a x y (b ∷ xs) lt all =
    (not_same a b (λ e. let dx : a.dx ≡ b.dx = ap (λ (o : Offset). o.dx) e in absurd (omega (arith, ints, lt, all.0.right, dx))), apart_right a x y xs lt all.1)

pub apart_below : (a : Offset) (y : ℤ) (xs : List Offset) → (a.dy +ℤ pos 1) ≤ℤ y → AllByRecursion (Below y) xs → AllByRecursion (λ b. same_offset a b ≡ false) xs
apart_below a y [] lt all = tt
apart_below a y (b ∷ xs) lt all =
    (not_same a b (λ e. let dy : a.dy ≡ b.dy = ap (λ (o : Offset). o.dy) e in absurd (omega (arith, ints, lt, all.0, dy))), apart_below a y xs lt all.1)

pub row_apart : (x y : ℤ) (row below : List Offset) → AllByRecursion (Follows x y) row → AllByRecursion (Below (y +ℤ pos 1)) below
    → AllByRecursion (λ a. AllByRecursion (λ b. same_offset a b ≡ false) below) row
row_apart x y [] below all rest = tt
row_apart x y (a ∷ row) below all rest =
    let level : a.dy ≡ y = all.0.level in
    (apart_below a (y +ℤ pos 1) below (omega (arith, ints, level)) rest, row_apart x y row below all.1 rest)

pub distinct_append : (xs ys : List Offset) → IsDistinct same_offset xs → IsDistinct same_offset ys → AllByRecursion (λ a. AllByRecursion (λ b. same_offset a b ≡ false) ys) xs → IsDistinct same_offset (xs ++ ys)
unfolding IsDistinct
distinct_append [] ys a b apart = b
distinct_append (x ∷ xs) ys a b apart = (all-append (λ b. same_offset x b ≡ false) xs ys a.0 apart.0, distinct_append xs ys a.1 b apart.1)

pub distinct_nil : IsDistinct same_offset []
unfolding IsDistinct
distinct_nil = tt

pub below_row : (x y : ℤ) (row : List Offset) → AllByRecursion (Follows x y) row → AllByRecursion (Below y) row
below_row x y row all = all-weaker (Follows x y) (Below y) row (λ b f. let level : b.dy ≡ y = f.level in omega (arith, ints, level)) all

pub below_more : (y z : ℤ) (xs : List Offset) → y ≤ℤ z → AllByRecursion (Below z) xs → AllByRecursion (Below y) xs
below_more y z xs le all = all-weaker (Below z) (Below y) xs (λ b low. omega (arith, ints, le, low)) all

pub follows_more : (w x y : ℤ) (xs : List Offset) → w ≤ℤ x → AllByRecursion (Follows x y) xs → AllByRecursion (Follows w y) xs
follows_more w x y xs le all = all-weaker (Follows x y) (Follows w y) xs (λ b f. record { right = omega (arith, ints, le, f.right); level = f.level }) all

-- ---- all offsets of a box

line : ℤ → ℤ → ℕ → List Offset
line x y zero = []
line x y (suc n) = offset x y ∷ line (x +ℤ pos 1) y n

grid : ℤ → ℤ → ℕ → ℕ → List Offset
grid x y w zero = []
grid x y w (suc h) = line x y w ++ grid x (y +ℤ pos 1) w h

line_length : (x y : ℤ) (n : ℕ) → length (line x y n) ≡ n
unfolding line
line_length x y zero = refl
line_length x y (suc n) = ap suc (line_length (x +ℤ pos 1) y n)

grid_length : (x y : ℤ) (w h : ℕ) → length (grid x y w h) ≡ h * w
unfolding grid
grid_length x y w zero = omega arith
grid_length x y w (suc h) = length-append (line x y w) (grid x (y +ℤ pos 1) w h) ∙ omega (arith, line_length x y w, grid_length x (y +ℤ pos 1) w h)

line_follows : (x y : ℤ) (n : ℕ) → AllByRecursion (Follows x y) (line x y n)
unfolding line
line_follows x y zero = tt
line_follows x y (suc n) = (record { right = omega (arith, ints); level = refl }, follows_more x (x +ℤ pos 1) y (line (x +ℤ pos 1) y n) (omega (arith, ints)) (line_follows (x +ℤ pos 1) y n))

grid_below : (x y : ℤ) (w h : ℕ) → AllByRecursion (Below y) (grid x y w h)
unfolding grid
grid_below x y w zero = tt
grid_below x y w (suc h) =
    all-append (Below y) (line x y w) (grid x (y +ℤ pos 1) w h) (below_row x y (line x y w) (line_follows x y w)) (below_more y (y +ℤ pos 1) (grid x (y +ℤ pos 1) w h) (omega (arith, ints)) (grid_below x (y +ℤ pos 1) w h))

line_distinct : (x y : ℤ) (n : ℕ) → IsDistinct same_offset (line x y n)
unfolding line
line_distinct x y zero = distinct_nil
line_distinct x y (suc n) =
    IsDistinct-cons same_offset (offset x y) (line (x +ℤ pos 1) y n) (apart_right (offset x y) (x +ℤ pos 1) y (line (x +ℤ pos 1) y n) (omega (arith, ints)) (line_follows (x +ℤ pos 1) y n)) (line_distinct (x +ℤ pos 1) y n)

grid_distinct : (x y : ℤ) (w h : ℕ) → IsDistinct same_offset (grid x y w h)
unfolding grid
grid_distinct x y w zero = distinct_nil
grid_distinct x y w (suc h) =
    distinct_append (line x y w) (grid x (y +ℤ pos 1) w h) (line_distinct x y w) (grid_distinct x (y +ℤ pos 1) w h) (row_apart x y (line x y w) (grid x (y +ℤ pos 1) w h) (line_follows x y w) (grid_below x (y +ℤ pos 1) w h))

int_split : (x z : ℤ) → x ≤ℤ z → (z ≡ x) ⊎ ((x +ℤ pos 1) ≤ℤ z)
int_split x z le =
    elim (cases_Bool (int_eq z x)) [
      | inl e ↦ inl ((Decides-int_eq z x).0 e)
      | inr ne ↦ let apart : z ≡ x → ⊥ = λ e. true≢false (sym ((Decides-int_eq z x).1 e) ∙ ne) in inr (omega (arith, ints, le, apart))
    ]

line_has : (q : Offset) (x y : ℤ) (n : ℕ) → q.dy ≡ y → x ≤ℤ q.dx → (q.dx +ℤ pos 1) ≤ℤ (x +ℤ pos n) → list_any (same_offset q) (line x y n) ≡ true
unfolding line
line_has q x y zero level low high = absurd (omega (arith, ints, low, high))
line_has q x y (suc n) level low high =
    elim (int_split x q.dx low) [
      | inl e ↦ or_left (same_offset q (offset x y)) (list_any (same_offset q) (line (x +ℤ pos 1) y n)) ((same_decides q (offset x y)).1 (offset-same q.dx q.dy x y e level))
      | inr lt ↦ or_right (same_offset q (offset x y)) (list_any (same_offset q) (line (x +ℤ pos 1) y n)) (line_has q (x +ℤ pos 1) y n level lt (omega (arith, ints, high)))
    ]

grid_has : (q : Offset) (x y : ℤ) (w h : ℕ) → x ≤ℤ q.dx → (q.dx +ℤ pos 1) ≤ℤ (x +ℤ pos w) → y ≤ℤ q.dy → (q.dy +ℤ pos 1) ≤ℤ (y +ℤ pos h) → list_any (same_offset q) (grid x y w h) ≡ true
unfolding grid
grid_has q x y w zero left right low high = absurd (omega (arith, ints, low, high))
grid_has q x y w (suc h) left right low high =
    list_any-append (same_offset q) (line x y w) (grid x (y +ℤ pos 1) w h)
    ∙ elim (int_split y q.dy low) [
      | inl e ↦ or_left (list_any (same_offset q) (line x y w)) (list_any (same_offset q) (grid x (y +ℤ pos 1) w h)) (line_has q x y w e left right)
      | inr lt ↦ or_right (list_any (same_offset q) (line x y w)) (list_any (same_offset q) (grid x (y +ℤ pos 1) w h)) (grid_has q x (y +ℤ pos 1) w h left right lt (omega (arith, ints, high)))
    ]

-- what the grid has lies in the box
line_in : (box : OffsetBox) (x y : ℤ) (n : ℕ) → box.x0 ≤ℤ x → (x +ℤ pos n) ≤ℤ (box.x1 +ℤ pos 1) → box.y0 ≤ℤ y → y ≤ℤ box.y1 → AllByRecursion (λ o. InBox box o) (line x y n)
unfolding line
line_in box x y zero left right top bottom = tt
line_in box x y (suc n) left right top bottom =
    (record { left = left; right = omega (arith, ints, right); top = top; bottom = bottom }, line_in box (x +ℤ pos 1) y n (omega (arith, ints, left)) (omega (arith, ints, right)) top bottom)

grid_in : (box : OffsetBox) (x y : ℤ) (w h : ℕ) → box.x0 ≤ℤ x → (x +ℤ pos w) ≤ℤ (box.x1 +ℤ pos 1) → box.y0 ≤ℤ y → (y +ℤ pos h) ≤ℤ (box.y1 +ℤ pos 1) → AllByRecursion (λ o. InBox box o) (grid x y w h)
unfolding grid
grid_in box x y w zero left right top bottom = tt
grid_in box x y w (suc h) left right top bottom =
    all-append (λ o. InBox box o) (line x y w) (grid x (y +ℤ pos 1) w h) (line_in box x y w left right top (omega (arith, ints, bottom))) (grid_in box x (y +ℤ pos 1) w h left right (omega (arith, ints, top)) (omega (arith, ints, bottom)))

-- ---- membership

has_contains : (xs : List Offset) (q : Offset) → list_any (same_offset q) xs ≡ true → Contains xs q
has_contains xs q h = (is_member-Decides same_decides xs q).0 h

contains_has : (xs : List Offset) (q : Offset) → Contains xs q → list_any (same_offset q) xs ≡ true
contains_has xs q h = (is_member-Decides same_decides xs q).1 h

-- a box with as many columns and rows
pub record Spans (box : OffsetBox) (w h : ℕ) : Type 0 where
  pub across : (box.x0 +ℤ pos w) ≡ (box.x1 +ℤ pos 1)
  pub down : (box.y0 +ℤ pos h) ≡ (box.y1 +ℤ pos 1)

abbrev places : OffsetBox → ℕ → ℕ → List Offset
places box w h = grid box.x0 box.y0 w h

in_places : (box : OffsetBox) (w h : ℕ) (q : Offset) → Spans box w h → InBox box q → list_any (same_offset q) (places box w h) ≡ true
in_places box w h q s b =
    grid_has q box.x0 box.y0 w h b.left (omega (arith, ints, s.across, b.right)) b.top (omega (arith, ints, s.down, b.bottom))

places_in : (box : OffsetBox) (w h : ℕ) (q : Offset) → Spans box w h → list_any (same_offset q) (places box w h) ≡ true → InBox box q
places_in box w h q s has =
    all-contains (λ o. InBox box o) (places box w h) q (grid_in box box.x0 box.y0 w h (omega (arith, ints)) (omega (arith, ints, s.across)) (omega (arith, ints)) (omega (arith, ints, s.down))) (has_contains (places box w h) q has)

apart_false : (q : Offset) (xs : List Offset) → list_any (same_offset q) xs ≡ false → AllByRecursion (λ b. same_offset q b ≡ false) xs
apart_false q [] e = tt
apart_false q (x ∷ xs) e = let h = or_parts (same_offset q x) (list_any (same_offset q) xs) e in (h.0, apart_false q xs h.1)

-- as many distinct offsets as places, all in the box: then each place is one of them
pub full_box : (box : OffsetBox) (w h : ℕ) (xs : List Offset) → Spans box w h → IsDistinct same_offset xs → AllByRecursion (λ o. InBox box o) xs → h * w ≡ length xs → FillsBox box xs
full_box box w h xs s distinct all count = λ q. (all-contains (λ o. InBox box o) xs q all, full q)
  where
    full : (q : Offset) → InBox box q → Contains xs q
    full q b =
        elim (cases_Bool (list_any (same_offset q) xs)) [
          | inl has ↦ has_contains xs q has
          | inr none ↦
              let le = length-le_from_is_member same_equiv (q ∷ xs) (places box w h) (IsDistinct-cons same_offset q xs (apart_false q xs none) distinct) (λ p m. in_places box w h p s (inside p m)) in
              absurd (omega (arith, le, grid_length box.x0 box.y0 w h, count))
        ]
      where
        inside : (p : Offset) → list_any (same_offset p) (q ∷ xs) ≡ true → InBox box p
        inside p m = all-contains (λ o. InBox box o) (q ∷ xs) p (b, all) (has_contains (q ∷ xs) p m)

all_filled : (box : OffsetBox) (xs : List Offset) → FillsBox box xs → AllByRecursion (λ o. InBox box o) xs
all_filled box xs fills = recursion_from_All (λ o. InBox box o) xs (λ k d lt. (fills (get_or xs k d)).0 (k, lt, get_or_default xs k (get_or xs k d) d lt))

-- a filled box has as many places as there are offsets
pub filled_count : (box bounds : OffsetBox) (w h : ℕ) (xs : List Offset) → 0 < length xs → Spans bounds w h → IsDistinct same_offset xs → AllByRecursion (λ o. InBox bounds o) xs
    → LiesIn bounds box → FillsBox box xs → h * w ≡ length xs
filled_count box bounds w h xs some s distinct all least fills =
    sym (grid_length bounds.x0 bounds.y0 w h) ∙ length-from_same_keys same_equiv (places bounds w h) xs (grid_distinct bounds.x0 bounds.y0 w h) distinct same
  where
    inside : (q : Offset) → list_any (same_offset q) (places bounds w h) ≡ true → list_any (same_offset q) xs ≡ true
    inside q has = contains_has xs q ((fills q).1 (box_more bounds box q least (places_in bounds w h q s has)))

    outside : (q : Offset) → list_any (same_offset q) xs ≡ true → list_any (same_offset q) (places bounds w h) ≡ true
    outside q has = in_places bounds w h q s (all-contains (λ o. InBox bounds o) xs q all (has_contains xs q has))

    same : (q : Offset) → list_any (same_offset q) (places bounds w h) ≡ list_any (same_offset q) xs
    same q = same_answer (list_any (same_offset q) (places bounds w h)) (list_any (same_offset q) xs) (inside q) (outside q)

pub not_filled : (bounds : OffsetBox) (w h : ℕ) (xs : List Offset) → 0 < length xs → Spans bounds w h → IsDistinct same_offset xs → AllByRecursion (λ o. InBox bounds o) xs
    → ((box : OffsetBox) → AllByRecursion (λ o. InBox box o) xs → LiesIn bounds box) → (h * w ≡ length xs → ⊥) → (box : OffsetBox) → FillsBox box xs → ⊥
not_filled bounds w h xs some s distinct all least count box fills = count (filled_count box bounds w h xs some s distinct all (least box (all_filled box xs fills)) fills)
