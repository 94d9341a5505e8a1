-- Offsets by rows: those of a bitmap, those of a reflected element, and the pass over two lists.
use Rattle.std.proofs.Common.{◌≡◌, ℕ, zero, suc, ◌+◌, ◌*◌, ◌≤◌, ℤ, Bool, true, false, not, cond, eqb, ◌||◌, List, [], ◌∷◌, ◌++◌, reverse, refl, sym, ap, subst, ◌∙◌, arith}
use Rattle.std.specs.Prelude.{◌<ℤ◌, ◌≤ℤ◌, Some, None, slice_index}
use Rattle.std.specs.List.{AllByRecursion, list_any, cons_option}
use Rattle.std.proofs.lemmas.Int.{ints}
use Rattle.std.proofs.lemmas.List.{reverse-reverse, reverse-append}
use Rattle.std.proofs.lemmas.List.Sorted.{IsPermutation-reverse, list_any-IsPermutation}
use Rattle.mw_model.proofs.mw_facts.Alls.{all-weaker, all-append, all-push}
use Rattle.mw_model.specs.declared.offsets.Offset.{Offset}
use Rattle.mw_model.specs.Rasters.{Raster}
use Rattle.mw_model.specs.Elements.{offset_from, offsets_in_row, offsets_of, overlaps, same_offset}
use Rattle.mw_model.specs.Flat.{reflected}
use Rattle.mw_element.specs.Figures.{OffsetsRise, by_rows, row_key, turned}
use Rattle.mw_element.proofs.Lists.{not_same}
use Rattle.mw_element.proofs.Rows.{row_part, rows_part}

abbrev AllFrom : ℤ → List Offset → Type 0
AllFrom k xs = AllByRecursion (λ (b : Offset). k ≤ℤ row_key b) xs

abbrev AllBelow : ℤ → List Offset → Type 0
AllBelow k xs = AllByRecursion (λ (b : Offset). row_key b <ℤ k) xs

from_weaker : (j k : ℤ) (xs : List Offset) → j ≤ℤ k → AllFrom k xs → AllFrom j xs
from_weaker j k xs le all = all-weaker (λ (b : Offset). k ≤ℤ row_key b) (λ (b : Offset). j ≤ℤ row_key b) xs (λ b from. omega (arith, ints, le, from)) all

from_after : (k : ℤ) (b : Offset) (xs : List Offset) → row_key b <ℤ k → AllFrom k xs → AllByRecursion (λ (c : Offset). row_key b <ℤ row_key c) xs
from_after k b xs lt all = all-weaker (λ (c : Offset). k ≤ℤ row_key c) (λ (c : Offset). row_key b <ℤ row_key c) xs (λ c from. omega (arith, ints, lt, from)) all

below_stronger : (j k : ℤ) (xs : List Offset) → k ≤ℤ j → AllBelow k xs → AllBelow j xs
below_stronger j k xs le all = all-weaker (λ (b : Offset). row_key b <ℤ k) (λ (b : Offset). row_key b <ℤ j) xs (λ b below. omega (arith, ints, le, below)) all

-- two lists, with a key between them
rises_append : (k : ℤ) (xs ys : List Offset) → OffsetsRise xs → AllBelow k xs → OffsetsRise ys → AllFrom k ys → OffsetsRise (xs ++ ys)
rises_append k [] ys r below s from = s
rises_append k (x ∷ xs) ys r below s from =
    (all-append (λ (c : Offset). row_key x <ℤ row_key c) xs ys r.0 (from_after k x ys below.0 from), rises_append k xs ys r.1 below.1 s from)

-- ---- the offsets of a bitmap

-- the key of column x of row y
abbrev key_at : ℕ → ℕ → ℕ → ℕ → ℤ
key_at ox oy x y = row_key (offset_from ox oy x y)

row_from : (f : Raster ℕ) (ox oy y x n : ℕ) → AllFrom (key_at ox oy x y) (row_part f ox oy y x n)
row_from f ox oy y x zero = tt
row_from f ox oy y x (suc n) =
    let rest = from_weaker (key_at ox oy x y) (key_at ox oy (x + 1) y) (row_part f ox oy y (x + 1) n) (omega (arith, ints)) (row_from f ox oy y (x + 1) n) in
    elim (eqb (slice_index f.cells (y * f.width + x)) 1) as (λ (b : Bool). AllFrom (key_at ox oy x y) (cons_option (cond b (Some (offset_from ox oy x y)) None) (row_part f ox oy y (x + 1) n))) [
      | true ↦ (omega (arith, ints), rest)
      | false ↦ rest
    ]

row_below : (f : Raster ℕ) (ox oy y x n : ℕ) → AllBelow (key_at ox oy (x + n) y) (row_part f ox oy y x n)
row_below f ox oy y x zero = tt
row_below f ox oy y x (suc n) =
    let rest = below_stronger (key_at ox oy (x + suc n) y) (key_at ox oy (x + 1 + n) y) (row_part f ox oy y (x + 1) n) (omega (arith, ints)) (row_below f ox oy y (x + 1) n) in
    elim (eqb (slice_index f.cells (y * f.width + x)) 1) as (λ (b : Bool). AllBelow (key_at ox oy (x + suc n) y) (cons_option (cond b (Some (offset_from ox oy x y)) None) (row_part f ox oy y (x + 1) n))) [
      | true ↦ (omega (arith, ints), rest)
      | false ↦ rest
    ]

row_rises : (f : Raster ℕ) (ox oy y x n : ℕ) → OffsetsRise (row_part f ox oy y x n)
row_rises f ox oy y x zero = tt
row_rises f ox oy y x (suc n) =
    let rest = row_rises f ox oy y (x + 1) n in
    let after = from_after (key_at ox oy (x + 1) y) (offset_from ox oy x y) (row_part f ox oy y (x + 1) n) (omega (arith, ints)) (row_from f ox oy y (x + 1) n) in
    elim (eqb (slice_index f.cells (y * f.width + x)) 1) as (λ (b : Bool). OffsetsRise (cons_option (cond b (Some (offset_from ox oy x y)) None) (row_part f ox oy y (x + 1) n))) [
      | true ↦ (after, rest)
      | false ↦ rest
    ]

rows_from : (f : Raster ℕ) (ox oy y n : ℕ) → AllFrom (key_at ox oy 0 y) (rows_part f ox oy y n)
rows_from f ox oy y zero = tt
rows_from f ox oy y (suc n) =
    all-append (λ (b : Offset). key_at ox oy 0 y ≤ℤ row_key b) (offsets_in_row f ox oy y) (rows_part f ox oy (y + 1) n) (row_from f ox oy y 0 f.width)
    (from_weaker (key_at ox oy 0 y) (key_at ox oy 0 (y + 1)) (rows_part f ox oy (y + 1) n) (omega (arith, ints)) (rows_from f ox oy (y + 1) n))

rows_rise : (f : Raster ℕ) (ox oy y n : ℕ) → f.width ≤ 1024 → OffsetsRise (rows_part f ox oy y n)
rows_rise f ox oy y zero le = tt
rows_rise f ox oy y (suc n) le =
    rises_append (key_at ox oy 0 (y + 1)) (offsets_in_row f ox oy y) (rows_part f ox oy (y + 1) n) (row_rises f ox oy y 0 f.width)
    (below_stronger (key_at ox oy 0 (y + 1)) (key_at ox oy (0 + f.width) y) (offsets_in_row f ox oy y) (omega (arith, ints)) (row_below f ox oy y 0 f.width)) (rows_rise f ox oy (y + 1) n le) (rows_from f ox oy (y + 1) n)

pub offsets_rise : (f : Raster ℕ) (ox oy : ℕ) → f.width ≤ 255 → OffsetsRise (offsets_of f ox oy)
offsets_rise f ox oy le = rows_rise f ox oy 0 f.height (omega arith)

-- ---- the offsets of a reflected element

before_turned : (b : Offset) (xs : List Offset) → AllByRecursion (λ (c : Offset). row_key b <ℤ row_key c) xs → AllBelow (row_key (turned b)) (reflected xs)
before_turned b [] all = tt
before_turned b (x ∷ xs) all = (omega (arith, ints, all.0), before_turned b xs all.1)

pub all_reverse : (P : Offset → Type 0) (xs : List Offset) → AllByRecursion P xs → AllByRecursion P (reverse xs)
all_reverse P [] all = tt
all_reverse P (x ∷ xs) all = subst (AllByRecursion P) (sym (reverse-append (x ∷ []) xs)) (all-push P (reverse xs) x (all_reverse P xs all.1) all.0)

rises_turned : (xs : List Offset) → OffsetsRise xs → OffsetsRise (reverse (reflected xs))
rises_turned [] r = tt
rises_turned (x ∷ xs) r =
    subst OffsetsRise (sym (reverse-append (turned x ∷ []) (reflected xs)))
    (rises_append (row_key (turned x)) (reverse (reflected xs)) (turned x ∷ []) (rises_turned xs r.1) (all_reverse (λ (b : Offset). row_key b <ℤ row_key (turned x)) (reflected xs) (before_turned x xs r.0)) (tt, tt) (omega (arith, ints), tt))

reflected_append : (xs ys : List Offset) → reflected (xs ++ ys) ≡ reflected xs ++ reflected ys
reflected_append [] ys = refl
reflected_append (x ∷ xs) ys = ap (λ (bs : List Offset). turned x ∷ bs) (reflected_append xs ys)

pub reflected_reverse : (xs : List Offset) → reflected (reverse xs) ≡ reverse (reflected xs)
reflected_reverse [] = refl
reflected_reverse (x ∷ xs) =
    ap reflected (reverse-append (x ∷ []) xs) ∙ reflected_append (reverse xs) (x ∷ []) ∙ ap (λ (bs : List Offset). bs ++ turned x ∷ []) (reflected_reverse xs) ∙ sym (reverse-append (turned x ∷ []) (reflected xs))

pub reflected_rise : (is_turned : Bool) (xs : List Offset) → OffsetsRise (by_rows is_turned xs) → OffsetsRise (by_rows (not is_turned) (reflected xs))
reflected_rise false xs r = rises_turned xs r
reflected_rise true xs r =
    let back : reverse (reflected (reverse xs)) ≡ reflected xs = sym (reflected_reverse (reverse xs)) ∙ ap reflected (reverse-reverse xs) in
    subst OffsetsRise back (rises_turned (reverse xs) r)

-- ---- one pass over two lists

key_apart : (a b : Offset) → row_key a <ℤ row_key b → same_offset a b ≡ false
key_apart a b lt = not_same a b (λ e. let key : row_key a ≡ row_key b = ap row_key e in absurd (omega (arith, ints, lt, key)))

key_apart_back : (a b : Offset) → row_key b <ℤ row_key a → same_offset a b ≡ false
key_apart_back a b lt = not_same a b (λ e. let key : row_key a ≡ row_key b = ap row_key e in absurd (omega (arith, ints, lt, key)))

before_none : (a : Offset) (xs : List Offset) → AllByRecursion (λ (c : Offset). row_key a <ℤ row_key c) xs → list_any (same_offset a) xs ≡ false
before_none a [] all = refl
before_none a (x ∷ xs) all = rw (key_apart a x all.0, before_none a xs all.1) refl

all_after : (a b : Offset) (xs : List Offset) → row_key a ≤ℤ row_key b → AllByRecursion (λ (c : Offset). row_key b <ℤ row_key c) xs → AllByRecursion (λ (c : Offset). row_key a <ℤ row_key c) xs
all_after a b xs le all = all-weaker (λ (c : Offset). row_key b <ℤ row_key c) (λ (c : Offset). row_key a <ℤ row_key c) xs (λ c after. omega (arith, ints, le, after)) all

pub overlaps-none : (xs : List Offset) → overlaps xs [] ≡ false
overlaps-none [] = refl
overlaps-none (x ∷ xs) = overlaps-none xs

-- the first offset of the second list is none of these
overlaps-after : (b : Offset) (xs bs : List Offset) → AllByRecursion (λ (c : Offset). row_key b <ℤ row_key c) xs → overlaps xs (b ∷ bs) ≡ overlaps xs bs
overlaps-after b [] bs all = refl
overlaps-after b (x ∷ xs) bs all = rw (key_apart_back x b all.0, overlaps-after b xs bs all.1) refl

-- the offsets that two lists still have, and those that they had
pub record Passes (first_turned second_turned : Bool) (first_rest second_rest first second : List Offset) : Type 0 where
  pub first_rises : OffsetsRise (by_rows first_turned first_rest)
  pub second_rises : OffsetsRise (by_rows second_turned second_rest)
  pub same : overlaps (by_rows first_turned first_rest) (by_rows second_turned second_rest) ≡ overlaps first second

any_by_rows : (p : Offset → Bool) (is_turned : Bool) (xs : List Offset) → list_any p (by_rows is_turned xs) ≡ list_any p xs
any_by_rows p false xs = refl
any_by_rows p true xs = sym (list_any-IsPermutation p xs (reverse xs) (IsPermutation-reverse xs))

second_by_rows : (is_turned : Bool) (xs ys : List Offset) → overlaps xs (by_rows is_turned ys) ≡ overlaps xs ys
second_by_rows is_turned [] ys = refl
second_by_rows is_turned (x ∷ xs) ys = rw (any_by_rows (same_offset x) is_turned ys, second_by_rows is_turned xs ys) refl

pub passes_first : (s t : Bool) (first second : List Offset) → OffsetsRise (by_rows s first) → OffsetsRise (by_rows t second) → Passes s t first second first second
passes_first s t first second r q = record {
  first_rises = r;
  second_rises = q;
  same = any_by_rows (λ (a : Offset). list_any (same_offset a) (by_rows t second)) s first ∙ second_by_rows t first second;
}

-- what the lists still share, seen by their first offsets
seen_by_rows : (s t : Bool) (rest others xs ys : List Offset) → by_rows s rest ≡ xs → by_rows t others ≡ ys → overlaps (by_rows s rest) (by_rows t others) ≡ overlaps xs ys
seen_by_rows s t rest others xs ys e f = ap (λ (zs : List Offset). overlaps zs (by_rows t others)) e ∙ ap (overlaps xs) f

skip_first : (a b : Offset) (as' bs : List Offset) → same_offset a b ≡ false → list_any (same_offset a) bs ≡ false → overlaps (a ∷ as') (b ∷ bs) ≡ overlaps as' (b ∷ bs)
skip_first a b as' bs apart none = rw (apart, none) refl

skip_second : (a b : Offset) (as' bs : List Offset) → same_offset a b ≡ false → overlaps as' (b ∷ bs) ≡ overlaps as' bs → overlaps (a ∷ as') (b ∷ bs) ≡ overlaps (a ∷ as') bs
skip_second a b as' bs apart rest = rw apart (ap (λ (t : Bool). list_any (same_offset a) bs || t) rest)

pub passes_on_first : (s t : Bool) (rest after others first second : List Offset) (a b : Offset) (bs : List Offset) → Passes s t rest others first second → by_rows s rest ≡ a ∷ by_rows s after → by_rows t others ≡ b ∷ bs
    → same_offset a b ≡ false → row_key a <ℤ row_key b → Passes s t after others first second
passes_on_first s t rest after others first second a b bs p e f apart lt =
    let r : OffsetsRise (a ∷ by_rows s after) = subst OffsetsRise e p.first_rises in
    let q : OffsetsRise (b ∷ bs) = subst OffsetsRise f p.second_rises in
    let none : list_any (same_offset a) bs ≡ false = before_none a bs (all_after a b bs (omega (arith, ints, lt)) q.0) in
    let both : overlaps (by_rows s rest) (by_rows t others) ≡ overlaps (by_rows s after) (b ∷ bs) = seen_by_rows s t rest others (a ∷ by_rows s after) (b ∷ bs) e f ∙ skip_first a b (by_rows s after) bs apart none in
    record {
      first_rises = r.1;
      second_rises = p.second_rises;
      same = ap (overlaps (by_rows s after)) f ∙ sym both ∙ p.same;
    }

pub passes_on_second : (s t : Bool) (rest others after first second : List Offset) (a b : Offset) (as' : List Offset) → Passes s t rest others first second → by_rows s rest ≡ a ∷ as' → by_rows t others ≡ b ∷ by_rows t after
    → same_offset a b ≡ false → row_key b ≤ℤ row_key a → Passes s t rest after first second
passes_on_second s t rest others after first second a b as' p e f apart le =
    let r : OffsetsRise (a ∷ as') = subst OffsetsRise e p.first_rises in
    let q : OffsetsRise (b ∷ by_rows t after) = subst OffsetsRise f p.second_rises in
    let both : overlaps (by_rows s rest) (by_rows t others) ≡ overlaps (a ∷ as') (by_rows t after) =
    seen_by_rows s t rest others (a ∷ as') (b ∷ by_rows t after) e f ∙ skip_second a b as' (by_rows t after) apart (overlaps-after b as' (by_rows t after) (all_after b a as' le r.0)) in
    record {
      first_rises = p.first_rises;
      second_rises = q.1;
      same = ap (λ (xs : List Offset). overlaps xs (by_rows t after)) e ∙ sym both ∙ p.same;
    }

pub passes_end_second : (s t : Bool) (rest others first second : List Offset) → Passes s t rest others first second → by_rows t others ≡ [] → false ≡ overlaps first second
passes_end_second s t rest others first second p e =
    let both : overlaps (by_rows s rest) (by_rows t others) ≡ false = ap (overlaps (by_rows s rest)) e ∙ overlaps-none (by_rows s rest) in
    sym both ∙ p.same
