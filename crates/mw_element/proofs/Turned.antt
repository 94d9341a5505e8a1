-- What is told of the offsets of an element, turned round with them.
use Rattle.std.proofs.Common.{◌≡◌, ℕ, Bool, true, false, not, ◌+◌, ◌-◌, ◌<◌, List, [], ◌∷◌, ◌++◌, length, take, get_or, map, flat_map, reverse, ℤ, pos, ◌+ℤ◌, ◌-ℤ◌, neg_ℤ, refl, sym, ap, subst, ◌∙◌, arith, inl, inr, zero-add}
use Rattle.std.specs.List.{AllByRecursion, Contains}
use Rattle.std.proofs.lemmas.Bool.{cases_Bool}
use Rattle.std.proofs.lemmas.Int.{ints}
use Rattle.std.proofs.lemmas.List.{append-nil, ext_get_or, get_or-map, get_or-reverse, length-map, length-reverse, map-append, reverse-append, reverse-reverse, take_more}
use Rattle.std.proofs.lemmas.List.FromFn.{get_or-map-range_with_len, length-map-range_with_len}
use Rattle.std.proofs.lemmas.Grind.{flat_map-append}
use Rattle.mw_model.proofs.mw_facts.Alls.{all-append_left, all-append_right, all-get_or, all-push}
use Rattle.mw_model.specs.declared.offsets.Offset.{Offset}
use Rattle.mw_model.specs.declared.offsets.OffsetBox.{OffsetBox}
use Rattle.mw_model.specs.Elements.{IsNear, reach_of}
use Rattle.mw_model.specs.Rectangles.{nonnegative}
use Rattle.mw_model.specs.Flat.{greatest, reflected}
use Rattle.mw_element_runs.specs.declared.runs.Run.{Run}
use Rattle.mw_element_runs.specs.Runs.{run_offsets, start_offset, follows_back, pairs, pairs_from, AreEitherWay, AreFewest, AreLongest, Continues, IsRun}
use Rattle.mw_element_runs.proofs.Fewest.{fewest_onward, follows_on, none_more}
use Rattle.mw_element_runs.proofs.RunLists.{offset_is}
use Rattle.mw_element.specs.Figures.{FillsBox, InBox, OffsetsRise, by_rows, turned}
use Rattle.mw_element.proofs.Order.{all_reverse, reflected_reverse}
use Rattle.mw_element.specs.Told.{IsNearRun, TellsRuns, turned_reach, turned_run, turned_runs}

turned_twice : (b : Offset) → turned (turned b) ≡ b
turned_twice b = sym (offset_is b (neg_ℤ (neg_ℤ b.dx)) (neg_ℤ (neg_ℤ b.dy)) (omega (arith, ints)) (omega (arith, ints)))

reflected_twice : (xs : List Offset) → reflected (reflected xs) ≡ xs
reflected_twice [] = refl
reflected_twice (x ∷ xs) = rw (turned_twice x, reflected_twice xs) refl

-- ---- the reach

greatest_turned : (f g : Offset → ℕ) → ((b : Offset) → f (turned b) ≡ g b) → (xs : List Offset) → greatest (map f (reflected xs)) ≡ greatest (map g xs)
greatest_turned f g same [] = refl
greatest_turned f g same (x ∷ xs) = rw (same x, greatest_turned f g same xs) refl

twice : (z : ℤ) → nonnegative (neg_ℤ (neg_ℤ z)) ≡ nonnegative z
twice z = let e : neg_ℤ (neg_ℤ z) ≡ z = omega (arith, ints) in ap nonnegative e

pub reach_turned : (xs : List Offset) → turned_reach (reach_of xs) ≡ reach_of (reflected xs)
reach_turned xs =
    rw (
      greatest_turned (λ (b : Offset). nonnegative (neg_ℤ b.dx)) (λ (b : Offset). nonnegative b.dx) (λ b. twice b.dx) xs,
      greatest_turned (λ (b : Offset). nonnegative b.dx) (λ (b : Offset). nonnegative (neg_ℤ b.dx)) (λ b. refl) xs,
      greatest_turned (λ (b : Offset). nonnegative (neg_ℤ b.dy)) (λ (b : Offset). nonnegative b.dy) (λ b. twice b.dy) xs,
      greatest_turned (λ (b : Offset). nonnegative b.dy) (λ (b : Offset). nonnegative (neg_ℤ b.dy)) (λ b. refl) xs,
    ) refl

-- ---- the box

abbrev turned_box : OffsetBox → OffsetBox
turned_box box = record { x0 = neg_ℤ box.x1; x1 = neg_ℤ box.x0; y0 = neg_ℤ box.y1; y1 = neg_ℤ box.y0 }

in_turned : (box : OffsetBox) (b : Offset) → InBox box (turned b) → InBox (turned_box box) b
in_turned box b h = record {
  left = omega (arith, ints, h.right);
  right = omega (arith, ints, h.left);
  top = omega (arith, ints, h.bottom);
  bottom = omega (arith, ints, h.top);
}

in_box : (box : OffsetBox) (b : Offset) → InBox (turned_box box) b → InBox box (turned b)
in_box box b h = record {
  left = omega (arith, ints, h.right);
  right = omega (arith, ints, h.left);
  top = omega (arith, ints, h.bottom);
  bottom = omega (arith, ints, h.top);
}

has_turned : (xs : List Offset) (b : Offset) → Contains xs b → Contains (reflected xs) (turned b)
has_turned xs b has = (has.0, omega (arith, has.1, length-map xs turned), get_or-map turned xs has.0 b (turned b) has.1 ∙ ap turned has.2)

fills_turned : (box : OffsetBox) (xs : List Offset) → FillsBox box (reflected xs) → FillsBox (turned_box box) xs
fills_turned box xs fills b = (
  (λ has. in_turned box b ((fills (turned b)).0 (has_turned xs b has))),
  (λ inside.
      let has = has_turned (reflected xs) (turned b) ((fills (turned b)).1 (in_box box b inside)) in
      subst (λ (t : List Offset). Contains t b) (reflected_twice xs) (subst (Contains (reflected (reflected xs))) (turned_twice b) has)),
)

pub no_box_turned : (xs : List Offset) → ((box : OffsetBox) → FillsBox box xs → ⊥) → (box : OffsetBox) → FillsBox box (reflected xs) → ⊥
no_box_turned xs none box fills = none (turned_box box) (fills_turned box xs fills)

-- ---- runs

abbrev place : Run → ℕ → Offset
place r k = record { dx = r.dx +ℤ pos k; dy = r.dy }

run_at : (r : Run) (k : ℕ) (d : Offset) → k < r.count → get_or (run_offsets r) k d ≡ place r k
run_at r k d lt = get_or-map-range_with_len (place r) 0 r.count k k d lt (zero-add k)

length-run : (r : Run) → length (run_offsets r) ≡ r.count
length-run r = length-map-range_with_len (place r) 0 r.count

run_turned : (r : Run) → run_offsets (turned_run r) ≡ reverse (reflected (run_offsets r))
run_turned r =
    let none : Offset = record { dx = pos 0; dy = pos 0 } in
    let turns = reflected (run_offsets r) in
    let many : length turns ≡ r.count = length-map (run_offsets r) turned ∙ length-run r in
    ext_get_or none (run_offsets (turned_run r)) (reverse turns) (length-run (turned_run r) ∙ sym (length-reverse turns ∙ many))
    (λ i less.
    let lt : i < r.count = omega (arith, less, length-run (turned_run r)) in
    let j = length turns - 1 - i in
    let inside : j < r.count = omega (arith, many) in
    let across : (pos 1 -ℤ r.dx -ℤ pos r.count +ℤ pos i) ≡ neg_ℤ (r.dx +ℤ pos j) = omega (arith, ints, many, lt) in
    run_at (turned_run r) i none lt
    ∙ ap (λ (z : ℤ). let b : Offset = record { dx = z; dy = neg_ℤ r.dy } in b) across
    ∙ sym (get_or-reverse turns i none (omega (arith, many)) ∙ get_or-map turned (run_offsets r) j none none (omega (arith, inside, length-run r)) ∙ ap turned (run_at r j none inside)))

flat_turned : (runs : List Run) → flat_map run_offsets (turned_runs runs) ≡ reverse (reflected (flat_map run_offsets runs))
flat_turned [] = refl
flat_turned (r ∷ rs) =
    let rest = flat_map run_offsets rs in
    ap (flat_map run_offsets) (reverse-append (turned_run r ∷ []) (map turned_run rs))
    ∙ flat_map-append run_offsets (turned_runs rs) (turned_run r ∷ [])
    ∙ ap (λ (t : List Offset). flat_map run_offsets (turned_runs rs) ++ t) (append-nil (run_offsets (turned_run r)) ∙ run_turned r)
    ∙ ap (λ (t : List Offset). t ++ reverse (reflected (run_offsets r))) (flat_turned rs)
    ∙ sym (ap reverse (map-append turned (run_offsets r) rest) ∙ reverse-append (reflected (run_offsets r)) (reflected rest))

either_turned : (offsets : List Offset) (runs : List Run) → AreEitherWay offsets runs → AreEitherWay (reflected offsets) (turned_runs runs)
either_turned offsets runs (inl same) = inr (flat_turned runs ∙ ap (λ (t : List Offset). reverse (reflected t)) same)
either_turned offsets runs (inr opposite) =
    inl (flat_turned runs ∙ ap (λ (t : List Offset). reverse (reflected t)) opposite ∙ ap reverse (reflected_reverse offsets) ∙ reverse-reverse (reflected offsets))

each_reversed : (runs : List Run) → AllByRecursion IsRun runs → AllByRecursion IsRun (reverse runs)
each_reversed [] all = tt
each_reversed (r ∷ rs) all = subst (AllByRecursion IsRun) (sym (reverse-append (r ∷ []) rs)) (all-push IsRun (reverse rs) r (each_reversed rs all.1) all.0)

all_turned : (runs : List Run) → AllByRecursion IsRun runs → AllByRecursion IsRun (map turned_run runs)
all_turned [] all = tt
all_turned (r ∷ rs) all = (record { some = all.0.some; few = all.0.few }, all_turned rs all.1)

each_turned : (runs : List Run) → AllByRecursion IsRun runs → AllByRecursion IsRun (turned_runs runs)
each_turned runs all = each_reversed (map turned_run runs) (all_turned runs all)

length-turned : (runs : List Run) → length (turned_runs runs) ≡ length runs
length-turned runs = length-reverse (map turned_run runs) ∙ length-map runs turned_run

turned_at : (runs : List Run) (k j : ℕ) (d : Run) → k + j + 1 ≡ length runs → get_or (turned_runs runs) k d ≡ turned_run (get_or runs j d)
turned_at runs k j d both =
    let many = length-map runs turned_run in
    let at : length (map turned_run runs) - 1 - k ≡ j = omega (arith, many, both) in
    get_or-reverse (map turned_run runs) k d (omega (arith, many, both)) ∙ ap (λ (t : ℕ). get_or (map turned_run runs) t d) at ∙ get_or-map turned_run runs j d d (omega (arith, both))

longest_turned : (runs : List Run) → AreLongest runs → AreLongest (turned_runs runs)
longest_turned runs longest k r less on =
    let many = length-turned runs in
    let j = length runs - 1 - (k + 1) in
    let next : Continues (turned_run (get_or runs (j + 1) r)) (start_offset (turned_run (get_or runs j r))) =
    subst (λ (s : Run). Continues s (start_offset (turned_run (get_or runs j r)))) (turned_at runs k (j + 1) r (omega (arith, many, less)))
    (subst (λ (s : Run). Continues (get_or (turned_runs runs) k r) (start_offset s)) (turned_at runs (k + 1) j r (omega (arith, many, less))) on) in
    longest j r (omega (arith, many, less)) (record { dx = omega (arith, ints, next.dx); dy = omega (arith, ints, next.dy) })

fewest_turned : (offsets : List Offset) (runs : List Run) → AreFewest offsets runs → AreFewest (reflected offsets) (turned_runs runs)
fewest_turned offsets runs fewest others each either =
    let back = subst (λ (t : List Offset). AreEitherWay t (turned_runs others)) (reflected_twice offsets) (either_turned (reflected offsets) others either) in
    omega (arith, length-turned runs, length-turned others, fewest (turned_runs others) (each_turned others each) back)

whole_turned : (is_turned : Bool) (offsets : List Offset) (runs : List Run) → flat_map run_offsets runs ≡ by_rows is_turned offsets → flat_map run_offsets (turned_runs runs) ≡ by_rows (not is_turned) (reflected offsets)
whole_turned false offsets runs same = flat_turned runs ∙ ap (λ (t : List Offset). reverse (reflected t)) same
whole_turned true offsets runs same =
    flat_turned runs ∙ ap (λ (t : List Offset). reverse (reflected t)) same ∙ ap reverse (reflected_reverse offsets) ∙ reverse-reverse (reflected offsets)

pub runs_turned : (is_turned : Bool) (offsets : List Offset) (runs : List Run) → TellsRuns is_turned runs offsets → TellsRuns (not is_turned) (turned_runs runs) (reflected offsets)
runs_turned is_turned offsets runs told = record {
  whole = whole_turned is_turned offsets runs told.whole;
  each = each_turned runs told.each;
  longest = longest_turned runs told.longest;
  fewest = fewest_turned offsets runs told.fewest;
}

pub either_way : (is_turned : Bool) (offsets : List Offset) (runs : List Run) → TellsRuns is_turned runs offsets → AreEitherWay offsets runs
either_way false offsets runs told = inl told.whole
either_way true offsets runs told = inr told.whole

-- offsets by rows are those of their runs
pub same_offsets : (is_turned : Bool) (xs ys : List Offset) (runs : List Run) → TellsRuns is_turned runs xs → TellsRuns is_turned runs ys → xs ≡ ys
same_offsets false xs ys runs first second = sym first.whole ∙ second.whole
same_offsets true xs ys runs first second = sym (reverse-reverse xs) ∙ ap reverse (sym first.whole ∙ second.whole) ∙ reverse-reverse ys

-- ---- runs of offsets that rise

none_back : (a : Offset) (xs : List Offset) → OffsetsRise (a ∷ xs) → pairs_from follows_back a xs ≡ 0
none_back a [] rises = refl
none_back a (b ∷ xs) rises =
    let not : follows_back a b ≡ false =
    elim (cases_Bool (follows_back a b)) [
      | inl back ↦ let on = follows_on b a back in absurd (omega (arith, ints, on.dx, on.dy, rises.0.0))
      | inr on_no ↦ on_no
    ] in
    omega (arith, none_more (follows_back a b) not, none_back b xs rises.1)

back_none : (xs : List Offset) → OffsetsRise xs → pairs follows_back xs ≡ 0
back_none [] rises = refl
back_none (a ∷ xs) rises = none_back a xs rises

pub runs_of_rows : (offsets : List Offset) (runs : List Run) → OffsetsRise offsets → flat_map run_offsets runs ≡ offsets → AllByRecursion IsRun runs → AreLongest runs → TellsRuns false runs offsets
runs_of_rows offsets runs rises same each longest = record {
  whole = same;
  each = each;
  longest = longest;
  fewest = fewest_onward offsets runs same each longest (omega (arith, back_none offsets rises));
}

pub run_is : (dx dy x y : ℤ) (count : ℕ) → dx ≡ x → dy ≡ y → ◌≡◌ {A = Run} (record { dx = dx; dy = dy; count = count }) (record { dx = x; dy = y; count = count })
run_is dx dy x y count dx-is dy-is =
    ap (λ (t : ℤ). let r : Run = record { dx = t; dy = dy; count = count } in r) dx-is ∙ ap (λ (t : ℤ). let r : Run = record { dx = x; dy = t; count = count } in r) dy-is

-- one run more
pub turned_more : (runs more : List Run) (i : ℕ) (d : Run) → i < length runs → more ≡ take i (turned_runs runs) ++ turned_run (get_or runs (length runs - 1 - i) d) ∷ [] → more ≡ take (i + 1) (turned_runs runs)
turned_more runs more i d lt more-is =
    more-is
    ∙ ap (λ (t : Run). take i (turned_runs runs) ++ t ∷ []) (sym (turned_at runs i (length runs - 1 - i) d (omega arith)))
    ∙ sym (take_more (turned_runs runs) i d (omega (arith, lt, length-turned runs)))

-- ---- runs of near offsets

near_run : (r : Run) → IsRun r → AllByRecursion IsNear (run_offsets r) → IsNearRun r
near_run r is near =
    let none : Offset = record { dx = pos 0; dy = pos 0 } in
    let many = length-run r in
    let some = is.some in
    let first : IsNear (place r 0) = subst IsNear (run_at r 0 none some) (all-get_or IsNear (run_offsets r) 0 none (omega (arith, many)) near) in
    let last : IsNear (place r (r.count - 1)) = subst IsNear (run_at r (r.count - 1) none (omega arith)) (all-get_or IsNear (run_offsets r) (r.count - 1) none (omega (arith, many)) near) in
    record {
      some = some;
      left = omega (arith, ints, first.left);
      right = omega (arith, ints, last.right, some);
      top = first.top;
      bottom = first.bottom;
    }

near_each : (runs : List Run) → AllByRecursion IsRun runs → AllByRecursion IsNear (flat_map run_offsets runs) → AllByRecursion IsNearRun runs
near_each [] each near = tt
near_each (r ∷ rs) each near =
    let rest = flat_map run_offsets rs in
    (near_run r each.0 (all-append_left IsNear (run_offsets r) rest near), near_each rs each.1 (all-append_right IsNear (run_offsets r) rest near))

by_rows_near : (is_turned : Bool) (offsets : List Offset) → AllByRecursion IsNear offsets → AllByRecursion IsNear (by_rows is_turned offsets)
by_rows_near false offsets near = near
by_rows_near true offsets near = all_reverse IsNear offsets near

pub near_runs : (is_turned : Bool) (offsets : List Offset) (runs : List Run) → AllByRecursion IsNear offsets → TellsRuns is_turned runs offsets → AllByRecursion IsNearRun runs
near_runs is_turned offsets runs near told = near_each runs told.each (subst (AllByRecursion IsNear) (sym told.whole) (by_rows_near is_turned offsets near))
