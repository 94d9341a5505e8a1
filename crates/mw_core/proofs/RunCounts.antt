-- How many runs offsets are cut into: one for each that does not stand right behind the one before it.
use Rattle.std.proofs.Common.{◌≡◌, ℕ, zero, suc, ◌+◌, ◌-◌, ◌<◌, ◌≤◌, min, pos, ◌+ℤ◌, ℤ, Bool, true, false, List, [], ◌∷◌, ◌++◌, length, get_or, map, flat_map, reverse, refl, ap, sym, subst, inl, inr, ◌∙◌, arith, if◌then◌else◌, length-append, append_assoc}
use Rattle.std.specs.Ordering.{int_eq}
use Rattle.std.specs.List.{range_with_len, AllByRecursion}
use Rattle.std.proofs.lemmas.Int.{ints}
use Rattle.std.proofs.lemmas.Bool.{cases_Bool}
use Rattle.std.proofs.lemmas.List.{length-reverse}
use Rattle.mw_model.specs.declared.offsets.Offset.{Offset}
use Rattle.mw_element_runs.specs.declared.runs.Run.{Run}
use Rattle.mw_element_runs.specs.Runs.{run_offsets, start_offset, Continues, IsRun, AreEitherWay, AreLongest, AreFewest, follows}
use Rattle.mw_element_runs.proofs.Fewest.{follows_true, follows_on}
use Rattle.mw_core.specs.Costs.{runs_in, fewest_runs}

-- a run's offset at a place
abbrev place : Run → ℕ → Offset
place r i = record { dx = r.dx +ℤ pos i; dy = r.dy }

abbrev last : Run → Offset
last r = place r (r.count - 1)

one_if_not : (b : Bool) → b ≡ true → ◌≡◌ {A = ℕ} (if b then 0 else 1) 0
one_if_not b yes-is = rw yes-is refl

one_if : (b : Bool) → b ≡ false → ◌≡◌ {A = ℕ} (if b then 0 else 1) 1
one_if b no-is = rw no-is refl

-- ---- runs that are as long as they can be are so many

within_run : (r : Run) (i m : ℕ) (ys : List Offset) → runs_in (place r i ∷ map (place r) (range_with_len (i + 1) m) ++ ys) ≡ runs_in (place r (i + m) ∷ ys)
within_run r i zero ys = ap (λ (t : ℕ). runs_in (place r t ∷ ys)) (none i)
  where
    none : (i : ℕ) → i ≡ i + 0
    none i = omega arith
within_run r i (suc m) ys =
    let on : follows (place r i) (place r (i + 1)) ≡ true = follows_true (place r i) (place r (i + 1)) (record { dx = omega (arith, ints); dy = refl }) in
    let here = one_if_not (follows (place r i) (place r (i + 1))) on in
    let more = within_run r (i + 1) m ys in
    let further = ap (λ (t : ℕ). runs_in (place r t ∷ ys)) (same i m) in
    omega (arith, here, more, further)
  where
    same : (i m : ℕ) → i + 1 + m ≡ i + suc m
    same i m = omega arith

whole_run : (r : Run) (n : ℕ) (ys : List Offset) → 0 < n → runs_in (map (place r) (range_with_len 0 n) ++ ys) ≡ runs_in (place r (n - 1) ∷ ys)
whole_run r zero ys some = absurd (omega arith)
whole_run r (suc m) ys some = within_run r 0 m ys ∙ ap (λ (t : ℕ). runs_in (place r t ∷ ys)) (same m)
  where
    same : (m : ℕ) → 0 + m ≡ suc m - 1
    same m = omega arith

-- what stands before a run
before_run : (r : Run) (n : ℕ) (a : Offset) (ys : List Offset) → 0 < n
    → runs_in (a ∷ map (place r) (range_with_len 0 n) ++ ys) ≡ (if follows a (place r 0) then 0 else 1) + runs_in (map (place r) (range_with_len 0 n) ++ ys)
before_run r zero a ys some = absurd (omega arith)
before_run r (suc m) a ys some = refl

pub longest_count : (runs : List Run) → AllByRecursion IsRun runs → AreLongest runs → length runs ≡ runs_in (flat_map run_offsets runs)
longest_count [] all longest = refl
longest_count (r ∷ []) all longest = sym (whole_run r r.count [] all.0.some)
longest_count (r ∷ s ∷ ss) all longest =
    let zs = flat_map run_offsets ss in
    let ys = flat_map run_offsets (s ∷ ss) in
    let none : ◌≡◌ {A = ℕ} (if follows (last r) (place s 0) then 0 else 1) 1 =
    elim (cases_Bool (follows (last r) (place s 0))) [
      | inl on ↦
          let next = follows_on (last r) (place s 0) on in
          absurd (longest 0 r (omega arith) (record { dx = omega (arith, ints, next.dx, all.0.some); dy = next.dy }))
      | inr not ↦ one_if (follows (last r) (place s 0)) not
    ] in
    let tail : AreLongest (s ∷ ss) = λ k d less on. longest (suc k) d (omega (arith, less)) (subst (λ (t : Run). Continues (get_or (s ∷ ss) k d) (start_offset t)) (further k d) on) in
    let fewer = longest_count (s ∷ ss) all.1 tail in
    let first = whole_run r r.count ys all.0.some in
    let second = before_run s s.count (last r) zs all.1.0.some in
    omega (arith, first, second, none, fewer)
  where
    up : (k : ℕ) → suc (k + 1) ≡ suc k + 1
    up k = omega arith

    further : (k : ℕ) (d : Run) → get_or (s ∷ ss) (k + 1) d ≡ get_or (r ∷ s ∷ ss) (suc k + 1) d
    further k d = ap (λ (t : ℕ). get_or (r ∷ s ∷ ss) t d) (up k)

-- ---- so many runs there are

-- an offset and those behind it, cut into so many runs
record Cut (a : Offset) (os : List Offset) : Type 0 where
  first : Run
  others : List Run
  starts : start_offset first ≡ a
  some : 0 < first.count
  few : first.count ≤ 1 + length os
  each : AllByRecursion IsRun others
  whole : flat_map run_offsets (first ∷ others) ≡ a ∷ os
  count : 1 + length others ≡ runs_in (a ∷ os)

-- the run of one offset
abbrev one : Offset → Run
one a = record { dx = a.dx; dy = a.dy; count = 1 }

plus_zero : (x : ℤ) → x +ℤ pos 0 ≡ x
plus_zero x = omega (arith, ints)

-- an offset by its parts
of_parts : (a : Offset) (x : ℤ) → x ≡ a.dx → ◌≡◌ {A = Offset} (record { dx = x; dy = a.dy }) a
of_parts a x same = ap (λ (t : ℤ). record { dx = t; dy = a.dy }) same

one_offset : (a : Offset) → run_offsets (one a) ≡ a ∷ []
one_offset a = ap (λ (b : Offset). b ∷ []) (of_parts a (a.dx +ℤ pos 0) (plus_zero a.dx))

-- a run that begins one place before
abbrev onward : Run → Offset → Run
onward r a = record { dx = a.dx; dy = a.dy; count = suc r.count }

shifted : (r : Run) (a : Offset) → r.dx ≡ a.dx +ℤ pos 1 → r.dy ≡ a.dy → (i n : ℕ) → map (place (onward r a)) (range_with_len (i + 1) n) ≡ map (place r) (range_with_len i n)
shifted r a next row i zero = refl
shifted r a next row i (suc n) =
    let here : place (onward r a) (i + 1) ≡ place r i =
    ap (λ (x : ℤ). record { dx = x; dy = a.dy }) (across i) ∙ ap (λ (y : ℤ). record { dx = r.dx +ℤ pos i; dy = y }) (sym row) in
    ap (λ (b : Offset). b ∷ map (place (onward r a)) (range_with_len (i + 1 + 1) n)) here ∙ ap (λ (t : List Offset). place r i ∷ t) (shifted r a next row (i + 1) n)
  where
    across : (i : ℕ) → a.dx +ℤ pos (i + 1) ≡ r.dx +ℤ pos i
    across i = omega (arith, ints, next)

onward_offsets : (r : Run) (a : Offset) → r.dx ≡ a.dx +ℤ pos 1 → r.dy ≡ a.dy → run_offsets (onward r a) ≡ a ∷ run_offsets r
onward_offsets r a next row =
    ap (λ (b : Offset). b ∷ map (place (onward r a)) (range_with_len (0 + 1) r.count)) (of_parts a (a.dx +ℤ pos 0) (plus_zero a.dx)) ∙ ap (λ (t : List Offset). a ∷ t) (shifted r a next row 0 r.count)

cut : (a : Offset) (os : List Offset) → length os < 65536 → Cut a os
cut a [] less = record {
  first = one a;
  others = [];
  starts = refl;
  some = omega arith;
  few = omega arith;
  each = tt;
  whole = ap (λ (t : List Offset). t ++ []) (one_offset a);
  count = refl;
}
cut a (b ∷ os) less =
    let rest = cut b os (omega (arith, less)) in
    elim (cases_Bool (follows a b)) [
      | inl on ↦
          let next = follows_on a b on in
          let across : rest.first.dx ≡ a.dx +ℤ pos 1 = ap (λ (o : Offset). o.dx) rest.starts ∙ next.dx in
          let row : rest.first.dy ≡ a.dy = ap (λ (o : Offset). o.dy) rest.starts ∙ next.dy in
          record {
            first = onward rest.first a;
            others = rest.others;
            starts = refl;
            some = omega arith;
            few = omega (arith, rest.few);
            each = rest.each;
            whole = ap (λ (t : List Offset). t ++ flat_map run_offsets rest.others) (onward_offsets rest.first a across row) ∙ ap (λ (t : List Offset). a ∷ t) rest.whole;
            count = omega (arith, rest.count, one_if_not (follows a b) on);
          }
      | inr not ↦ record {
        first = one a;
        others = rest.first ∷ rest.others;
        starts = refl;
        some = omega arith;
        few = omega arith;
        each = (record { some = rest.some; few = omega (arith, rest.few, less) }, rest.each);
        whole = ap (λ (t : List Offset). t ++ flat_map run_offsets (rest.first ∷ rest.others)) (one_offset a) ∙ ap (λ (t : List Offset). a ∷ t) rest.whole;
        count = omega (arith, rest.count, one_if (follows a b) not);
      }
    ]

-- runs of these offsets, as few as they are cut into
record Runs (offsets : List Offset) : Type 0 where
  runs : List Run
  each : AllByRecursion IsRun runs
  whole : flat_map run_offsets runs ≡ offsets
  count : length runs ≡ runs_in offsets

all_cut : (offsets : List Offset) → length offsets ≤ 65536 → Runs offsets
all_cut [] few = record { runs = []; each = tt; whole = refl; count = refl }
all_cut (a ∷ os) few =
    let c = cut a os (omega (arith, few)) in
    record {
      runs = c.first ∷ c.others;
      each = (record { some = c.some; few = omega (arith, c.few, few) }, c.each);
      whole = c.whole;
      count = omega (arith, c.count);
    }

-- what is told of an element's runs
pub fewest_count : (offsets : List Offset) (runs : List Run) → length offsets ≤ 65025 → AreEitherWay offsets runs → AllByRecursion IsRun runs → AreLongest runs → AreFewest offsets runs → length runs ≡ fewest_runs offsets
fewest_count offsets runs few either all longest fewest =
    let own = longest_count runs all longest in
    let onward = all_cut offsets (omega (arith, few)) in
    let back = all_cut (reverse offsets) (omega (arith, few, length-reverse offsets)) in
    let first = fewest onward.runs onward.each (inl onward.whole) in
    let second = fewest back.runs back.each (inr back.whole) in
    elim either [
      | inl same ↦ omega (arith, own, ap runs_in same, first, second, onward.count, back.count)
      | inr same ↦ omega (arith, own, ap runs_in same, first, second, onward.count, back.count)
    ]
