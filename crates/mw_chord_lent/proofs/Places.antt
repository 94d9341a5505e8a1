-- Places of chords that make up runs.
use Rattle.std.proofs.Common.{◌≡◌, ℕ, ◌+◌, ◌-◌, ◌*◌, ◌<◌, ◌≤◌, List, [], ◌∷◌, ◌++◌, length, get_or, refl, ap, sym, subst, arith, ◌∙◌, inl, inr}
use Rattle.std.specs.List.{AllByRecursion}
use Rattle.std.proofs.lemmas.Bool.{cases_lt, lt-ltb, le-ltb}
use Rattle.std.proofs.lemmas.List.{append-nil, append_assoc}
use Rattle.std.proofs.lemmas.List.Sums.{fold-append}
use Rattle.mw_model.proofs.mw_facts.Alls.{all-append}
use Rattle.mw_line.specs.Extrema.{strided}
use Rattle.mw_line.proofs.Folds.{IsExtremum}
use Rattle.mw_line.proofs.Joined.{strided-joined}
use Rattle.mw_offset.specs.mw_element_runs.declared.runs.Run.{Run}
use Rattle.mw_offset.specs.mw_element_runs.declared.runs.Extent.{Extent}
use Rattle.mw_offset.specs.mw_element_runs.Runs.{start_of, RunHasRoom, gather}
use Rattle.mw_offset.specs.MergedAt.{run_extremum}
use Rattle.mw_chord_lent.specs.Grown.{AreGrown}
use Rattle.mw_chord_lent.specs.Placed.{gathered_at, one_or_two, IsRunPlaced, ArePlaced}
use Rattle.mw_chord_lent.specs.Sizes.{AreSizes}
use Rattle.mw_chord_lent.proofs.Grows.{grown_at, size_some}
use Rattle.mw_chord_lent.proofs.Puts.{rows_le}

-- one run more
pub placed_more : (sizes : List ℕ) (span : ℕ) (e : Extent) (wide : ℕ) (runs : List Run) (places : List ℕ) (r : Run) (a : List ℕ) → ArePlaced sizes span e wide runs places → IsRunPlaced sizes span e wide r a → ArePlaced sizes span e wide (runs ++ r ∷ []) (places ++ a)
placed_more sizes span e wide [] places r a none placed = (a, [], ap (λ (t : List ℕ). t ++ a) none ∙ sym (append-nil a), placed, refl)
placed_more sizes span e wide (x ∷ xs) places r a before placed =
    let b = before.1 in
    (before.0, b ++ a, ap (λ (t : List ℕ). t ++ a) before.2 ∙ append_assoc before.0 b a, before.3, placed_more sizes span e wide xs b r a before.4 placed)

one_at : {A : Type 0} (f : A → A → A) (cells : List A) (d : A) (q : ℕ) (best : A) (start more : ℕ) → more ≡ 0 → gathered_at f cells d q best (one_or_two start more) ≡ f best (get_or cells (start + q) d)
one_at f cells d q best start more none = rw none refl

two_at : {A : Type 0} (f : A → A → A) (cells : List A) (d : A) (q : ℕ) (best : A) (start more : ℕ) → 0 < more → gathered_at f cells d q best (one_or_two start more) ≡ f (f best (get_or cells (start + q) d)) (get_or cells (start + more + q) d)
two_at f cells d q best start more some = rw (lt-ltb 0 more some) refl

-- the chords of a run give its extremum
pub placed_value : {A : Type 0} (f : A → A → A) → IsExtremum f → (cells lists : List A) (sizes : List ℕ) (span n : ℕ) → AreSizes sizes → AreGrown f cells lists sizes span n 0 → (d : A) (e : Extent) (wide count q : ℕ) (best : A) (r : Run) (places : List ℕ) → q < count
    → RunHasRoom e wide count n r → IsRunPlaced sizes span e wide r places → gathered_at f lists d q best places ≡ f best (run_extremum f cells d e wide q r)
placed_value f laws cells lists sizes span n chain grown d e wide count q best r places lt room placed =
    let j = placed.list in
    let s = get_or sizes j 0 in
    let start = start_of e wide r in
    let more = r.count - s in
    let some = size_some sizes chain j placed.inside in
    let within = placed.within in
    let twice = placed.twice in
    let fits = room.room in
    let first-at : j * span + start + q ≡ j * span + (start + q) = omega arith in
    let whole : more + (s - 1) ≡ r.count - 1 = omega (arith, some, within) in
    ap (gathered_at f lists d q best) placed.places_are
    ∙ elim (cases_lt 0 more) [
      | inl two ↦
          let second-at : j * span + start + more + q ≡ j * span + (start + q + more * 1) = omega arith in
          two_at f lists d q best (j * span + start) more two
          ∙ laws.associates best (get_or lists (j * span + start + q) d) (get_or lists (j * span + start + more + q) d)
          ∙ ap (λ (t : ℕ). f best (f (get_or lists t d) (get_or lists (j * span + start + more + q) d))) first-at
          ∙ ap (λ (t : ℕ). f best (f (get_or lists (j * span + (start + q)) d) (get_or lists t d))) second-at
          ∙ ap (λ (t : _). f best (f t (get_or lists (j * span + (start + q + more * 1)) d))) (grown_at f cells lists sizes span n chain grown j (start + q) d placed.inside (omega (arith, fits, lt, within, some)))
          ∙ ap (λ (t : _). f best (f (strided f cells d 1 (s - 1) (start + q)) t)) (grown_at f cells lists sizes span n chain grown j (start + q + more * 1) d placed.inside (omega (arith, fits, lt, within, some)))
          ∙ ap (f best) (strided-joined f laws cells d 1 more (s - 1) (s - 1) (start + q) (omega (arith, some, twice)) (omega arith))
          ∙ ap (λ (t : ℕ). f best (strided f cells d 1 t (start + q))) whole
      | inr one ↦
          let none : more ≡ 0 = omega (arith, one) in
          let all : s - 1 ≡ r.count - 1 = omega (arith, one, within) in
          one_at f lists d q best (j * span + start) more none
          ∙ ap (λ (t : ℕ). f best (get_or lists t d)) first-at
          ∙ ap (f best) (grown_at f cells lists sizes span n chain grown j (start + q) d placed.inside (omega (arith, fits, lt, within, some)))
          ∙ ap (λ (t : ℕ). f best (strided f cells d 1 t (start + q))) all
    ]

-- what lies below n does so with a value merged into it
keeps : {A : Type 0} (f : A → A → A) → IsExtremum f → (best n v : A) → f best n ≡ best → f (f best v) n ≡ f best v
keeps f laws best n v below = laws.associates best v n ∙ ap (f best) (laws.commutes v n) ∙ sym (laws.associates best n v) ∙ ap (λ (t : _). f t v) below

-- and those of all runs what they gather
pub placed_all : {A : Type 0} (f : A → A → A) → IsExtremum f → (cells lists : List A) (sizes : List ℕ) (span n : ℕ) → AreSizes sizes → AreGrown f cells lists sizes span n 0 → (d : A) (e : Extent) (wide count q : ℕ) → q < count → (best : A) → f best d ≡ best
    → (runs : List Run) (places : List ℕ) → AllByRecursion (RunHasRoom e wide count n) runs → ArePlaced sizes span e wide runs places → gathered_at f lists d q best places ≡ f best (gather f d (run_extremum f cells d e wide q) runs)
placed_all f laws cells lists sizes span n chain grown d e wide count q lt best below [] places all none = ap (gathered_at f lists d q best) none ∙ sym below
placed_all f laws cells lists sizes span n chain grown d e wide count q lt best below (r ∷ rs) places all placed =
    let a = placed.0 in
    let b = placed.1 in
    let v = run_extremum f cells d e wide q r in
    let rest = gather f d (run_extremum f cells d e wide q) rs in
    ap (gathered_at f lists d q best) placed.2
    ∙ fold-append (λ (x : _) (p : ℕ). f x (get_or lists (p + q) d)) best a b
    ∙ ap (λ (t : _). gathered_at f lists d q t b) (placed_value f laws cells lists sizes span n chain grown d e wide count q best r a lt all.0 placed.3)
    ∙ placed_all f laws cells lists sizes span n chain grown d e wide count q lt (f best v) (keeps f laws best d v below) rs b all.1 placed.4
    ∙ laws.associates best v rest

-- n is part of all that is gathered
pub below_gathered : {A : Type 0} (f : A → A → A) → IsExtremum f → (n : A) (value : Run → A) (runs : List Run) → f n (gather f n value runs) ≡ gather f n value runs
below_gathered f laws n value [] = laws.is_idempotent n
below_gathered f laws n value (r ∷ rs) =
    let rest = gather f n value rs in
    sym (laws.associates n (value r) rest)
    ∙ ap (λ (t : _). f t rest) (laws.commutes n (value r))
    ∙ laws.associates (value r) n rest
    ∙ ap (f (value r)) (below_gathered f laws n value rs)

-- the places lie in the lists
pub placed_fit : (sizes : List ℕ) (span n size : ℕ) → AreSizes sizes → n ≤ span → length sizes * span ≤ size → (e : Extent) (wide count : ℕ) (runs : List Run) (places : List ℕ) → AllByRecursion (RunHasRoom e wide count n) runs → ArePlaced sizes span e wide runs places
    → AllByRecursion (λ p. p + count ≤ size) places
placed_fit sizes span n size chain le room e wide count [] places all none = subst (AllByRecursion (λ p. p + count ≤ size)) (sym none) tt
placed_fit sizes span n size chain le room e wide count (r ∷ rs) places all placed =
    subst (AllByRecursion (λ p. p + count ≤ size)) (sym placed.2)
    (all-append (λ p. p + count ≤ size) placed.0 placed.1 (one_fits r placed.0 all.0 placed.3) (placed_fit sizes span n size chain le room e wide count rs placed.1 all.1 placed.4))
  where
    next : (a m : ℕ) → (a + 1) * m ≡ a * m + m
    next a m = omega arith

    each : (start more : ℕ) → start + more + count ≤ size → AllByRecursion (λ p. p + count ≤ size) (one_or_two start more)
    each start more fits = elim (cases_lt 0 more) [
      | inl some ↦ rw (lt-ltb 0 more some) (let e : start + count ≤ size = omega (arith, fits) in (e, (fits, tt)))
      | inr none ↦ rw (le-ltb 0 more none) (let e : start + count ≤ size = omega (arith, fits) in (e, tt))
    ]

    one_fits : (r : Run) (a : List ℕ) → RunHasRoom e wide count n r → IsRunPlaced sizes span e wide r a → AllByRecursion (λ p. p + count ≤ size) a
    one_fits r a has placed =
        let j = placed.list in
        let s = get_or sizes j 0 in
        let some = size_some sizes chain j placed.inside in
        let within = placed.within in
        let fits = has.room in
        let rows = rows_le (j + 1) (length sizes) span (omega (arith, placed.inside)) in
        subst (AllByRecursion (λ p. p + count ≤ size)) (sym placed.places_are)
        (each (j * span + start_of e wide r) (r.count - s) (omega (arith, fits, some, within, rows, next j span, le, room)))
