-- What leaves and what enters where the element moves one column on.
use Rattle.std.proofs.Common.{◌≡◌, ◌-◌, ℕ, zero, suc, ◌+◌, ◌<◌, List, [], ◌∷◌, ◌++◌, length, get_or, take, drop, ap, sym, arith, ◌∙◌, length-append, subst, append-nil}
use Rattle.std.specs.List.{flat_map}
use Rattle.std.proofs.lemmas.List.{take_more, drop_more}
use Rattle.std.proofs.lemmas.List.Concat.{flat_map-append, flat_map-cons}
use Rattle.mw_model.specs.declared.offsets.Offset.{Offset}
use Rattle.mw_model.specs.Rasters.{Sight}
use Rattle.mw_rank.specs.declared.histogram.Histogram.{Histogram}
use Rattle.mw_element_runs.specs.declared.runs.Run.{Run}
use Rattle.mw_element_runs.specs.Runs.{start_offset}
use Rattle.mw_rank.specs.Ranks.{levels_under, levels_at}
use Rattle.mw_rank.specs.Runs.{next_offset, offsets_from, offsets_of_run, element_of}
use Rattle.mw_rank.specs.Tallies.{Tallies}
use Rattle.mw_rank.proofs.Counts.{Same, count-append}
use Rattle.mw_rank.proofs.Sights.{levels-cons, levels-append, length-levels, offsets-snoc, length-offsets, levels_at-on, levels-next}

-- what is seen both before and after the move of run i
abbrev pub staying : {A : Type 0} → (A → ℕ) → Sight A → List Run → ℕ → Run → ℕ → ℕ → List ℕ
staying level sight runs i r x y =
    levels_under level sight (element_of (take i runs)) (x + 1) y ++ (levels_under level sight (offsets_from (start_offset r) (r.count - 1)) (x + 1) y ++ levels_under level sight (element_of (drop (i + 1) runs)) x y)

-- what is seen where the first i runs have moved
abbrev pub moved : {A : Type 0} → (A → ℕ) → Sight A → List Run → ℕ → ℕ → ℕ → List ℕ
moved level sight runs i x y = levels_under level sight (element_of (take i runs)) (x + 1) y ++ levels_under level sight (element_of (drop i runs)) x y

same_first : (a b c d : List ℕ) → Same (a ++ ((b ++ c) ++ d)) (b ++ (a ++ (c ++ d)))
same_first a b c d = record {
  counts = λ v.
      omega (
        arith,
        count-append v a ((b ++ c) ++ d),
        count-append v (b ++ c) d,
        count-append v b c,
        count-append v b (a ++ (c ++ d)),
        count-append v a (c ++ d),
        count-append v c d,
      );
  size = omega (arith, length-append a ((b ++ c) ++ d), length-append (b ++ c) d, length-append b c, length-append b (a ++ (c ++ d)), length-append a (c ++ d), length-append c d);
}

same_last : (a c d e : List ℕ) → Same (e ++ (a ++ (c ++ d))) ((a ++ (c ++ e)) ++ d)
same_last a c d e = record {
  counts = λ v.
      omega (
        arith,
        count-append v e (a ++ (c ++ d)),
        count-append v a (c ++ d),
        count-append v c d,
        count-append v (a ++ (c ++ e)) d,
        count-append v a (c ++ e),
        count-append v c e,
      );
  size = omega (arith, length-append e (a ++ (c ++ d)), length-append a (c ++ d), length-append c d, length-append (a ++ (c ++ e)) d, length-append a (c ++ e), length-append c e);
}

pub same_snoc : (a e : List ℕ) → Same (e ++ a) (a ++ e)
same_snoc a e = record { counts = λ v. omega (arith, count-append v e a, count-append v a e); size = omega (arith, length-append e a, length-append a e) }

pub run_before : {A : Type 0} (level : A → ℕ) (sight : Sight A) (r : Run) (x y : ℕ) → levels_under level sight (offsets_of_run r) x y ≡ levels_at level sight (start_offset r) x y ++ levels_under level sight (offsets_from (start_offset r) (r.count - 1)) (x + 1) y
run_before level sight r x y =
    levels-cons level sight (start_offset r) (offsets_from (next_offset (start_offset r)) (r.count - 1)) x y ∙ ap (λ (t : List ℕ). levels_at level sight (start_offset r) x y ++ t) (levels-next level sight (start_offset r) (r.count - 1) x y)

pub run_after : {A : Type 0} (level : A → ℕ) (sight : Sight A) (r : Run) (x y : ℕ) → levels_under level sight (offsets_of_run r) (x + 1) y ≡ levels_under level sight (offsets_from (start_offset r) (r.count - 1)) (x + 1) y ++ levels_at level sight (start_offset r) (x + 1 + (r.count - 1)) y
run_after level sight r x y =
    ap (λ (t : List Offset). levels_under level sight t (x + 1) y) (offsets-snoc (start_offset r) (r.count - 1))
    ∙ levels-append level sight (offsets_from (start_offset r) (r.count - 1)) (_ ∷ []) (x + 1) y
    ∙ ap (λ (t : List ℕ). levels_under level sight (offsets_from (start_offset r) (r.count - 1)) (x + 1) y ++ t)
    (levels-cons level sight _ [] (x + 1) y ∙ append-nil _ ∙ levels_at-on level sight (start_offset r) (r.count - 1) (x + 1) y)

pub levels-leaving : {A : Type 0} (level : A → ℕ) (sight : Sight A) (runs : List Run) (i : ℕ) (r : Run) (x y : ℕ) → i < length runs → get_or runs i r ≡ r
    → Same (moved level sight runs i x y) (levels_at level sight (start_offset r) x y ++ staying level sight runs i r x y)
levels-leaving level sight runs i r x y lt is =
    let rest = element_of (drop (i + 1) runs) in
    let split : levels_under level sight (element_of (drop i runs)) x y ≡ (levels_at level sight (start_offset r) x y ++ levels_under level sight (offsets_from (start_offset r) (r.count - 1)) (x + 1) y) ++ levels_under level sight rest x y =
    ap (λ (t : List Run). levels_under level sight (element_of t) x y) (drop_more runs i r lt)
    ∙ ap (λ (t : Run). levels_under level sight (element_of (t ∷ drop (i + 1) runs)) x y) is
    ∙ ap (λ (t : List Offset). levels_under level sight t x y) (flat_map-cons offsets_of_run r (drop (i + 1) runs))
    ∙ levels-append level sight (offsets_of_run r) rest x y
    ∙ ap (λ (t : List ℕ). t ++ levels_under level sight rest x y) (run_before level sight r x y) in
    subst (λ (t : List ℕ). Same (levels_under level sight (element_of (take i runs)) (x + 1) y ++ t) (levels_at level sight (start_offset r) x y ++ staying level sight runs i r x y)) (sym split)
    (same_first (levels_under level sight (element_of (take i runs)) (x + 1) y) (levels_at level sight (start_offset r) x y) (levels_under level sight (offsets_from (start_offset r) (r.count - 1)) (x + 1) y) (levels_under level sight rest x y))

pub levels-entering : {A : Type 0} (level : A → ℕ) (sight : Sight A) (runs : List Run) (i : ℕ) (r : Run) (x y : ℕ) → i < length runs → get_or runs i r ≡ r
    → Same (levels_at level sight (start_offset r) (x + 1 + (r.count - 1)) y ++ staying level sight runs i r x y) (moved level sight runs (i + 1) x y)
levels-entering level sight runs i r x y lt is =
    let first = element_of (take i runs) in
    let e = levels_at level sight (start_offset r) (x + 1 + (r.count - 1)) y in
    let split : levels_under level sight (element_of (take (i + 1) runs)) (x + 1) y ≡ levels_under level sight first (x + 1) y ++ (levels_under level sight (offsets_from (start_offset r) (r.count - 1)) (x + 1) y ++ e) =
    ap (λ (t : List Run). levels_under level sight (element_of t) (x + 1) y) (take_more runs i r lt ∙ ap (λ (t : Run). take i runs ++ t ∷ []) is)
    ∙ ap (λ (t : List Offset). levels_under level sight t (x + 1) y) (flat_map-append offsets_of_run (take i runs) (r ∷ []) ∙ ap (λ (t : List Offset). first ++ t) (one_run r))
    ∙ levels-append level sight first (offsets_of_run r) (x + 1) y
    ∙ ap (λ (t : List ℕ). levels_under level sight first (x + 1) y ++ t) (run_after level sight r x y) in
    subst (λ (t : List ℕ). Same (e ++ staying level sight runs i r x y) (t ++ levels_under level sight (element_of (drop (i + 1) runs)) x y)) (sym split)
    (same_last (levels_under level sight first (x + 1) y) (levels_under level sight (offsets_from (start_offset r) (r.count - 1)) (x + 1) y) (levels_under level sight (element_of (drop (i + 1) runs)) x y) e)
  where
    one_run : (r : Run) → flat_map offsets_of_run (r ∷ []) ≡ offsets_of_run r
    one_run r = flat_map-cons offsets_of_run r [] ∙ append-nil (offsets_of_run r)

element_cons : (q : Run) (runs : List Run) → length (element_of (q ∷ runs)) ≡ suc (q.count - 1) + length (element_of runs)
element_cons q runs = ap length (flat_map-cons offsets_of_run q runs) ∙ length-append (offsets_of_run q) (element_of runs) ∙ ap (λ (t : ℕ). t + length (element_of runs)) (length-offsets (start_offset q) (suc (q.count - 1)))

pub element_size : (runs : List Run) (i : ℕ) (r : Run) → i < length runs → get_or runs i r ≡ r → length (element_of runs) ≡ length (element_of (take i runs)) + (suc (r.count - 1) + length (element_of (drop (i + 1) runs)))
element_size [] i r lt is = absurd (omega arith)
element_size (q ∷ runs) zero r lt is = omega (arith, element_cons q runs, ap (λ (t : Run). t.count) is)
element_size (q ∷ runs) (suc i) r lt is =
    let later : length (element_of (drop (suc i + 1) (q ∷ runs))) ≡ length (element_of (drop (i + 1) runs)) = ap (λ (n : ℕ). length (element_of (drop n (q ∷ runs)))) (one_on i) in
    omega (arith, later, element_cons q runs, element_cons q (take i runs), element_size runs i r (omega arith) is)
  where
    one_on : (i : ℕ) → suc i + 1 ≡ suc (i + 1)
    one_on i = omega arith

pub more_within : (runs : List Run) (i : ℕ) (r : Run) → i < length runs → get_or runs i r ≡ r → (r.count - 1) < length (element_of runs)
more_within runs i r lt is = omega (arith, element_size runs i r lt is)

pub length-staying : {A : Type 0} (level : A → ℕ) (sight : Sight A) (runs : List Run) (i : ℕ) (r : Run) (x y : ℕ) → i < length runs → get_or runs i r ≡ r
    → length (staying level sight runs i r x y) < length (element_of runs)
length-staying level sight runs i r x y lt is =
    let first = element_of (take i runs) in
    let rest = element_of (drop (i + 1) runs) in
    let whole : length (element_of runs) ≡ length first + (suc (r.count - 1) + length rest) = element_size runs i r lt is in
    omega (
      arith,
      whole,
      length-levels level sight first (x + 1) y,
      length-levels level sight rest x y,
      length-levels level sight (offsets_from (start_offset r) (r.count - 1)) (x + 1) y,
      length-offsets (start_offset r) (r.count - 1),
      length-append (levels_under level sight first (x + 1) y) (levels_under level sight (offsets_from (start_offset r) (r.count - 1)) (x + 1) y ++ levels_under level sight rest x y),
      length-append (levels_under level sight (offsets_from (start_offset r) (r.count - 1)) (x + 1) y) (levels_under level sight rest x y),
    )

pub tallies_at : {A : Type 0} (level : A → ℕ) (sight : Sight A) (bs : List Offset) (a b y top : ℕ) (h : Histogram) → a ≡ b → Tallies top h (levels_under level sight bs a y) → Tallies top h (levels_under level sight bs b y)
tallies_at level sight bs a b y top h e t = subst (λ (v : ℕ). Tallies top h (levels_under level sight bs v y)) e t

pub element_snoc : (runs : List Run) (run : Run) → element_of (runs ++ run ∷ []) ≡ element_of runs ++ offsets_of_run run
element_snoc runs run = flat_map-append offsets_of_run runs (run ∷ []) ∙ ap (λ (t : List Offset). element_of runs ++ t) (flat_map-cons offsets_of_run run [] ∙ append-nil (offsets_of_run run))

-- the tallies from an offset under another name
pub tallies_from : {A : Type 0} (level : A → ℕ) (sight : Sight A) (b start : Offset) (x y top : ℕ) (h : Histogram) (ns : List ℕ) → b ≡ start → Tallies top h (levels_at level sight start x y ++ ns) → Tallies top h (levels_at level sight b x y ++ ns)
tallies_from level sight b start x y top h ns e t = subst (λ (o : Offset). Tallies top h (levels_at level sight o x y ++ ns)) (sym e) t
