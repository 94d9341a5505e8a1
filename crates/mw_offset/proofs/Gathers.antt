-- Runs, the shorter ones first.
use Rattle.std.proofs.Common.{◌≡◌, ◌⊎◌, ℕ, ◌+◌, ◌-◌, ◌*◌, ◌<◌, ◌≤◌, List, [], ◌∷◌, length, get_or, fold, cond, ltb, refl, ap, sym, arith, ◌∙◌, inl, inr}
use Rattle.std.specs.List.{AllByRecursion}
use Rattle.std.proofs.lemmas.Bool.{cases_lt, lt-ltb, le-ltb, le-leb, lt-leb}
use Rattle.mw_model.proofs.mw_facts.Alls.{all-weaker}
use Rattle.mw_line.specs.Extrema.{strided}
use Rattle.mw_line.proofs.Folds.{IsExtremum}
use Rattle.mw_line.proofs.Joined.{strided-joined}
use Rattle.mw_element_runs.specs.declared.runs.Run.{Run}
use Rattle.mw_element_runs.specs.declared.runs.Extent.{Extent}
use Rattle.mw_element_runs.specs.Runs.{start_of, RunHasRoom, sized, two_parts, gather}
use Rattle.mw_offset.specs.MergedAt.{run_extremum, sized_below}

-- what the runs of less than b offsets give
abbrev pub gather_below : {A : Type 0} → (A → A → A) → A → (Run → A) → ℕ → List Run → A
gather_below f n value b [] = n
gather_below f n value b (r ∷ rs) = cond (ltb r.count b) (f (value r) (gather_below f n value b rs)) (gather_below f n value b rs)

-- a run that is merged as a whole
abbrev pub one_run : {A : Type 0} → (A → A → A) → (Run → A) → A → Run → A
one_run f value best r = f best (value r)

pub gather_below-taken : {A : Type 0} (f : A → A → A) (n : A) (value : Run → A) (b : ℕ) (r : Run) (rs : List Run) → r.count < b → gather_below f n value b (r ∷ rs) ≡ f (value r) (gather_below f n value b rs)
gather_below-taken f n value b r rs lt = rw (lt-ltb r.count b lt) refl

pub gather_below-passed : {A : Type 0} (f : A → A → A) (n : A) (value : Run → A) (b : ℕ) (r : Run) (rs : List Run) → b ≤ r.count → gather_below f n value b (r ∷ rs) ≡ gather_below f n value b rs
gather_below-passed f n value b r rs le = rw (le-ltb r.count b le) refl

pub none_below_one : {A : Type 0} (f : A → A → A) (n : A) (value : Run → A) (runs : List Run) → AllByRecursion (λ (r : Run). 0 < r.count) runs → gather_below f n value 1 runs ≡ n
none_below_one f n value [] all = refl
none_below_one f n value (r ∷ rs) all = gather_below-passed f n value 1 r rs (omega (arith, all.0)) ∙ none_below_one f n value rs all.1

pub all_below : {A : Type 0} (f : A → A → A) (n : A) (value : Run → A) (b : ℕ) (runs : List Run) → AllByRecursion (λ (r : Run). r.count < b) runs → gather_below f n value b runs ≡ gather f n value runs
all_below f n value b [] all = refl
all_below f n value b (r ∷ rs) all = gather_below-taken f n value b r rs all.0 ∙ ap (f (value r)) (all_below f n value b rs all.1)

sized_in : {A : Type 0} (s t : ℕ) (step : A → Run → A) (best : A) (r : Run) → s ≤ r.count → r.count < t → sized_below s t step best r ≡ step best r
sized_in s t step best r from to = rw (le-leb s r.count from, lt-ltb r.count t to) refl

sized_under : {A : Type 0} (s t : ℕ) (step : A → Run → A) (best : A) (r : Run) → r.count < s → sized_below s t step best r ≡ best
sized_under s t step best r lt = rw (lt-leb s r.count lt) refl

sized_above : {A : Type 0} (s t : ℕ) (step : A → Run → A) (best : A) (r : Run) → s ≤ r.count → t ≤ r.count → sized_below s t step best r ≡ best
sized_above s t step best r from above = rw (le-leb s r.count from, le-ltb r.count t above) refl

-- a value that stands before what is gathered
pub fold_sized_out : {A : Type 0} (f : A → A → A) → IsExtremum f → (value : Run → A) (s t : ℕ) (a b : A) (runs : List Run) → fold (sized_below s t (one_run f value)) (f a b) runs ≡ f a (fold (sized_below s t (one_run f value)) b runs)
fold_sized_out f laws value s t a b [] = refl
fold_sized_out f laws value s t a b (r ∷ rs) =
    ap (λ (z : _). fold (sized_below s t (one_run f value)) z rs) (step_out (cases_lt r.count s)) ∙ fold_sized_out f laws value s t a (sized_below s t (one_run f value) b r) rs
  where
    step_out : (r.count < s) ⊎ (s ≤ r.count) → sized_below s t (one_run f value) (f a b) r ≡ f a (sized_below s t (one_run f value) b r)
    step_out (inl less) = sized_under s t (one_run f value) (f a b) r less ∙ ap (f a) (sym (sized_under s t (one_run f value) b r less))
    step_out (inr from) = elim (cases_lt r.count t) [
      | inl to ↦ sized_in s t (one_run f value) (f a b) r from to ∙ laws.associates a b (value r) ∙ ap (f a) (sym (sized_in s t (one_run f value) b r from to))
      | inr above ↦ sized_above s t (one_run f value) (f a b) r from above ∙ ap (f a) (sym (sized_above s t (one_run f value) b r from above))
    ]

-- the runs of s offsets and more, and less than t, beside the shorter ones
pub gather_more : {A : Type 0} (f : A → A → A) → IsExtremum f → (n : A) (value : Run → A) (s t : ℕ) → s ≤ t → (runs : List Run)
    → fold (sized_below s t (one_run f value)) (gather_below f n value s runs) runs ≡ gather_below f n value t runs
gather_more f laws n value s t le [] = refl
gather_more f laws n value s t le (r ∷ rs) = by_cases (gather_more f laws n value s t le rs) (cases_lt r.count s)
  where
    by_cases : fold (sized_below s t (one_run f value)) (gather_below f n value s rs) rs ≡ gather_below f n value t rs → (r.count < s) ⊎ (s ≤ r.count)
        → fold (sized_below s t (one_run f value)) (sized_below s t (one_run f value) (gather_below f n value s (r ∷ rs)) r) rs ≡ gather_below f n value t (r ∷ rs)
    by_cases more (inl less) =
        ap (λ (z : _). fold (sized_below s t (one_run f value)) z rs) (sized_under s t (one_run f value) (gather_below f n value s (r ∷ rs)) r less ∙ gather_below-taken f n value s r rs less)
        ∙ fold_sized_out f laws value s t (value r) (gather_below f n value s rs) rs
        ∙ ap (f (value r)) more
        ∙ sym (gather_below-taken f n value t r rs (omega arith))
    by_cases more (inr from) = elim (cases_lt r.count t) [
      | inl to ↦
          ap (λ (z : _). fold (sized_below s t (one_run f value)) z rs) (sized_in s t (one_run f value) (gather_below f n value s (r ∷ rs)) r from to ∙ ap (λ (z : _). f z (value r)) (gather_below-passed f n value s r rs from) ∙ laws.commutes (gather_below f n value s rs) (value r))
          ∙ fold_sized_out f laws value s t (value r) (gather_below f n value s rs) rs
          ∙ ap (f (value r)) more
          ∙ sym (gather_below-taken f n value t r rs to)
      | inr above ↦
          ap (λ (z : _). fold (sized_below s t (one_run f value)) z rs) (sized_above s t (one_run f value) (gather_below f n value s (r ∷ rs)) r from above ∙ gather_below-passed f n value s r rs from)
          ∙ more
          ∙ sym (gather_below-passed f n value t r rs above)
    ]

-- what is known of the doubled cells
pub record IsDoubled {A : Type 0} (f : A → A → A) (cells doubled : List A) (s : ℕ) : Type 0 where
  pub positive : 0 < s
  pub size : length doubled ≡ length cells
  pub done : (p : ℕ) (d : A) → p + s ≤ length cells → get_or doubled p d ≡ strided f cells d 1 (s - 1) p

-- two parts make up a run
pub parts_make_run : {A : Type 0} (f : A → A → A) → IsExtremum f → (cells doubled : List A) (s : ℕ) → IsDoubled f cells doubled s → (n : A) (e : Extent) (wide count q : ℕ) (best : A) (r : Run) → q < count → RunHasRoom e wide count (length cells) r
    → s ≤ r.count → r.count < 2 * s → two_parts f doubled n e wide s q best r ≡ f best (strided f cells n 1 (r.count - 1) (start_of e wide r + q))
parts_make_run f laws cells doubled s known n e wide count q best r lt room from to =
    let start = start_of e wide r in
    let j = r.count - s in
    let place : start + j + q ≡ start + q + j * 1 = omega arith in
    let whole : j + (s - 1) ≡ r.count - 1 = omega (arith, known.positive) in
    laws.associates best (get_or doubled (start + q) n) (get_or doubled (start + j + q) n)
    ∙ ap (f best) (
    ap (λ (t : _). f t (get_or doubled (start + j + q) n)) (known.done (start + q) n (omega (arith, room.room)))
    ∙ ap (f (strided f cells n 1 (s - 1) (start + q))) (known.done (start + j + q) n (omega (arith, room.room)) ∙ ap (strided f cells n 1 (s - 1)) place)
    ∙ strided-joined f laws cells n 1 j (s - 1) (s - 1) (start + q) (omega (arith, known.positive)) (omega arith)
    ∙ ap (λ (t : ℕ). strided f cells n 1 t (start + q)) whole)

pub fold_parts : {A : Type 0} (f : A → A → A) → IsExtremum f → (cells doubled : List A) (s t : ℕ) → IsDoubled f cells doubled s → t ≤ 2 * s → (n : A) (e : Extent) (wide count q : ℕ) → q < count → (best : A) (runs : List Run)
    → AllByRecursion (RunHasRoom e wide count (length cells)) runs
    → fold (sized_below s t (two_parts f doubled n e wide s q)) best runs ≡ fold (sized_below s t (one_run f (λ r. strided f cells n 1 (r.count - 1) (start_of e wide r + q)))) best runs
fold_parts f laws cells doubled s t known twice n e wide count q lt best [] all = refl
fold_parts f laws cells doubled s t known twice n e wide count q lt best (r ∷ rs) all =
    ap (λ (z : _). fold (sized_below s t (two_parts f doubled n e wide s q)) z rs) (step (cases_lt r.count s))
    ∙ fold_parts f laws cells doubled s t known twice n e wide count q lt (sized_below s t (one_run f (λ r. strided f cells n 1 (r.count - 1) (start_of e wide r + q))) best r) rs all.1
  where
    step : (r.count < s) ⊎ (s ≤ r.count) → sized_below s t (two_parts f doubled n e wide s q) best r ≡ sized_below s t (one_run f (λ r. strided f cells n 1 (r.count - 1) (start_of e wide r + q))) best r
    step (inl less) = sized_under s t (two_parts f doubled n e wide s q) best r less ∙ sym (sized_under s t (one_run f (λ r. strided f cells n 1 (r.count - 1) (start_of e wide r + q))) best r less)
    step (inr from) = elim (cases_lt r.count t) [
      | inl to ↦
          sized_in s t (two_parts f doubled n e wide s q) best r from to
          ∙ parts_make_run f laws cells doubled s known n e wide count q best r lt all.0 from (omega arith)
          ∙ sym (sized_in s t (one_run f (λ r. strided f cells n 1 (r.count - 1) (start_of e wide r + q))) best r from to)
      | inr above ↦
          sized_above s t (two_parts f doubled n e wide s q) best r from above ∙ sym (sized_above s t (one_run f (λ r. strided f cells n 1 (r.count - 1) (start_of e wide r + q))) best r from above)
    ]

-- cells that are merged with those `shift` further on
pub grown_more : {A : Type 0} (f : A → A → A) → IsExtremum f → (cells doubled made : List A) (s shift left : ℕ) → IsDoubled f cells doubled s → shift ≤ s → s + shift ≤ length cells → left ≡ length cells - (s + shift) + 1 → length made ≡ length doubled
    → ((p : ℕ) (d : A) → p < left → get_or made p d ≡ f (get_or doubled p d) (get_or doubled (p + shift) d)) → IsDoubled f cells made (s + shift)
grown_more f laws cells doubled made s shift left known short room left-is size made-is = record {
  positive = omega (arith, known.positive);
  size = size ∙ known.size;
  done = λ p d le.
      made-is p d (omega arith)
      ∙ ap (λ (t : _). f t (get_or doubled (p + shift) d)) (known.done p d (omega arith))
      ∙ ap (f (strided f cells d 1 (s - 1) p)) (known.done (p + shift) d (omega arith) ∙ ap (strided f cells d 1 (s - 1)) (place p shift))
      ∙ strided-joined f laws cells d 1 shift (s - 1) (s - 1) p (omega (arith, known.positive)) (omega arith)
      ∙ ap (λ (t : ℕ). strided f cells d 1 t p) (whole known.positive);
}
  where
    place : (p s : ℕ) → p + s ≡ p + s * 1
    place p s = omega arith

    whole : 0 < s → shift + (s - 1) ≡ s + shift - 1
    whole some = omega arith

-- cells that are doubled once more
pub doubled_more : {A : Type 0} (f : A → A → A) → IsExtremum f → (cells doubled made : List A) (s left : ℕ) → IsDoubled f cells doubled s → 2 * s ≤ length cells → left ≡ length cells - 2 * s + 1 → length made ≡ length doubled
    → ((p : ℕ) (d : A) → p < left → get_or made p d ≡ f (get_or doubled p d) (get_or doubled (p + s) d)) → IsDoubled f cells made (s * 2)
doubled_more f laws cells doubled made s left known room left-is size made-is =
    let twice : s + s ≡ s * 2 = omega arith in
    rw twice at (grown_more f laws cells doubled made s s left known (omega arith) (omega arith) (omega arith) size made-is)

pub none_gathered : {A : Type 0} (f : A → A → A) (n : A) (value : Run → A) (e : Extent) (wide count cells : ℕ) (runs : List Run) → AllByRecursion (RunHasRoom e wide count cells) runs → n ≡ gather_below f n value 1 runs
none_gathered f n value e wide count cells runs rooms =
    sym (none_below_one f n value runs (all-weaker (RunHasRoom e wide count cells) (λ (r : Run). 0 < r.count) runs (λ r room. room.inside.run.some) rooms))

-- the runs of s offsets and more, and less than t, are merged by two parts each
pub gathered_between : {A : Type 0} (f : A → A → A) → IsExtremum f → (cells doubled : List A) (s t : ℕ) → IsDoubled f cells doubled s → s ≤ t → t ≤ 2 * s → (n : A) (e : Extent) (wide count q : ℕ) → q < count → (best made : A) (runs : List Run)
    → AllByRecursion (RunHasRoom e wide count (length cells)) runs → made ≡ fold (sized_below s t (two_parts f doubled n e wide s q)) best runs → best ≡ gather_below f n (run_extremum f cells n e wide q) s runs
    → made ≡ gather_below f n (run_extremum f cells n e wide q) t runs
gathered_between f laws cells doubled s t known more twice n e wide count q lt best made runs rooms made-is best-is =
    made-is
    ∙ fold_parts f laws cells doubled s t known twice n e wide count q lt best runs rooms
    ∙ ap (λ (z : _). fold (sized_below s t (one_run f (run_extremum f cells n e wide q))) z runs) best-is
    ∙ gather_more f laws n (run_extremum f cells n e wide q) s t more runs

-- those of s to 2 * s - 1 offsets
pub gathered_more : {A : Type 0} (f : A → A → A) → IsExtremum f → (cells doubled : List A) (s : ℕ) → IsDoubled f cells doubled s → (n : A) (e : Extent) (wide count q : ℕ) → q < count → (best made : A) (runs : List Run)
    → AllByRecursion (RunHasRoom e wide count (length cells)) runs → made ≡ fold (sized s (two_parts f doubled n e wide s q)) best runs → best ≡ gather_below f n (run_extremum f cells n e wide q) s runs
    → made ≡ gather_below f n (run_extremum f cells n e wide q) (2 * s) runs
gathered_more f laws cells doubled s known n e wide count q lt best made runs rooms made-is best-is =
    gathered_between f laws cells doubled s (2 * s) known (omega arith) (omega arith) n e wide count q lt best made runs rooms made-is best-is
