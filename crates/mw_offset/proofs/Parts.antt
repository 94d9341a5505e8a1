-- Parts of runs, merged at their places.
use Rattle.std.proofs.Common.{◌≡◌, ℕ, ◌+◌, ◌-◌, ◌<◌, ◌≤◌, Bool, true, false, List, [], ◌∷◌, ◌++◌, length, take, drop, get_or, fold, flat_map, refl, ap, sym, arith, ◌∙◌, append-nil, inl, inr}
use Rattle.std.specs.List.{AllByRecursion}
use Rattle.std.specs.Prelude.{nat_le, nat_lt, ◌&&◌, if◌then◌else◌}
use Rattle.std.proofs.lemmas.Bool.{cases_lt, ltb-false}
use Rattle.std.proofs.lemmas.List.{take_more, get_or_default, get_or_append_left, get_or-take, get_or-drop}
use Rattle.std.proofs.lemmas.List.Concat.{flat_map-append, flat_map-cons}
use Rattle.std.proofs.lemmas.List.Sums.{fold-append}
use Rattle.mw_model.proofs.mw_facts.Alls.{all-append}
use Rattle.mw_model.proofs.mw_facts.Parts.{get_or-put_mid_below, get_or-put_mid_within}
use Rattle.mw_line.proofs.Folds.{IsExtremum}
use Rattle.mw_element_runs.specs.declared.runs.Run.{Run}
use Rattle.mw_element_runs.specs.declared.runs.Extent.{Extent}
use Rattle.mw_offset.proofs.Rooms.{merged_again}
use Rattle.mw_offset.specs.MergedAt.{merge_from, places_of, sized_below}
use Rattle.mw_element_runs.specs.Runs.{start_of, RunHasRoom, two_parts}
use borrow.Rule.Slice.PartMut.{put_mid}

-- the samples below `at` have their values, and the others are as they were
pub record PartsDone {A : Type 0} (value : A → ℕ → A → A) (at : ℕ) (old out : List A) : Type 0 where
  pub within : at ≤ length old
  pub size : length out ≡ length old
  pub done : (q : ℕ) (d : A) → q < at → get_or out q d ≡ value d q (get_or old q d)
  pub rest : (q : ℕ) (d : A) → at ≤ q → get_or out q d ≡ get_or old q d

pub parts_none : {A : Type 0} (value : A → ℕ → A → A) (old : List A) → PartsDone value 0 old old
parts_none value old = record { within = omega arith; size = refl; done = λ q d lt. absurd (omega arith); rest = λ q d le. refl }

absorbed : {A : Type 0} (f : A → A → A) → IsExtremum f → (cells : List A) (d : A) (q : ℕ) (best x : A) (places : List ℕ)
    → f (fold (merge_from f cells d q) (f best x) places) x ≡ fold (merge_from f cells d q) (f best x) places
absorbed f laws cells d q best x [] = merged_again f laws best x
absorbed f laws cells d q best x (p ∷ ps) =
    let y = get_or cells (p + q) d in
    let turned : f (f best x) y ≡ f (f best y) x = laws.associates best x y ∙ ap (f best) (laws.commutes x y) ∙ sym (laws.associates best y x) in
    ap (λ (t : _). f (fold (merge_from f cells d q) t ps) x) turned ∙ absorbed f laws cells d q (f best y) x ps ∙ ap (λ (t : _). fold (merge_from f cells d q) t ps) (sym turned)

-- what is merged twice at the same places is merged once
pub merged_twice : {A : Type 0} (f : A → A → A) → IsExtremum f → (cells : List A) (d : A) (q : ℕ) (best : A) (places : List ℕ)
    → fold (merge_from f cells d q) (fold (merge_from f cells d q) best places) places ≡ fold (merge_from f cells d q) best places
merged_twice f laws cells d q best [] = refl
merged_twice f laws cells d q best (p ∷ ps) =
    let x = get_or cells (p + q) d in
    ap (λ (t : _). fold (merge_from f cells d q) t ps) (absorbed f laws cells d q best x ps) ∙ merged_twice f laws cells d q (f best x) ps

-- the last samples, of which some had their values before
pub last_done : {A : Type 0} (value : A → ℕ → A → A) (at start m : ℕ) (old out made : List A) → ((d : A) (q : ℕ) (a : A) → value d q (value d q a) ≡ value d q a) → start ≤ at → length old ≡ start + m → length made ≡ m
    → ((q : ℕ) (d : A) → q < m → get_or made q d ≡ value d (start + q) (get_or (take m (drop start out)) q d))
    → PartsDone value at old out → (q : ℕ) (d : A) → q < length old → get_or (put_mid start m out made) q d ≡ value d q (get_or old q d)
last_done value at start m old out made again le size len made-is before q d lt =
    elim (cases_lt q start) [
      | inl earlier ↦ get_or-put_mid_below start m out made q d room earlier ∙ before.done q d (omega arith)
      | inr from ↦
          let here : start + (q - start) ≡ q = omega arith in
          get_or-put_mid_within start m out made q d room from (omega arith)
          ∙ made-is (q - start) d (omega arith)
          ∙ ap (value d (start + (q - start))) (get_or-take m (drop start out) (q - start) d (omega arith) ∙ get_or-drop start out (q - start) d)
          ∙ ap (λ (t : ℕ). value d t (get_or out t d)) here
          ∙ elim (cases_lt q at) [
            | inl done ↦ ap (value d q) (before.done q d done) ∙ again d q (get_or old q d)
            | inr rest ↦ ap (value d q) (before.rest q d rest)
          ]
    ]
  where
    room : start ≤ length out
    room = omega (arith, before.size)

-- what holds of the values that stand there holds whatever stands for those that do not
pub any_default : {A : Type 0} (value : A → A) (made part : List A) (x : ℕ) (d e : A) → x < length made → x < length part → get_or made x d ≡ value (get_or part x d) → get_or made x e ≡ value (get_or part x e)
any_default value made part x d e lt less is = get_or_default made x e d lt ∙ is ∙ ap value (get_or_default part x d e less)

-- the front of a list that was written over
pub front_kept : {A : Type 0} (f : A → ℕ → A) (places : List ℕ) (front back rest : List A) (q : ℕ) (d : A) → front ≡ rest → q < length rest → fold f (get_or (front ++ back) q d) places ≡ fold f (get_or rest q d) places
front_kept f places front back rest q d same lt =
    ap (λ (t : _). fold f t places) (get_or_append_left front back d q (omega (arith, ap length same)) ∙ ap (λ (t : List _). get_or t q d) same)

pub fold_taken : {A B : Type 0} (f : A → B → A) (best : A) (xs : List B) (j : ℕ) (d : B) → j < length xs → fold f best (take (j + 1) xs) ≡ f (fold f best (take j xs)) (get_or xs j d)
fold_taken f best xs j d lt = ap (fold f best) (take_more xs j d lt) ∙ fold-append f best (take j xs) (get_or xs j d ∷ [])

-- one place more is merged into a block
pub merged_more : {A : Type 0} (f : A → A → A) (cells : List A) (d : A) (at q j place : ℕ) (places : List ℕ) (best found made : A) → j < length places → place ≡ get_or places j 0 → found ≡ fold (merge_from f cells d (at + q)) best (take j places)
    → made ≡ f found (get_or cells (place + at + q) d) → made ≡ fold (merge_from f cells d (at + q)) best (take (j + 1) places)
merged_more f cells d at q j place places best found made lt place-is found-is made-is =
    made-is
    ∙ ap (λ (t : _). f t (get_or cells (place + at + q) d)) found-is
    ∙ ap (λ (t : ℕ). f (fold (merge_from f cells d (at + q)) best (take j places)) (get_or cells t d)) (let on : place + at + q ≡ place + (at + q) = omega arith in on)
    ∙ ap (λ (t : ℕ). f (fold (merge_from f cells d (at + q)) best (take j places)) (get_or cells (t + (at + q)) d)) place-is
    ∙ sym (fold_taken (merge_from f cells d (at + q)) best places j 0 lt)

-- the places of one run more
pub more_places : (e : Extent) (wide size next : ℕ) (runs : List Run) (i : ℕ) (r : Run) (old new : List ℕ) → i < length runs → r ≡ get_or runs i r → new ≡ old ++ places_of e wide size next r → old ≡ flat_map (places_of e wide size next) (take i runs)
    → new ≡ flat_map (places_of e wide size next) (take (i + 1) runs)
more_places e wide size next runs i r old new lt is new-is old-is =
    new-is
    ∙ ap (λ (t : List ℕ). t ++ places_of e wide size next r) old-is
    ∙ ap (λ (t : List ℕ). flat_map (places_of e wide size next) (take i runs) ++ t) (sym (append-nil (places_of e wide size next r)) ∙ sym (flat_map-cons (places_of e wide size next) r []))
    ∙ sym (flat_map-append (places_of e wide size next) (take i runs) (r ∷ []))
    ∙ ap (λ (t : Run). flat_map (places_of e wide size next) (take i runs ++ t ∷ [])) is
    ∙ ap (flat_map (places_of e wide size next)) (sym (take_more runs i r lt))

-- a run's first and last samples, where they are not the same
two_merged : {A : Type 0} (f : A → A → A) → IsExtremum f → (cells : List A) (d : A) (q x y : ℕ) (best : A) (b : Bool) → (b ≡ false → y ≡ x)
    → fold (merge_from f cells d q) best (x ∷ (if b then y ∷ [] else [])) ≡ merge_from f cells d q (merge_from f cells d q best x) y
two_merged f laws cells d q x y best true same = refl
two_merged f laws cells d q x y best false same =
    sym (merged_again f laws best (get_or cells (x + q) d)) ∙ ap (λ (t : ℕ). merge_from f cells d q (merge_from f cells d q best x) t) (sym (same refl))

no_second : (start size count : ℕ) → nat_lt size count ≡ false → start + (count - size) ≡ start
no_second start size count is = let short = ltb-false size count is in omega arith

-- merging at the places of runs is merging their two parts
pub places_are_parts : {A : Type 0} (f : A → A → A) → IsExtremum f → (cells : List A) (d : A) (e : Extent) (wide size next q : ℕ) (best : A) (runs : List Run)
    → fold (merge_from f cells d q) best (flat_map (places_of e wide size next) runs) ≡ fold (sized_below size next (two_parts f cells d e wide size q)) best runs
places_are_parts f laws cells d e wide size next q best [] = refl
places_are_parts f laws cells d e wide size next q best (r ∷ rs) =
    ap (fold (merge_from f cells d q) best) (flat_map-cons (places_of e wide size next) r rs)
    ∙ fold-append (merge_from f cells d q) best (places_of e wide size next r) (flat_map (places_of e wide size next) rs)
    ∙ ap (λ (t : _). fold (merge_from f cells d q) t (flat_map (places_of e wide size next) rs)) (either (nat_le size r.count && nat_lt r.count next))
    ∙ places_are_parts f laws cells d e wide size next q (sized_below size next (two_parts f cells d e wide size q) best r) rs
  where
    either : (b : Bool) → fold (merge_from f cells d q) best (if b then start_of e wide r ∷ (if nat_lt size r.count then (start_of e wide r + (r.count - size)) ∷ [] else []) else [])
        ≡ (if b then two_parts f cells d e wide size q best r else best)
    either true = two_merged f laws cells d q (start_of e wide r) (start_of e wide r + (r.count - size)) best (nat_lt size r.count) (no_second (start_of e wide r) size r.count)
    either false = refl

-- at each place there is room for all samples
pub all_places : (e : Extent) (wide size next n m : ℕ) (runs : List Run) → 0 < size → AllByRecursion (RunHasRoom e wide n m) runs → AllByRecursion (λ (p : ℕ). p + n ≤ m) (flat_map (places_of e wide size next) runs)
all_places e wide size next n m [] some all = tt
all_places e wide size next n m (r ∷ rs) some all =
    let fits = all.0.room in
    rw (flat_map-cons (places_of e wide size next) r rs)
    (all-append (λ (p : ℕ). p + n ≤ m) (places_of e wide size next r) (flat_map (places_of e wide size next) rs)
    (either (λ (p : ℕ). p + n ≤ m) (start_of e wide r) (start_of e wide r + (r.count - size)) (nat_le size r.count && nat_lt r.count next) (nat_lt size r.count) (omega arith) (omega arith)) (all_places e wide size next n m rs some all.1))
  where
    either : (P : ℕ → Type 0) (x y : ℕ) (b c : Bool) → P x → P y → AllByRecursion P (if b then x ∷ (if c then y ∷ [] else []) else [])
    either P x y true true here there = (here, (there, tt))
    either P x y true false here there = (here, tt)
    either P x y false c here there = tt
