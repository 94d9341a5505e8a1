-- The ends of runs: what leaves and what enters where an element moves one column on.
use Rattle.std.proofs.Common.{◌≡◌, ℕ, ℤ, pos, ◌+ℤ◌, ◌-ℤ◌, ◌+◌, ◌*◌, ◌<◌, ◌≤◌, List, [], ◌∷◌, ◌++◌, map, length, get_or, take, drop, zero, suc, ◌-◌, None, refl, ap, sym, arith, ◌∙◌, length-append, length-take, length-drop, inl, inr, subst, append-nil}
use Rattle.std.specs.List.{flat_map}
use Rattle.std.specs.Option.{option_to_list}
use Rattle.std.proofs.lemmas.Bool.{cases_lt}
use Rattle.std.proofs.lemmas.Int.{ints}
use Rattle.std.proofs.lemmas.Nat.{mul-add-lt}
use Rattle.std.proofs.lemmas.List.{take_more, map-append, get_or_append_left, get_or-append_right, get_or_default, take_all, drop_all, drop_more}
use Rattle.std.proofs.lemmas.List.Concat.{flat_map-append, flat_map-cons}
use Rattle.std.proofs.Math.ListN.{length-map}
use Rattle.mw_model.specs.Rasters.{Sight, raster, cell_at}
use Rattle.mw_model.specs.Windows.{View, seen_at}
use Rattle.mw_rank.specs.declared.ends.Ends.{Ends}
use Rattle.mw_rank.specs.declared.histogram.Histogram.{Histogram}
use Rattle.mw_element_runs.specs.declared.runs.Run.{Run}
use Rattle.mw_element_runs.specs.Runs.{start_offset}
use Rattle.mw_rank.specs.Ends.{levels_left, levels_entered, first_seen, next_seen, HasEnds, AreEnds, AddsEnds}
use Rattle.mw_rank.specs.Ranks.{levels_under, levels_at, GainsRow}
use Rattle.mw_rank.specs.Runs.{offsets_from, offsets_of_run, element_of}
use Rattle.mw_rank.specs.Tallies.{count_under, Tallies}
use Rattle.mw_rank.proofs.Counts.{Same, tallies_same, count-append, count-cons}
use Rattle.mw_rank.proofs.Sights.{levels-append, length-levels, seen_inside}
use Rattle.mw_rank.proofs.Moves.{run_before, run_after}

-- what is seen of the runs both before and after the move
abbrev pub kept : {A : Type 0} → (A → ℕ) → Sight A → List Run → ℕ → ℕ → List ℕ
kept level sight runs x y = flat_map (λ (r : Run). levels_under level sight (offsets_from (start_offset r) (r.count - 1)) (x + 1) y) runs

split_before : (whole front rest here first staying inner outer : List ℕ) → whole ≡ (here ++ inner) ++ rest → first ≡ here ++ front → staying ≡ inner ++ outer → Same rest (front ++ outer) → Same whole (first ++ staying)
split_before whole front rest here first staying inner outer whole-is first-is staying-is same = record {
  counts = λ v.
      omega (
        arith,
        ap (count_under v) whole-is,
        ap (count_under v) first-is,
        ap (count_under v) staying-is,
        count-append v (here ++ inner) rest,
        count-append v here inner,
        count-append v here front,
        count-append v inner outer,
        count-append v first staying,
        count-append v front outer,
        same.counts v,
      );
  size = omega (
    arith,
    ap length whole-is,
    ap length first-is,
    ap length staying-is,
    length-append (here ++ inner) rest,
    length-append here inner,
    length-append here front,
    length-append inner outer,
    length-append first staying,
    length-append front outer,
    same.size,
  );
}

split_after : (whole front rest here next staying inner outer : List ℕ) → whole ≡ (inner ++ here) ++ rest → next ≡ here ++ front → staying ≡ inner ++ outer → Same (front ++ outer) rest → Same (next ++ staying) whole
split_after whole front rest here next staying inner outer whole-is next-is staying-is same = record {
  counts = λ v.
      omega (
        arith,
        ap (count_under v) whole-is,
        ap (count_under v) next-is,
        ap (count_under v) staying-is,
        count-append v (inner ++ here) rest,
        count-append v inner here,
        count-append v here front,
        count-append v inner outer,
        count-append v next staying,
        count-append v front outer,
        same.counts v,
      );
  size = omega (
    arith,
    ap length whole-is,
    ap length next-is,
    ap length staying-is,
    length-append (inner ++ here) rest,
    length-append inner here,
    length-append here front,
    length-append inner outer,
    length-append next staying,
    length-append front outer,
    same.size,
  );
}

-- before a move, what is seen is what leaves and what stays
pub before_move : {A : Type 0} (level : A → ℕ) (sight : Sight A) (runs : List Run) (x y : ℕ) → Same (levels_under level sight (element_of runs) x y) (first_seen level sight runs x y ++ kept level sight runs x y)
before_move level sight [] x y = record { counts = λ v. refl; size = refl }
before_move level sight (r ∷ rs) x y =
    split_before _ (first_seen level sight rs x y) (levels_under level sight (element_of rs) x y) (levels_at level sight (start_offset r) x y) _ _ (levels_under level sight (offsets_from (start_offset r) (r.count - 1)) (x + 1) y) (kept level sight rs x y)
    (ap (λ (t : List _). levels_under level sight t x y) (flat_map-cons offsets_of_run r rs) ∙ levels-append level sight (offsets_of_run r) (element_of rs) x y ∙ ap (λ (t : List ℕ). t ++ levels_under level sight (element_of rs) x y) (run_before level sight r x y))
    (flat_map-cons (λ (q : Run). levels_at level sight (start_offset q) x y) r rs) (flat_map-cons (λ (q : Run). levels_under level sight (offsets_from (start_offset q) (q.count - 1)) (x + 1) y) r rs) (before_move level sight rs x y)

-- after it, what is seen is what enters and what stays
pub after_move : {A : Type 0} (level : A → ℕ) (sight : Sight A) (runs : List Run) (x y : ℕ) → Same (next_seen level sight runs x y ++ kept level sight runs x y) (levels_under level sight (element_of runs) (x + 1) y)
after_move level sight [] x y = record { counts = λ v. refl; size = refl }
after_move level sight (r ∷ rs) x y =
    split_after _ (next_seen level sight rs x y) (levels_under level sight (element_of rs) (x + 1) y) (levels_at level sight (start_offset r) (x + 1 + (r.count - 1)) y) _ _ (levels_under level sight (offsets_from (start_offset r) (r.count - 1)) (x + 1) y) (kept level sight rs x y)
    (ap (λ (t : List _). levels_under level sight t (x + 1) y) (flat_map-cons offsets_of_run r rs) ∙ levels-append level sight (offsets_of_run r) (element_of rs) (x + 1) y ∙ ap (λ (t : List ℕ). t ++ levels_under level sight (element_of rs) (x + 1) y) (run_after level sight r x y))
    (flat_map-cons (λ (q : Run). levels_at level sight (start_offset q) (x + 1 + (q.count - 1)) y) r rs) (flat_map-cons (λ (q : Run). levels_under level sight (offsets_from (start_offset q) (q.count - 1)) (x + 1) y) r rs) (after_move level sight rs x y)

to_front : (a : ℕ) (e l r : List ℕ) → Same (e ++ (a ∷ l ++ r)) (a ∷ (e ++ (l ++ r)))
to_front a e l r = record {
  counts = λ v. omega (arith, count-append v e (a ∷ l ++ r), count-append v (a ∷ l) r, count-cons v a l, count-cons v a (e ++ (l ++ r)), count-append v e (l ++ r), count-append v l r);
  size = omega (arith, length-append e (a ∷ l ++ r), length-append (a ∷ l) r, length-append e (l ++ r), length-append l r);
}

to_back : (b : ℕ) (e r : List ℕ) → Same (b ∷ (e ++ r)) (e ++ b ∷ [] ++ r)
to_back b e r = record {
  counts = λ v. omega (arith, count-cons v b (e ++ r), count-append v e r, count-append v (e ++ b ∷ []) r, count-append v e (b ∷ []), count-cons v b [], count-nil v);
  size = omega (arith, length-append e r, length-append (e ++ b ∷ []) r, length-append e (b ∷ []));
}
  where
    count-nil : (v : ℕ) → count_under v [] ≡ 0
    count-nil v = refl

-- the next of the levels that leave
pub next_left : (top : ℕ) (h : Histogram) (a : ℕ) (e l rest r : List ℕ) → l ≡ a ∷ rest → Tallies top h (e ++ (l ++ r)) → Tallies top h (a ∷ (e ++ (rest ++ r)))
next_left top h a e l rest r l-is t = tallies_same top h _ _ (to_front a e rest r) (subst (λ (q : List ℕ). Tallies top h (e ++ (q ++ r))) l-is t)

-- one more of the levels that enter
pub more_entered : (top : ℕ) (h : Histogram) (b : ℕ) (e new r : List ℕ) → new ≡ e ++ b ∷ [] → Tallies top h (b ∷ (e ++ r)) → Tallies top h (new ++ r)
more_entered top h b e new r new-is t = subst (λ (q : List ℕ). Tallies top h (q ++ r)) (sym new-is) (tallies_same top h _ _ (to_back b e r) t)

pub left_first : {A : Type 0} (level : A → ℕ) (d : A) (samples : List A) (ends : List Ends) (e : Ends) (i j : ℕ) (s : A) → j < length ends → get_or ends j e ≡ e → e.first + i < length samples → s ≡ get_or samples (e.first + i) s
    → levels_left level d samples (drop j ends) i ≡ level s ∷ levels_left level d samples (drop (j + 1) ends) i
left_first level d samples ends e i j s lt is room s-is =
    ap (λ (t : List Ends). levels_left level d samples t i) (drop_more ends j e lt)
    ∙ ap (λ (t : Ends). level (get_or samples (t.first + i) d) ∷ levels_left level d samples (drop (j + 1) ends) i) is
    ∙ ap (λ (t : _). level t ∷ levels_left level d samples (drop (j + 1) ends) i) (get_or_default samples (e.first + i) d s room ∙ sym s-is)

pub entered_last : {A : Type 0} (level : A → ℕ) (d : A) (samples : List A) (ends : List Ends) (e : Ends) (i j : ℕ) (s : A) → j < length ends → get_or ends j e ≡ e → e.next + i < length samples → s ≡ get_or samples (e.next + i) s
    → levels_entered level d samples (take (j + 1) ends) i ≡ levels_entered level d samples (take j ends) i ++ level s ∷ []
entered_last level d samples ends e i j s lt is room s-is =
    ap (λ (t : List Ends). levels_entered level d samples t i) (take_more ends j e lt)
    ∙ map-append (λ (t : Ends). level (get_or samples (t.next + i) d)) (take j ends) (_ ∷ [])
    ∙ ap (λ (t : Ends). levels_entered level d samples (take j ends) i ++ level (get_or samples (t.next + i) d) ∷ []) is
    ∙ ap (λ (t : _). levels_entered level d samples (take j ends) i ++ level t ∷ []) (get_or_default samples (e.next + i) d s room ∙ sym s-is)

has_ends_none : {A : Type 0} (samples : List A) (n : ℕ) → HasEnds samples n []
has_ends_none samples n = record { first = λ q e lt. absurd (omega arith); next = λ q e lt. absurd (omega arith) }

has_ends_more : {A : Type 0} (samples : List A) (n : ℕ) (ends added : List Ends) → HasEnds samples n ends → HasEnds samples n added → HasEnds samples n (ends ++ added)
has_ends_more samples n ends added before more = record {
  first = λ q e lt. elim (cases_lt q (length ends)) [
    | inl early ↦ rw (get_or_append_left ends added e q early) (before.first q e early)
    | inr late ↦ rw (get_or-append_right ends added (length ends) q e refl late) (more.first (q - length ends) e (omega (arith, length-append ends added)))
  ];
  next = λ q e lt. elim (cases_lt q (length ends)) [
    | inl early ↦ rw (get_or_append_left ends added e q early) (before.next q e early)
    | inr late ↦ rw (get_or-append_right ends added (length ends) q e refl late) (more.next (q - length ends) e (omega (arith, length-append ends added)))
  ];
}

pub are_ends_none : {A : Type 0} (level : A → ℕ) (d : A) (sight : Sight A) (samples : List A) (x y n : ℕ) → AreEnds level d sight samples [] x y n []
are_ends_none level d sight samples x y n = record { inside = has_ends_none samples n; first = λ i lt. refl; next = λ i lt. refl }

-- the ends of one run more
pub are_ends_more : {A : Type 0} (level : A → ℕ) (d : A) (sight : Sight A) (samples : List A) (runs : List Run) (r : Run) (j x y n : ℕ) (old new : List Ends) → j < length runs → get_or runs j r ≡ r
    → AddsEnds level d sight samples r x y n old new → AreEnds level d sight samples (take j runs) x y n old → AreEnds level d sight samples (take (j + 1) runs) x y n new
are_ends_more level d sight samples runs r j x y n old new lt is more before =
    let taken : take (j + 1) runs ≡ take j runs ++ r ∷ [] = take_more runs j r lt ∙ ap (λ (t : Run). take j runs ++ t ∷ []) is in
    let all : AreEnds level d sight samples (take j runs ++ r ∷ []) x y n (old ++ more.added) = record {
      inside = has_ends_more samples n old more.added before.inside more.are.inside;
      first = λ i less.
          map-append (λ (t : Ends). level (get_or samples (t.first + i) d)) old more.added
          ∙ ap (λ (t : List ℕ). t ++ levels_left level d samples more.added i) (before.first i less)
          ∙ ap (λ (t : List ℕ). first_seen level sight (take j runs) (x + i) y ++ t) (more.are.first i less)
          ∙ sym (flat_map-append (λ (q : Run). levels_at level sight (start_offset q) (x + i) y) (take j runs) (r ∷ []));
      next = λ i less.
          map-append (λ (t : Ends). level (get_or samples (t.next + i) d)) old more.added
          ∙ ap (λ (t : List ℕ). t ++ levels_entered level d samples more.added i) (before.next i less)
          ∙ ap (λ (t : List ℕ). next_seen level sight (take j runs) (x + i) y ++ t) (more.are.next i less)
          ∙ sym (flat_map-append (λ (q : Run). levels_at level sight (start_offset q) (x + i + 1 + (q.count - 1)) y) (take j runs) (r ∷ []));
    } in
    subst (λ (t : List Ends). AreEnds level d sight samples (take (j + 1) runs) x y n t) (sym more.is) (subst (λ (t : List Run). AreEnds level d sight samples t x y n (old ++ more.added)) (sym taken) all)

-- a run in a row that the window lacks has no ends there
pub no_ends : {A : Type 0} (level : A → ℕ) (d : A) (w : View A) (run : Run) (x y n : ℕ) (old : List Ends) → ((column : ℤ) → cell_at (raster w.place.width w.place.height w.cells) column (pos y +ℤ run.dy -ℤ pos w.place.y) ≡ None)
    → AddsEnds level d (seen_at w) w.cells run x y n old old
no_ends level d w run x y n old none =
    let nothing : (p : ℕ) → levels_at level (seen_at w) (start_offset run) p y ≡ [] = λ p. ap (λ (t : _). map level (option_to_list t)) (none (pos p +ℤ run.dx -ℤ pos w.place.x)) in
    record {
      added = [];
      is = sym (no_more old);
      are = record {
        inside = has_ends_none w.cells n;
        first = λ i lt. sym (flat_map-cons (λ (q : Run). levels_at level (seen_at w) (start_offset q) (x + i) y) run [] ∙ append-nil _ ∙ nothing (x + i));
        next = λ i lt. sym (flat_map-cons (λ (q : Run). levels_at level (seen_at w) (start_offset q) (x + i + 1 + (q.count - 1)) y) run [] ∙ append-nil _ ∙ nothing (x + i + 1 + (run.count - 1)));
      };
    }
  where
    no_more : (es : List Ends) → es ++ [] ≡ es
    no_more [] = refl
    no_more (e ∷ es) = ap (λ (t : List Ends). e ∷ t) (no_more es)

-- the level of a cell is what is seen there
level_seen : {A : Type 0} (level : A → ℕ) (d : A) (w : View A) (run : Run) (p y column row : ℕ) → length w.cells ≡ w.place.height * w.place.width → column < w.place.width → row < w.place.height → pos p +ℤ run.dx -ℤ pos w.place.x ≡ pos column
    → pos y +ℤ run.dy -ℤ pos w.place.y ≡ pos row → level (get_or w.cells (row * w.place.width + column) d) ∷ [] ≡ levels_at level (seen_at w) (start_offset run) p y
level_seen level d w run p y column row size across down column-is row-is =
    seen_inside level w.place.width w.place.height w.cells (pos p +ℤ run.dx -ℤ pos w.place.x) (pos y +ℤ run.dy -ℤ pos w.place.y) column row _ (get_or w.cells (row * w.place.width + column) d) column-is row-is across down size
    (get_or_default w.cells (row * w.place.width + column) d _ (omega (arith, size, mul-add-lt row w.place.width column w.place.height down across))) refl

-- a run in columns and a row that the window has
pub one_end : {A : Type 0} (level : A → ℕ) (d : A) (w : View A) (run : Run) (x y n column row : ℕ) (old new : List Ends) (e : Ends) → length w.cells ≡ w.place.height * w.place.width → row < w.place.height → column + ((run.count - 1) + 1) + n ≤ w.place.width
    → pos x +ℤ run.dx -ℤ pos w.place.x ≡ pos column → pos y +ℤ run.dy -ℤ pos w.place.y ≡ pos row → e.first ≡ row * w.place.width + column → e.next ≡ e.first + (run.count - 1) + 1 → new ≡ old ++ e ∷ [] → AddsEnds level d (seen_at w) w.cells run x y n old new
one_end level d w run x y n column row old new e size down across column-is row-is first-is next-is new-is =
    let fits : row * w.place.width + w.place.width ≤ length w.cells = rows_fit row w.place.height w.place.width (length w.cells) down size in
    record {
      added = e ∷ [];
      is = new-is;
      are = record {
        inside = record { first = λ q o lt. rw (only q e o lt) (omega arith); next = λ q o lt. rw (only q e o lt) (omega arith) };
        first = λ i lt.
            ap (λ (t : ℕ). level (get_or w.cells t d) ∷ []) (let at : e.first + i ≡ row * w.place.width + (column + i) = omega arith in at)
            ∙ level_seen level d w run (x + i) y (column + i) row size (omega arith) down (omega (arith, ints)) row-is
            ∙ sym (flat_map-cons (λ (q : Run). levels_at level (seen_at w) (start_offset q) (x + i) y) run [] ∙ append-nil _);
        next = λ i lt.
            ap (λ (t : ℕ). level (get_or w.cells t d) ∷ []) (let at : e.next + i ≡ row * w.place.width + (column + i + 1 + (run.count - 1)) = omega arith in at)
            ∙ level_seen level d w run (x + i + 1 + (run.count - 1)) y (column + i + 1 + (run.count - 1)) row size (omega arith) down (omega (arith, ints)) row-is
            ∙ sym (flat_map-cons (λ (q : Run). levels_at level (seen_at w) (start_offset q) (x + i + 1 + (q.count - 1)) y) run [] ∙ append-nil _);
      };
    }
  where
    only : (q : ℕ) (e o : Ends) → q < length (e ∷ []) → get_or (e ∷ []) q o ≡ e
    only zero e o lt = refl
    only (suc q) e o lt = absurd (omega arith)

    rows_fit : (row height width cells : ℕ) → row < height → cells ≡ height * width → row * width + width ≤ cells
    rows_fit row height width cells lt is = grind arith

-- rows of columns that are added one after the other
pub gains_joined : {A : Type 0} (level : A → ℕ) (value more : ℕ → ℕ) (n m t : ℕ) (old mid new : List A) → n + m ≡ t → ((i : ℕ) → more i ≡ value (n + i)) → GainsRow level value n old mid → GainsRow level more m mid new → GainsRow level value t old new
gains_joined level value more n m t old mid new t-is more-is first second = record {
  size = omega (arith, first.size, second.size);
  kept = λ p d lt. second.kept p d (omega (arith, first.size)) ∙ first.kept p d lt;
  made = λ x d lt. elim (cases_lt x n) [
    | inl early ↦ ap level (second.kept (length old + x) d (omega (arith, first.size))) ∙ first.made x d early
    | inr late ↦
        ap (λ (p : ℕ). level (get_or new p d)) (let there : length old + x ≡ length mid + (x - n) = omega (arith, first.size) in there)
        ∙ second.made (x - n) d (omega arith)
        ∙ more-is (x - n)
        ∙ ap value (let back : n + (x - n) ≡ x = omega arith in back)
  ];
}

-- a row in three parts
pub gains_parts : {A : Type 0} (level : A → ℕ) (value : ℕ → ℕ) (x middle last first count rest width : ℕ) (out left inside all : List A) → middle ≡ x + first → last ≡ x + (first + count) → first + count + rest ≡ width → GainsRow level (λ i. value (x + i)) first out left
    → GainsRow level (λ i. value (middle + i)) count left inside → GainsRow level (λ i. value (last + i)) rest inside all → GainsRow level (λ i. value (x + i)) width out all
gains_parts level value x middle last first count rest width out left inside all middle-is last-is width-is one two three =
    gains_joined level (λ i. value (x + i)) (λ i. value (last + i)) (first + count) rest width out inside all width-is (λ i. ap value (let there : last + i ≡ x + (first + count + i) = omega arith in there))
    (gains_joined level (λ i. value (x + i)) (λ i. value (middle + i)) first count (first + count) out left inside refl (λ i. ap value (let there : middle + i ≡ x + (first + i) = omega arith in there)) one two) three

-- one pair of ends later there is one level less
pub length-moving : {A : Type 0} (level : A → ℕ) (d : A) (samples : List A) (ends : List Ends) (ns : List ℕ) (i j : ℕ) → j < length ends
    → suc (length (levels_entered level d samples (take j ends) i ++ (levels_left level d samples (drop (j + 1) ends) i ++ ns))) ≡ length (levels_left level d samples ends i ++ ns)
length-moving level d samples ends ns i j lt =
    omega (
      arith,
      length-append (levels_entered level d samples (take j ends) i) (levels_left level d samples (drop (j + 1) ends) i ++ ns),
      length-append (levels_left level d samples (drop (j + 1) ends) i) ns,
      length-append (levels_left level d samples ends i) ns,
      length-map (take j ends) (λ (e : Ends). level (get_or samples (e.next + i) d)),
      length-map (drop (j + 1) ends) (λ (e : Ends). level (get_or samples (e.first + i) d)),
      length-map ends (λ (e : Ends). level (get_or samples (e.first + i) d)),
      length-take j ends,
      length-drop (j + 1) ends,
    )

pub Tallies-ended : {A : Type 0} (top : ℕ) (h : Histogram) (level : A → ℕ) (d : A) (samples : List A) (ends : List Ends) (i j : ℕ) (ns : List ℕ) → length ends ≤ j
    → Tallies top h (levels_entered level d samples (take j ends) i ++ (levels_left level d samples (drop j ends) i ++ ns)) → Tallies top h (levels_entered level d samples ends i ++ ns)
Tallies-ended top h level d samples ends i j ns le t =
    subst (λ (q : List Ends). Tallies top h (levels_entered level d samples q i ++ ns)) (take_all j ends le)
    (subst (λ (q : List Ends). Tallies top h (levels_entered level d samples (take j ends) i ++ (levels_left level d samples q i ++ ns))) (drop_all j ends le) t)

-- what is seen before a move, with what leaves first
pub before_ends : {A : Type 0} (level : A → ℕ) (d : A) (sight : Sight A) (samples : List A) (runs : List Run) (ends : List Ends) (x y n i top : ℕ) (h : Histogram) → i < n → AreEnds level d sight samples runs x y n ends
    → Tallies top h (levels_under level sight (element_of runs) (x + i) y) → Tallies top h (levels_left level d samples ends i ++ kept level sight runs (x + i) y)
before_ends level d sight samples runs ends x y n i top h lt are t =
    subst (λ (l : List ℕ). Tallies top h (l ++ kept level sight runs (x + i) y)) (sym (are.first i lt)) (tallies_same top h _ _ (before_move level sight runs (x + i) y) t)

-- a move of the element by known ends
pub moved_by_ends : {A : Type 0} (level : A → ℕ) (d : A) (sight : Sight A) (samples : List A) (runs : List Run) (ends : List Ends) (x y n i top : ℕ) (h g : Histogram) → i < n → AreEnds level d sight samples runs x y n ends
    → ((ns : List ℕ) → Tallies top h (levels_left level d samples ends i ++ ns) → Tallies top g (levels_entered level d samples ends i ++ ns)) → Tallies top h (levels_under level sight (element_of runs) (x + i) y)
    → Tallies top g (levels_under level sight (element_of runs) (x + (i + 1)) y)
moved_by_ends level d sight samples runs ends x y n i top h g lt are move t =
    subst (λ (p : ℕ). Tallies top g (levels_under level sight (element_of runs) p y)) (let next : x + i + 1 ≡ x + (i + 1) = omega arith in next)
    (tallies_same top g _ _ (after_move level sight runs (x + i) y)
    (subst (λ (l : List ℕ). Tallies top g (l ++ kept level sight runs (x + i) y)) (are.next i lt) (move (kept level sight runs (x + i) y) (before_ends level d sight samples runs ends x y n i top h lt are t))))

pub length-before_ends : {A : Type 0} (level : A → ℕ) (d : A) (sight : Sight A) (samples : List A) (runs : List Run) (ends : List Ends) (x y n i : ℕ) → i < n → AreEnds level d sight samples runs x y n ends
    → length (levels_left level d samples ends i ++ kept level sight runs (x + i) y) ≤ length (element_of runs)
length-before_ends level d sight samples runs ends x y n i lt are =
    omega (
      arith,
      ap (λ (l : List ℕ). length (l ++ kept level sight runs (x + i) y)) (are.first i lt),
      (before_move level sight runs (x + i) y).size,
      length-levels level sight (element_of runs) (x + i) y,
    )

-- the level that leaves first of those at the ends from j on
pub leaving_now : {A : Type 0} (level : A → ℕ) (d : A) (samples : List A) (ends : List Ends) (none : Ends) (i j n top a : ℕ) (h : Histogram) (s : A) (ns : List ℕ) → j < length ends → i < n → HasEnds samples n ends → s ≡ get_or samples ((get_or ends j none).first + i) s
    → a ≡ level s → Tallies top h (levels_entered level d samples (take j ends) i ++ (levels_left level d samples (drop j ends) i ++ ns))
    → Tallies top h (a ∷ (levels_entered level d samples (take j ends) i ++ (levels_left level d samples (drop (j + 1) ends) i ++ ns)))
leaving_now level d samples ends none i j n top a h s ns lt less has s-is a-is t =
    let e = get_or ends j none in
    next_left top h a _ _ _ ns
    (left_first level d samples ends e i j s lt (sym (get_or_default ends j none e lt)) (omega (arith, has.first j none lt)) s-is ∙ ap (λ (v : ℕ). v ∷ levels_left level d samples (drop (j + 1) ends) i) (sym a-is)) t

-- the level that enters at the ends number j
pub entering_now : {A : Type 0} (level : A → ℕ) (d : A) (samples : List A) (ends : List Ends) (none : Ends) (i j n top b : ℕ) (h : Histogram) (s : A) (r : List ℕ) → j < length ends → i < n → HasEnds samples n ends → s ≡ get_or samples ((get_or ends j none).next + i) s
    → b ≡ level s → Tallies top h (b ∷ (levels_entered level d samples (take j ends) i ++ r)) → Tallies top h (levels_entered level d samples (take (j + 1) ends) i ++ r)
entering_now level d samples ends none i j n top b h s r lt less has s-is b-is t =
    let e = get_or ends j none in
    more_entered top h b _ _ r
    (entered_last level d samples ends e i j s lt (sym (get_or_default ends j none e lt)) (omega (arith, has.next j none lt)) s-is ∙ ap (λ (v : ℕ). levels_entered level d samples (take j ends) i ++ v ∷ []) (sym b-is)) t

pub known_samples : {A : Type 0} (level : A → ℕ) (d : A) (sight : Sight A) (samples cells : List A) (runs : List Run) (x y n : ℕ) (ends : List Ends) → samples ≡ cells → AreEnds level d sight cells runs x y n ends → AreEnds level d sight samples runs x y n ends
known_samples level d sight samples cells runs x y n ends is are = subst (λ (t : List _). AreEnds level d sight t runs x y n ends) (sym is) are
