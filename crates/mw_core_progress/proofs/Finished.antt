-- Work of which one more task is finished.
use Rattle.std.proofs.Common.{◌≡◌, ◌≢◌, ℕ, zero, suc, ◌+◌, ◌<◌, ◌↔◌, Bool, true, false, not, ◌&&◌, ◌||◌, nat_eq, cond, List, [], ◌∷◌, length, map, get_or, set, Option, Some, None, refl, sym, ap, subst, ◌∙◌, arith, inl, inr}
use Rattle.std.specs.Prelude.{IsSome}
use Rattle.std.specs.List.{AllByRecursion, range_with_len, list_any}
use Rattle.std.proofs.lemmas.Bool.{cases_eq, and_parts, and_right, or_cases, or_left, or_right, eqb-true, ne_eqb, not-true}
use Rattle.std.proofs.lemmas.List.{length-set, get_or-set_same, get_or-set_other}
use Rattle.mw_model.proofs.mw_facts.Tests.{list_any-range, list_all-weaker, none-not_some}
use Rattle.mw_model.specs.Plans.{Plan, Source, FromInput, FromStep, IsSourceAt, is_sum}
use Rattle.mw_model.specs.Tasks.{Progress, flag, task_count, tasks_below, nothing_planned, planned_of, step_number, reads, meets, is_step, is_running, is_needed, place_of_task, tile_of_task}
use Rattle.mw_grid.specs.Grids.{Tiling}
use Rattle.mw_grid.proofs.Lines.{row_less}
use Rattle.mw_core_planes.specs.mw_tile_planes.Tiles.{Tiled}
use Rattle.mw_core_planes.specs.Levels.{Level, level_of_plane}
use Rattle.mw_core_progress.specs.ProgressView.{IsWorkable, IsPlaneSource, IsWhole, KeepsNeeded, no_plane, cells_of_planes}
use Rattle.mw_core_progress.specs.Parts.{underway}

-- ---- tests over the tasks

pub any-same : (p q : ℕ → Bool) (xs : List ℕ) → ((u : ℕ) → p u ≡ q u) → list_any p xs ≡ list_any q xs
any-same p q [] same = refl
any-same p q (x ∷ xs) same = ap (λ (b : Bool). b || list_any p xs) (same x) ∙ ap (λ (b : Bool). q x || b) (any-same p q xs same)

pub any-same_below : (p q : ℕ → Bool) (a n : ℕ) → ((u : ℕ) → u < a + n → p u ≡ q u) → list_any p (range_with_len a n) ≡ list_any q (range_with_len a n)
any-same_below p q a zero same = refl
any-same_below p q a (suc n) same =
    ap (λ (b : Bool). b || list_any p (range_with_len (a + 1) n)) (same a (omega arith))
    ∙ ap (λ (b : Bool). q a || b) (any-same_below p q (a + 1) n (λ u lt. same u (omega arith)))

-- ---- what is read is an earlier step, and makes a plane

pub no_step : false ≡ true → ⊥
no_step e = cc

is_step-below : (read : List Source) (s j : ℕ) → AllByRecursion (IsSourceAt 1 s) read → list_any (is_step j) read ≡ true → j < s
is_step-below [] s j all e = absurd (no_step e)
is_step-below (x ∷ xs) s j all e = elim (or_cases (is_step j x) (list_any (is_step j) xs) e) [
  | inl here ↦ one x all.0 here
  | inr later ↦ is_step-below xs s j all.1 later
]
  where
    one : (x : Source) → IsSourceAt 1 s x → is_step j x ≡ true → j < s
    one (FromInput i) at e = absurd (no_step e)
    one (FromStep i) at e = subst (λ (k : ℕ). k < s) (eqb-true i j e) at

is_step-unsummed : (plan : Plan) (read : List Source) (j : ℕ) → AllByRecursion (IsPlaneSource plan) read → list_any (is_step j) read ≡ true → is_sum (get_or plan j nothing_planned).step ≡ false
is_step-unsummed plan [] j all e = absurd (no_step e)
is_step-unsummed plan (x ∷ xs) j all e = elim (or_cases (is_step j x) (list_any (is_step j) xs) e) [
  | inl here ↦ one x all.0 here
  | inr later ↦ is_step-unsummed plan xs j all.1 later
]
  where
    one : (x : Source) → IsPlaneSource plan x → is_step j x ≡ true → is_sum (get_or plan j nothing_planned).step ≡ false
    one (FromInput i) at e = absurd (no_step e)
    one (FromStep i) at e = subst (λ (k : ℕ). is_sum (get_or plan k nothing_planned).step ≡ false) (eqb-true i j e) at

-- the step that a source names is an earlier one of the plan, and makes a plane
pub read_before : (plan : Plan) (input : Level) (s j : ℕ) → IsWorkable plan input → list_any (is_step j) (get_or plan s nothing_planned).sources ≡ true → j < s
read_before plan input s j workable e = is_step-below (get_or plan s nothing_planned).sources s j (workable.sources s) e

pub read_unsummed : (plan : Plan) (input : Level) (s j : ℕ) → IsWorkable plan input → list_any (is_step j) (get_or plan s nothing_planned).sources ≡ true → is_sum (get_or plan j nothing_planned).step ≡ false
read_unsummed plan input s j workable e = is_step-unsummed plan (get_or plan s nothing_planned).sources j (workable.planes s) e

-- ---- what a finish leaves

-- the work with one more task finished, and with these cells
abbrev pub finished_with : Progress → ℕ → List (Option (List ℕ)) → Progress
finished_with p n q = record p { finished = set p.finished n true; placed = q }

-- an unfinished task reads what this one made
abbrev pub is_read_in : Progress → ℕ → Bool
is_read_in p n = list_any (λ u. not (flag p.finished u) && reads p u n) (tasks_below p)

pub record Settles (p : Progress) (n : ℕ) (cells : List ℕ) (q : List (Option (List ℕ))) : Type 0 where
  pub own : get_or q n None ≡ cond (is_needed (finished_with p n q) n) (Some cells) None
  pub others : (k : ℕ) → k < task_count p → k ≢ n → get_or q k None ≡ cond (reads p n k && not (is_read_in (finished_with p n q) k)) None (get_or p.placed k None)

abbrev IsKept : Option (List ℕ) → Bool → Bool → Type 0
IsKept o finished needed = IsSome o ↔ ((finished ≡ true) × (needed ≡ true))

kept-own : (o : Option (List ℕ)) (finished needed : Bool) (cells : List ℕ) → o ≡ cond needed (Some cells) None → finished ≡ true → IsKept o finished needed
kept-own o finished true cells e mark = (λ some. (mark, refl), λ both. subst (λ (p : Option (List ℕ)). IsSome p) (sym e) refl)
kept-own o finished false cells e mark = (λ some. absurd (none-not_some o e some), λ both. absurd (no_step both.1))

kept-same : (o old : Option (List ℕ)) (finished before needed wanted : Bool) → o ≡ old → finished ≡ before → needed ≡ wanted → IsKept old before wanted → IsKept o finished needed
kept-same o old finished before needed wanted e em en kept = (
  λ some. (let h = kept.0 (subst (λ (p : Option (List ℕ)). IsSome p) e some) in (em ∙ h.0, en ∙ h.1)),
  λ both. subst (λ (p : Option (List ℕ)). IsSome p) (sym e) (kept.1 (sym em ∙ both.0, sym en ∙ both.1)),
)

kept-dropped : (o : Option (List ℕ)) (finished needed : Bool) → o ≡ None → needed ≡ false → IsKept o finished needed
kept-dropped o finished needed e en = (λ some. absurd (none-not_some o e some), λ both. absurd (no_step (sym en ∙ both.1)))

same-without : (x y b : Bool) → b ≡ false → x && b ≡ y && b
same-without x y b e = and_right x b e ∙ sym (and_right y b e)

-- who is not read by the finished task is read as before
read-same : (p : Progress) (n k : ℕ) (q : List (Option (List ℕ))) → reads p n k ≡ false → is_read_in (finished_with p n q) k ≡ is_read_in p k
read-same p n k q unread =
    any-same (λ u. not (flag (set p.finished n true) u) && reads p u k) (λ u. not (flag p.finished u) && reads p u k) (tasks_below p) (λ u. elim (cases_eq u n) [
      | inl here ↦ same-without (not (flag (set p.finished n true) u)) (not (flag p.finished u)) (reads p u k) (ap (λ (j : ℕ). reads p j k) here ∙ unread)
      | inr other ↦ ap (λ (b : Bool). not b && reads p u k) (get_or-set_other p.finished n u true false other)
    ])

read_by : (p : Progress) (n k : ℕ) → n < task_count p → flag p.finished n ≡ false → reads p n k ≡ true → is_read_in p k ≡ true
read_by p n k lt unfinished read = list_any-range (λ u. not (flag p.finished u) && reads p u k) 0 (task_count p) n (omega arith) (omega arith) (both (flag p.finished n) (reads p n k) unfinished read)
  where
    both : (f r : Bool) → f ≡ false → r ≡ true → not f && r ≡ true
    both f r ef er = ap (λ (b : Bool). not b && r) ef ∙ er

needed-unsummed : (a b r : Bool) → a ≡ false → b ≡ false → a || b || r ≡ r
needed-unsummed a b r ea eb = ap (λ (x : Bool). x || b || r) ea ∙ ap (λ (x : Bool). false || x || r) eb

pub finish_needed : (p : Progress) (input : Level) (n : ℕ) (cells : List ℕ) (q : List (Option (List ℕ))) → IsWorkable p.plan input → 0 < length p.tiles → n < task_count p → length p.finished ≡ task_count p
    → flag p.finished n ≡ false → KeepsNeeded p → Settles p n cells q → KeepsNeeded (finished_with p n q)
finish_needed p input n cells q workable some lt size unfinished needed settles k k-lt = elim (cases_eq k n) [
  | inl here ↦
      kept-own (get_or q k None) (flag (set p.finished n true) k) (is_needed (finished_with p n q) k) cells
      (ap (λ (j : ℕ). get_or q j None) here ∙ settles.own ∙ ap (λ (j : ℕ). cond (is_needed (finished_with p n q) j) (Some cells) None) (sym here))
      (ap (flag (set p.finished n true)) here ∙ get_or-set_same p.finished n true false (omega arith))
  | inr other ↦ by_reading other (reads p n k) refl
]
  where
    marked : k ≢ n → flag (set p.finished n true) k ≡ flag p.finished k
    marked other = get_or-set_other p.finished n k true false other

    read_of : reads p n k ≡ true → list_any (is_step (step_number p k)) (planned_of p n).sources ≡ true
    read_of read = (and_parts (list_any (is_step (step_number p k)) (planned_of p n).sources) (meets (place_of_task p n) (tile_of_task p k)) read).0

    not_last : reads p n k ≡ true → nat_eq (step_number p k + 1) (length p.plan) ≡ false
    not_last read =
        let early : step_number p k < step_number p n = read_before p.plan input (step_number p n) (step_number p k) workable (read_of read) in
        let within : step_number p n < length p.plan = row_less (length p.plan) (length p.tiles) n some lt in
        ne_eqb (step_number p k + 1) (length p.plan) (λ e. absurd (omega arith))

    no_sum : reads p n k ≡ true → is_sum (planned_of p k).step ≡ false
    no_sum read = read_unsummed p.plan input (step_number p n) (step_number p k) workable (read_of read)

    by_need : (d : Bool) → is_read_in (finished_with p n q) k ≡ d → k ≢ n → reads p n k ≡ true → IsKept (get_or q k None) (flag (set p.finished n true) k) (is_needed (finished_with p n q) k)
    by_need true still other read =
        kept-same (get_or q k None) (get_or p.placed k None) (flag (set p.finished n true) k) (flag p.finished k) (is_needed (finished_with p n q) k) (is_needed p k)
        (settles.others k k-lt other ∙ ap (λ (b : Bool). cond (reads p n k && not b) None (get_or p.placed k None)) still ∙ ap (λ (b : Bool). cond b None (get_or p.placed k None)) (and_right (reads p n k) false refl))
        (marked other)
        (needed-unsummed (nat_eq (step_number p k + 1) (length p.plan)) (is_sum (planned_of p k).step) (is_read_in (finished_with p n q) k) (not_last read) (no_sum read) ∙ still
        ∙ sym (or_right (nat_eq (step_number p k + 1) (length p.plan) || is_sum (planned_of p k).step) (is_read_in p k) (read_by p n k lt unfinished read)))
        (needed k k-lt)
    by_need false dropped other read =
        kept-dropped (get_or q k None) (flag (set p.finished n true) k) (is_needed (finished_with p n q) k)
        (settles.others k k-lt other ∙ ap (λ (b : Bool). cond (reads p n k && not b) None (get_or p.placed k None)) dropped ∙ ap (λ (b : Bool). cond (b && true) None (get_or p.placed k None)) read)
        (needed-unsummed (nat_eq (step_number p k + 1) (length p.plan)) (is_sum (planned_of p k).step) (is_read_in (finished_with p n q) k) (not_last read) (no_sum read) ∙ dropped)

    by_reading : k ≢ n → (r : Bool) → reads p n k ≡ r → IsKept (get_or q k None) (flag (set p.finished n true) k) (is_needed (finished_with p n q) k)
    by_reading other true read = by_need (is_read_in (finished_with p n q) k) refl other read
    by_reading other false unread =
        kept-same (get_or q k None) (get_or p.placed k None) (flag (set p.finished n true) k) (flag p.finished k) (is_needed (finished_with p n q) k) (is_needed p k)
        (settles.others k k-lt other ∙ ap (λ (b : Bool). cond (b && not (is_read_in (finished_with p n q) k)) None (get_or p.placed k None)) unread)
        (marked other)
        (ap (λ (b : Bool). nat_eq (step_number p k + 1) (length p.plan) || is_sum (planned_of p k).step || b) (read-same p n k q unread))
        (needed k k-lt)

-- ---- the parts agree after it

-- planes of the same levels, tilings and numbers of tiles
pub record SameFrames (g : Tiling) (old new : List Tiled) : Type 0 where
  pub count : length new ≡ length old
  pub levels : map level_of_plane new ≡ map level_of_plane old
  pub tilings : (k : ℕ) → (get_or new k (no_plane g)).tiling ≡ (get_or old k (no_plane g)).tiling
  pub counts : (k : ℕ) → length (get_or new k (no_plane g)).tiles ≡ length (get_or old k (no_plane g)).tiles

pub finished_whole : (plan : Plan) (input : Level) (g : Tiling) (started finished : List Bool) (planes after : List Tiled) (order now : List ℕ) (n : ℕ) (cells : List ℕ) → IsWhole (underway plan input g started finished planes order)
    → 0 < length (underway plan input g started finished planes order).progress.tiles → n < task_count (underway plan input g started finished planes order).progress → is_running (underway plan input g started finished planes order).progress n ≡ true
    → SameFrames g planes after → Settles (underway plan input g started finished planes order).progress n cells (cells_of_planes after) → IsWhole (underway plan input g started (set finished n true) after now)
finished_whole plan input g started finished planes after order now n cells whole some lt running frames settles =
    let p = (underway plan input g started finished planes order).progress in
    let parts = and_parts (flag started n) (not (flag finished n)) running in
    let unfinished : flag finished n ≡ false = not-true (flag finished n) parts.1 in
    record {
      workable = whole.workable;
      tiling = whole.tiling;
      width = refl;
      height = refl;
      tiles = refl;
      started = whole.started;
      finished = length-set finished n true ∙ whole.finished;
      begun = λ k e. elim (cases_eq k n) [
        | inl here ↦ ap (flag started) here ∙ parts.0
        | inr other ↦ whole.begun k (sym (get_or-set_other finished n k true false other) ∙ e)
      ];
      calm = λ k k-lt e. list_all-weaker (λ u. not (reads p k u) || flag finished u) (λ u. not (reads p k u) || flag (set finished n true) u) (tasks_below p) (λ u. grows k u) (whole.calm k k-lt e);
      planes = frames.count ∙ whole.planes;
      levels = frames.levels ∙ whole.levels;
      tilings = λ k. frames.tilings k ∙ whole.tilings k;
      counts = λ k. frames.counts k ∙ whole.counts k;
      placed = refl;
      needed = finish_needed p input n cells (cells_of_planes after) whole.workable some lt whole.finished unfinished whole.needed settles;
    }
  where
    size : length finished ≡ task_count (underway plan input g started finished planes order).progress
    size = whole.finished

    grows : (k u : ℕ) → not (reads (underway plan input g started finished planes order).progress k u) || flag finished u ≡ true → not (reads (underway plan input g started finished planes order).progress k u) || flag (set finished n true) u ≡ true
    grows k u e = elim (or_cases (not (reads (underway plan input g started finished planes order).progress k u)) (flag finished u) e) [
      | inl unread ↦ or_left (not (reads (underway plan input g started finished planes order).progress k u)) (flag (set finished n true) u) unread
      | inr done ↦ or_right (not (reads (underway plan input g started finished planes order).progress k u)) (flag (set finished n true) u) (elim (cases_eq u n) [
        | inl here ↦ ap (flag (set finished n true)) here ∙ get_or-set_same finished n true false (omega (arith, size))
        | inr other ↦ get_or-set_other finished n u true false other ∙ done
      ])
    ]
