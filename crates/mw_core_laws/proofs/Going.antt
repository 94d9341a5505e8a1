-- Work stays work while the machine and the tasks go on.
use Rattle.std.proofs.Common.{◌≡◌, ℕ, ◌-◌, ◌<◌, ◌≤◌, true, false, not, ◌⊎◌, inl, inr, List, length, get_or, set, Option, Some, None, IsSome, sym, ap, ◌∙◌, subst}
use Rattle.std.specs.List.{AllByRecursion}
use Rattle.std.proofs.lemmas.Bool.{cases_eq, and_parts}
use Rattle.std.proofs.lemmas.List.{length-set, get_or-set_same, get_or-set_other}
use Rattle.mw_model.specs.declared.submissions.Submission.{Submission}
use Rattle.mw_model.specs.Pictures.{Picture}
use Rattle.mw_model.specs.Values.{Value}
use Rattle.mw_model.specs.Refusals.{submission_at, is_image}
use Rattle.mw_model.specs.Machine.{Machine}
use Rattle.mw_model.specs.Plans.{IsSourceAt, Plan, images_of, is_sum, planes, value_of_planes}
use Rattle.mw_model.specs.Tasks.{Progress, flag, task_count, nothing_planned, planned_of, tile_of_task, sources_of, made_of_planes, is_needed, remaining_tasks}
use Rattle.mw_model.specs.Stands.{IsWork, inputs_there, input_values, true_cells}
use Rattle.mw_core_progress.specs.mw_plan.PlansOf.{CanBeMade, planes_read}
use Rattle.mw_core_progress.specs.ProgressView.{ProgressView, IsWhole, IsStarted, IsFinished}
use Rattle.mw_core_progress.proofs.Flags.{flag-past, flag-set}
use Rattle.mw_core_laws.specs.Works.{Finishes, GoesOnUnder, IsPlanned, KeepsTrue, IsTrueWork, IsUnder}
use Rattle.mw_core_laws.proofs.Numbers.{length-placed}

-- ---- the machine goes on

pub work-same : (m n : Machine) (t : ℕ) (p : Progress) → GoesOnUnder m n t → IsWork m t p → IsWork n t p
work-same m n t p on w =
    let Frames : List (Option Value) → Type 0 = λ vs. AllByRecursion (λ (f : Picture). (f.width ≡ p.width) × (f.height ≡ p.height)) (images_of vs) in
    let Sources : List (Option Value) → Type 0 = λ vs. (k : ℕ) → AllByRecursion (IsSourceAt (length (images_of vs)) k) (get_or p.plan k nothing_planned).sources in
    record {
      means = ap (λ vs. value_of_planes (submission_at n.table.submissions t).shape p.plan (planes p.plan (images_of vs) p.width p.height)) on.inputs
          ∙ ap (λ (e : Submission). value_of_planes e.shape p.plan (planes p.plan (images_of (input_values m t)) p.width p.height)) on.submission ∙ w.means ∙ sym on.value;
      frames = subst Frames (sym on.inputs) w.frames;
      sources = subst Sources (sym on.inputs) w.sources;
      covers = w.covers;
      started = w.started;
      finished = w.finished;
      places = w.places;
      small = w.small;
      unfinished = w.unfinished;
      begun = w.begun;
      there = λ k f. on.there (w.there k f);
      placed = λ k cells h.
          let was = w.placed k cells h in
          (was.0, was.1 ∙ ap (λ vs. made_of_planes (planned_of p k).step (sources_of p (images_of vs) (planes p.plan (images_of vs) p.width p.height) k) (tile_of_task p k)) (sym on.inputs));
      needed = w.needed;
    }

pub planned-same : (m n : Machine) (t : ℕ) (u : ProgressView) → GoesOnUnder m n t → IsPlanned m t u → IsPlanned n t u
planned-same m n t u on w =
    let p = u.progress in
    let TileResult : List (Option Value) → Type 0 = λ vs. (k : ℕ) → k < length p.plan → CanBeMade (get_or p.plan k nothing_planned).step (planes_read p.plan (images_of vs) p.width p.height k) in
    let Last : Submission → Type 0 = λ e. is_image e.shape ≡ true → is_sum (get_or p.plan (length p.plan - 1) nothing_planned).step ≡ false in
    record {
      image = w.image;
      images = ap images_of on.inputs ∙ w.images;
      limits = w.limits;
      input = w.input;
      made = subst TileResult (sym on.inputs) w.made;
      last = subst Last (sym on.submission) w.last;
    }

pub under-same : (m n : Machine) (t : ℕ) (u : ProgressView) → GoesOnUnder m n t → IsUnder m t u → IsUnder n t u
under-same m n t u on w = record { whole = w.whole; planned = planned-same m n t u on w.planned; work = work-same m n t u.progress on w.work }

-- ---- a task is started

work-set_started : (m : Machine) (t : ℕ) (p : Progress) (n : ℕ) → IsWork m t p → inputs_there m.table t ≡ true → IsWork m t (record p { started = set p.started n true })
work-set_started m t p n w there = record {
  means = w.means;
  frames = w.frames;
  sources = w.sources;
  covers = w.covers;
  started = length-set p.started n true ∙ w.started;
  finished = w.finished;
  places = w.places;
  small = w.small;
  unfinished = w.unfinished;
  begun = λ k f. flag-set p.started n k (w.begun k f);
  there = λ k f. there;
  placed = w.placed;
  needed = w.needed;
}

pub work-started : (m : Machine) (t : ℕ) (u v : ProgressView) (n : ℕ) → IsWork m t u.progress → inputs_there m.table t ≡ true → IsStarted u v n → IsWork m t v.progress
work-started m t u v n w there s = subst (λ (p : Progress). IsWork m t p) (sym s.progress) (work-set_started m t u.progress n w there)

-- what was planned stays where the plan, the frame and the level stay
planned-stays : (m : Machine) (t : ℕ) (u v : ProgressView) → v.progress.plan ≡ u.progress.plan → v.progress.width ≡ u.progress.width → v.progress.height ≡ u.progress.height → v.input ≡ u.input → IsPlanned m t u → IsPlanned m t v
planned-stays m t u v plan wide high input w =
    let p = u.progress in
    let TileResult : Plan → ℕ → ℕ → Type 0 = λ q width height. (k : ℕ) → k < length q → CanBeMade (get_or q k nothing_planned).step (planes_read q (images_of (input_values m t)) width height k) in
    let Last : Plan → Type 0 = λ q. is_image (submission_at m.table.submissions t).shape ≡ true → is_sum (get_or q (length q - 1) nothing_planned).step ≡ false in
    record {
      image = w.image;
      images = w.images;
      limits = w.limits;
      input = input ∙ w.input;
      made = subst (λ (q : Plan). TileResult q v.progress.width v.progress.height) (sym plan)
          (subst (λ (n : ℕ). TileResult p.plan n v.progress.height) (sym wide) (subst (λ (n : ℕ). TileResult p.plan p.width n) (sym high) w.made));
      last = subst Last (sym plan) w.last;
    }

planned-started : (m : Machine) (t : ℕ) (u v : ProgressView) (n : ℕ) → IsStarted u v n → IsPlanned m t u → IsPlanned m t v
planned-started m t u v n s w =
    planned-stays m t u v (ap (λ (p : Progress). p.plan) s.progress) (ap (λ (p : Progress). p.width) s.progress) (ap (λ (p : Progress). p.height) s.progress) s.input w

pub under-started : (m : Machine) (t : ℕ) (u v : ProgressView) (n : ℕ) → IsUnder m t u → inputs_there m.table t ≡ true → IsWhole v → IsStarted u v n → IsUnder m t v
under-started m t u v n w there whole s = record { whole = whole; planned = planned-started m t u v n s w.planned; work = work-started m t u v n w.work there s }

-- ---- a task is finished

-- the work with task n finished, where this is kept
abbrev after : Progress → ℕ → List (Option (List ℕ)) → Progress
after p n placed = record p { finished = set p.finished n true; placed = placed }

progress-finished : (old new : ProgressView) (n : ℕ) (cells : List ℕ) → IsFinished old new n cells → new.progress ≡ after old.progress n new.progress.placed
progress-finished old new n cells f = λ i. record {
  width = f.width i;
  height = f.height i;
  plan = f.plan i;
  tiles = f.tiles i;
  started = f.started i;
  finished = f.finished i;
  placed = new.progress.placed;
}

-- what is kept then: what that task made, or what was kept before
abbrev StaysOrIs : Machine → ℕ → Progress → ℕ → List (Option (List ℕ)) → Type 0
StaysOrIs m t p n placed = (k : ℕ) (found : List ℕ) → get_or placed k None ≡ Some found → ((k ≡ n) × (found ≡ true_cells m t p n)) ⊎ (get_or p.placed k None ≡ Some found)

stays-or-is : (m : Machine) (t : ℕ) (old new : ProgressView) (n : ℕ) (cells : List ℕ) → IsFinished old new n cells → cells ≡ true_cells m t old.progress n → StaysOrIs m t old.progress n new.progress.placed
stays-or-is m t old new n cells f is k found h = elim (f.placed k found h) [ inl here ↦ inl (here.0, here.1 ∙ is) | inr was ↦ inr was ]

keeps-after : (m : Machine) (t : ℕ) (p : Progress) (n : ℕ) (placed : List (Option (List ℕ))) → KeepsTrue m t p → StaysOrIs m t p n placed → KeepsTrue m t (after p n placed)
keeps-after m t p n placed w stays = record {
  means = w.means;
  frames = w.frames;
  sources = w.sources;
  placed = λ k found h. elim (stays k found h) [ inl here ↦ here.1 ∙ ap (true_cells m t p) (sym here.0) | inr was ↦ w.placed k found was ];
}

pub keeps-work : (m : Machine) (t : ℕ) (p : Progress) → IsWork m t p → KeepsTrue m t p
keeps-work m t p w = record { means = w.means; frames = w.frames; sources = w.sources; placed = λ k found h. (w.placed k found h).1 }

pub keeps-finished : (m : Machine) (t : ℕ) (old new : ProgressView) (n : ℕ) (cells : List ℕ) → KeepsTrue m t old.progress → IsFinished old new n cells → cells ≡ true_cells m t old.progress n → KeepsTrue m t new.progress
keeps-finished m t old new n cells w f is =
    subst (λ (p : Progress). KeepsTrue m t p) (sym (progress-finished old new n cells f)) (keeps-after m t old.progress n new.progress.placed w (stays-or-is m t old new n cells f is))

-- what the work with the task finished has to be, beside what it was
record IsAfter (p : Progress) (n : ℕ) (q : Progress) : Type 0 where
  pub within : n < length p.finished
  pub running : flag p.started n ≡ true
  pub places : length q.placed ≡ task_count q
  pub needed : (k : ℕ) → flag q.finished k ≡ true → is_needed q k ≡ true → IsSome (get_or q.placed k None)
  pub left : 1 ≤ remaining_tasks q

work-after : (m : Machine) (t : ℕ) (p : Progress) (n : ℕ) (placed : List (Option (List ℕ))) → IsWork m t p → StaysOrIs m t p n placed → IsAfter p n (after p n placed) → IsWork m t (after p n placed)
work-after m t p n placed w stays is = record {
  means = w.means;
  frames = w.frames;
  sources = w.sources;
  covers = w.covers;
  started = w.started;
  finished = length-set p.finished n true ∙ w.finished;
  places = is.places;
  small = w.small;
  unfinished = is.left;
  begun = λ k h. elim (cases_eq k n) [
    | inl e ↦ subst (λ (x : ℕ). flag p.started x ≡ true) (sym e) is.running
    | inr d ↦ w.begun k (sym (get_or-set_other p.finished n k true false d) ∙ h)
  ];
  there = w.there;
  placed = λ k found h. elim (stays k found h) [
    | inl here ↦
        (subst (λ (x : ℕ). flag (set p.finished n true) x ≡ true) (sym here.0) (get_or-set_same p.finished n true false is.within), here.1 ∙ ap (true_cells m t p) (sym here.0))
    | inr was ↦ let had = w.placed k found was in (flag-set p.finished n k had.0, had.1)
  ];
  needed = is.needed;
}

-- what is needed of a finished task is kept
needed-whole : (u : ProgressView) → IsWhole u → (k : ℕ) → flag u.progress.finished k ≡ true → is_needed u.progress k ≡ true → IsSome (get_or u.progress.placed k None)
needed-whole u whole k finished needed = (whole.needed k (subst (λ (x : ℕ). k < x) whole.finished (flag-past u.progress.finished k finished))).1 (finished, needed)

pub work-finished : (m : Machine) (t : ℕ) (old new : ProgressView) (n : ℕ) → IsWork m t old.progress → Finishes m t old new n → 1 ≤ remaining_tasks new.progress → IsWork m t new.progress
work-finished m t old new n w f left =
    let p = old.progress in
    let q = new.progress in
    let shape = progress-finished old new n f.cells f.finished in
    let is : IsAfter p n q = record {
      within = subst (λ (x : ℕ). n < x) (sym w.finished) f.within;
      running = (and_parts (flag p.started n) (not (flag p.finished n)) f.running).0;
      places = length-placed new f.whole;
      needed = needed-whole new f.whole;
      left = left;
    } in
    subst (λ (x : Progress). IsWork m t x) (sym shape)
    (work-after m t p n q.placed w (stays-or-is m t old new n f.cells f.finished f.is) (subst (λ (x : Progress). IsAfter p n x) shape is))

planned-finished : (m : Machine) (t : ℕ) (old new : ProgressView) (n : ℕ) (cells : List ℕ) → IsFinished old new n cells → IsPlanned m t old → IsPlanned m t new
planned-finished m t old new n cells f w = planned-stays m t old new f.plan f.width f.height f.input w

pub true-under : (m : Machine) (t : ℕ) (u : ProgressView) → IsUnder m t u → IsTrueWork m t u
true-under m t u w = record { whole = w.whole; planned = w.planned; keeps = keeps-work m t u.progress w.work }

pub true-finished : (m : Machine) (t : ℕ) (old new : ProgressView) (n : ℕ) → IsTrueWork m t old → Finishes m t old new n → IsTrueWork m t new
true-finished m t old new n w f =
    record { whole = f.whole; planned = planned-finished m t old new n f.cells f.finished w.planned; keeps = keeps-finished m t old new n f.cells w.keeps f.finished f.is }

pub under-finished : (m : Machine) (t : ℕ) (old new : ProgressView) (n : ℕ) → IsUnder m t old → Finishes m t old new n → 1 ≤ remaining_tasks new.progress → IsUnder m t new
under-finished m t old new n w f left =
    record { whole = f.whole; planned = planned-finished m t old new n f.cells f.finished w.planned; work = work-finished m t old new n w.work f left }
