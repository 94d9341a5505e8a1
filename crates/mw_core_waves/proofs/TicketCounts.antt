-- Counts of tasks under tickets.
use Rattle.std.proofs.Common.{◌≡◌, ℕ, ◌+◌, ◌*◌, ◌<◌, ◌≤◌, false, inl, inr, length, Some, None, sym, ap, ◌∙◌, subst, arith}
use Rattle.std.specs.Prelude.{not}
use Rattle.std.specs.Option.{option_map_or}
use Rattle.std.proofs.lemmas.Bool.{cases_lt, cases_Bool}
use Rattle.std.proofs.lemmas.List.Sums.{count_by-le-length}
use Rattle.std.proofs.lemmas.List.FromFn.{length-range_with_len}
use Rattle.mw_model.proofs.mw_facts.Finds.{option_cases}
use Rattle.mw_model.specs.Refusals.{Table, outcome_at, is_pending}
use Rattle.mw_model.specs.Machine.{Machine}
use Rattle.mw_model.specs.Tasks.{Progress, task_count, flag, tasks_below, running_tasks, remaining_tasks}
use Rattle.mw_model.specs.Stands.{CoreView, IsWork, StandsFor, progress_at, running_count}
use Rattle.mw_session_laws.proofs.mw_model_laws.RunStates.{reached}
use Rattle.mw_core.specs.mw_core_laws.Events.{WorkStays}
use Rattle.mw_core.proofs.mw_core_laws.CountLemmas.{sum-at, sum-most}
use Rattle.mw_core_waves.specs.Work.{tasks_left}
use Rattle.mw_core_waves.proofs.Totals.{total, total-falls, total-zero}

-- ---- counts under tickets

-- a count of the tasks under a ticket, and over all tickets
abbrev pub under : (Progress → ℕ) → CoreView → ℕ → ℕ
under f c t = option_map_or f (progress_at c.work t) 0

abbrev pub over_all : (Progress → ℕ) → CoreView → ℕ
over_all f c = total (under f c) (length c.table.names)

-- a settled ticket has no work
no-work : (c : CoreView) (m : Machine) (u : ℕ) → StandsFor c m → is_pending (outcome_at m.table.outcomes u) ≡ false → progress_at c.work u ≡ None
no-work c m u s settled_now = elim (option_cases (progress_at c.work u)) [
  | inl none ↦ none
  | inr some ↦ let e = ap is_pending (s.idle u some.0 some.1) in absurd cc
]

pub none-under : (f : Progress → ℕ) (c : CoreView) (m : Machine) (u : ℕ) → StandsFor c m → is_pending (outcome_at m.table.outcomes u) ≡ false → under f c u ≡ 0
none-under f c m u s settled_now = ap (λ o. option_map_or f o 0) (no-work c m u s settled_now)

-- work that stays, or goes
under-falls : (f : Progress → ℕ) (c new : CoreView) (n : Machine) (u : ℕ) → StandsFor new n → WorkStays c new → u < length c.table.names → under f new u ≤ under f c u
under-falls f c new n u s stays l = elim (cases_Bool (is_pending (outcome_at new.table.outcomes u))) [
  | inl p ↦ let e : under f new u ≡ under f c u = ap (λ o. option_map_or f o 0) (stays u l p) in omega (arith, e)
  | inr p ↦
      let e : under f new u ≡ 0 = none-under f new n u s (ap (λ (w : Table). is_pending (outcome_at w.outcomes u)) (sym s.table) ∙ p) in
      omega (arith, e)
]

-- a ticket that settles takes its tasks with it
pub over_all-falls : (f : Progress → ℕ) (c new : CoreView) (n : Machine) (t d : ℕ) → StandsFor new n → WorkStays c new → length new.table.names ≡ length c.table.names → t < length c.table.names
    → is_pending (outcome_at n.table.outcomes t) ≡ false → d ≤ under f c t → over_all f new + d ≤ over_all f c
over_all-falls f c new n t d s stays long l settled_now some =
    let none : under f new t ≡ 0 = none-under f new n t s settled_now in
    let fewer = total-falls (under f new) (under f c) (length c.table.names) t d l (omega (arith, none, some)) (λ u k other. under-falls f c new n u s stays k) in
    let same : over_all f new ≡ total (under f new) (length c.table.names) = ap (total (under f new)) long in
    omega (arith, same, fewer)

-- where no task was running, and none is under a new ticket, none is running
pub running_count-stays_none : (c new : CoreView) (n : Machine) → StandsFor new n → WorkStays c new → running_count c ≡ 0
    → ((u : ℕ) → length c.table.names ≤ u → u < length new.table.names → under running_tasks new u ≡ 0) → running_count new ≡ 0
running_count-stays_none c new n s stays none fresh = total-zero (under running_tasks new) (length new.table.names) (λ u l. elim (cases_lt u (length c.table.names)) [
  | inl b ↦ omega (arith, under-falls running_tasks c new n u s stays b, sum-at (under running_tasks c) (length c.table.names) u b, none)
  | inr past ↦ fresh u past l
])

-- the work under a pending ticket
pub work-under : (c : CoreView) (m : Machine) (t : ℕ) (p : Progress) → StandsFor c m → t < length c.table.names → progress_at c.work t ≡ Some p → IsWork m t p
work-under c m t p s l e =
    let named : t < length m.table.names = omega (arith, ap (λ (w : Table). length w.names) s.table, l) in
    let has = s.work t named (s.idle t p e) in
    let same : has.0 ≡ p = cc (has.1, e) in
    let P : Progress → Type 0 = λ q. IsWork m t q in
    subst P same has.2

pub count-under : (f : Progress → ℕ) (c : CoreView) (t : ℕ) (p : Progress) → progress_at c.work t ≡ Some p → under f c t ≡ f p
count-under f c t p e = ap (λ o. option_map_or f o 0) e

-- at most so many tasks are left
pub few-left : (c : CoreView) (m : Machine) → StandsFor c m → tasks_left c ≤ 65536 * 4194304
few-left c m s =
    let sound = reached c.log m s.run in
    let names = ap (λ (w : Table). length w.names) s.table in
    let each : (t : ℕ) → t < length c.table.names → under remaining_tasks c t ≤ 4194304 = λ t l. elim (option_cases (progress_at c.work t)) [
      | inl none ↦ let e : under remaining_tasks c t ≡ 0 = ap (λ o. option_map_or remaining_tasks o 0) none in omega (arith, e)
      | inr some ↦
          let p = some.0 in
          let w = work-under c m t p s l some.1 in
          let e = count-under remaining_tasks c t p some.1 in
          omega (arith, e, w.small, count_by-le-length (λ n. not (flag p.finished n)) (tasks_below p), length-range_with_len 0 (task_count p))
    ] in
    let all = sum-most (under remaining_tasks c) 4194304 (length c.table.names) each in
    omega (arith, all, names, sound.small)
