-- Events on tasks, for each machine that the core stands for.
use Rattle.std.specs.Prelude.{option_map}
use Rattle.std.specs.Option.{option_map_or}
use Rattle.std.proofs.Common.{◌≡◌, ◌↔◌, ℕ, ◌/◌, ◌%◌, ◌<◌, ◌≤◌, Bool, true, false, cond, inl, inr, List, [], ◌∷◌, ◌++◌, length, set, Option, Some, None, IsSome, refl, sym, ap, ◌∙◌, subst, arith}
use Rattle.std.proofs.lemmas.List.{get_or-set_same, get_or-set_other, get_or_past}
use Rattle.std.proofs.lemmas.Bool.{cases_lt, cases_eq, and_parts}
use Rattle.std.proofs.lemmas.Nat.{div-add-mod'}
use Rattle.mw_model.specs.declared.calls.Outcome.TheVariants as outcome
use Rattle.mw_model.specs.declared.calls.LogItem.TheVariants as item
use Rattle.mw_model.specs.Refusals.{Table, outcome_at, is_pending}
use Rattle.mw_model.specs.Machine.{Machine, CanDie, killed}
use Rattle.mw_model.specs.Tasks.{Progress, ready_tasks, remaining_tasks}
use Rattle.mw_model.specs.Stands.{CoreView, StandsFor, IsWork, may_run, progress_at, inputs_there, input_values, ready_under, remaining_of}
use Rattle.mw_store.proofs.mw_model_laws.RunCascade.{pending_is}
use Rattle.mw_core_laws.specs.Works.{true_task}
use Rattle.mw_store.specs.Stored.{DropsSpent}
use Rattle.mw_core_laws.specs.Facts.{IsComplete}
use Rattle.mw_core_laws.specs.Changes.{KeepsWork}
use Rattle.mw_core_laws.specs.TaskEvents.{Kills}
use Rattle.mw_core_laws.proofs.CallLemmas.{dies-work}
use Rattle.mw_core_laws.proofs.KeptInputs.{kept_inputs, inputs-kept}
use Rattle.mw_core_laws.proofs.StandsLemmas.{stands-sound, stands-dies}

-- ---- tasks by their numbers

-- two numbers of tasks of as many tiles a step
pub same-number : (a b l : ℕ) → a / l ≡ b / l → a % l ≡ b % l → a ≡ b
same-number a b l e f = sym (div-add-mod' a l) ∙ rw (e, f) (div-add-mod' b l)

-- the true task of a number is told by the plan and the tiling
pub same-plan : (m : Machine) (t k : ℕ) (p q : Progress) → q.plan ≡ p.plan → q.tiles ≡ p.tiles → q.width ≡ p.width → q.height ≡ p.height → true_task m t q k ≡ true_task m t p k
same-plan m t k p q a b c d = rw (a, b, c, d) refl

-- ---- what the core and the machine have under a ticket

pub has-place : (work : List (Option Progress)) (t : ℕ) (p : Progress) → progress_at work t ≡ Some p → t < length work
has-place work t p e = elim (cases_lt t (length work)) [
  | inl l ↦ l
  | inr past ↦ let none : progress_at work t ≡ None = get_or_past work t None past in absurd cc
]

-- the work under a pending ticket is work by the definitions
pub work-of : (c : CoreView) (m : Machine) (t : ℕ) (p : Progress) → StandsFor c m → t < length c.table.names → outcome_at c.table.outcomes t ≡ outcome.Pending → progress_at c.work t ≡ Some p → IsWork m t p
work-of c m t p s within pending work =
    let Named : Table → Type 0 = λ w. t < length w.names in
    let Pends : Table → Type 0 = λ w. outcome_at w.outcomes t ≡ outcome.Pending in
    let has = s.work t (subst Named s.table within) (subst Pends s.table pending) in
    let same : has.0 ≡ p = cc (has.1, work) in
    let P : Progress → Type 0 = λ q. IsWork m t q in
    subst P same has.2

-- the inputs that are kept are the inputs
pub kept-images : (c : CoreView) (m : Machine) (t : ℕ) → StandsFor c m → t < length c.table.names → outcome_at c.table.outcomes t ≡ outcome.Pending → inputs_there m.table t ≡ true
    → kept_inputs c.table c.kept t ≡ input_values m t
kept-images c m t s within pending there =
    let sound = stands-sound c m s in
    let Named : Table → Type 0 = λ w. t < length w.names in
    let Pends : Table → Type 0 = λ w. outcome_at w.outcomes t ≡ outcome.Pending in
    ap (λ w. kept_inputs w c.kept t) s.table
    ∙ inputs-kept c.kept m t s.agrees sound.lengths.outcomes (subst Named s.table within) (ap is_pending (subst Pends s.table pending)) there

-- ---- what may run

pub may-run : (c : CoreView) (t : ℕ) → 1 ≤ ready_under c t → may_run c.table t ≡ true
may-run c t e = go (may_run c.table t) (option_map_or ready_tasks (progress_at c.work t) 0) e
  where
    go : (b : Bool) (n : ℕ) → 1 ≤ cond b n 0 → b ≡ true
    go true n e = refl
    go false n e = absurd (omega (arith, e))

-- the inputs of a ready ticket are there, and it is pending
pub ready-there : (c : CoreView) (m : Machine) (t : ℕ) → StandsFor c m → 1 ≤ ready_under c t → (outcome_at c.table.outcomes t ≡ outcome.Pending) × (inputs_there m.table t ≡ true)
ready-there c m t s ready =
    let parts = and_parts (is_pending (outcome_at c.table.outcomes t)) (inputs_there c.table t) (may-run c t ready) in
    (pending_is (outcome_at c.table.outcomes t) parts.0, ap (λ w. inputs_there w t) (sym s.table) ∙ parts.1)

-- work stands under a ticket that is there
pub work-within : (c : CoreView) (t : ℕ) (p : Progress) → IsComplete c → progress_at c.work t ≡ Some p → t < length c.table.names
work-within c t p complete work =
    elim (cases_lt t (length c.table.names)) [
      | inl l ↦ l
      | inr past ↦ let none : progress_at c.work t ≡ None = get_or_past c.work t None (omega (arith, complete.work)) in absurd cc
    ]

-- a ticket has work exactly where it is pending
pub remaining-pending : (c : CoreView) (m : Machine) (t : ℕ) → StandsFor c m → IsComplete c → IsSome (remaining_of c t) ↔ ((t < length m.table.names) × (is_pending (outcome_at m.table.outcomes t) ≡ true))
remaining-pending c m t s complete =
    let Named : Table → Type 0 = λ w. t < length w.names in (
      λ some.
          let found = work-there (progress_at c.work t) some in
          (subst Named s.table (work-within c t found.0 complete found.1), ap is_pending (s.idle t found.0 found.1)),
      λ h.
          let has = s.work t h.0 (pending_is (outcome_at m.table.outcomes t) h.1) in
          let P : Option Progress → Type 0 = λ x. IsSome (option_map remaining_tasks x) in
          subst P (sym has.1) refl,
    )
  where
    work-there : (x : Option Progress) → IsSome (option_map remaining_tasks x) → (p : Progress) × (x ≡ Some p)
    work-there None h = absurd cc
    work-there (Some p) h = (p, refl)

-- ---- a task is started

-- the core with the task started
pub stands-started : (c new : CoreView) (m : Machine) (t : ℕ) (p q : Progress) → StandsFor c m → IsComplete c → t < length c.table.names → IsWork m t q → progress_at c.work t ≡ Some p
    → new ≡ record c { work = set c.work t (Some q) } → StandsFor new m
stands-started c new m t p q s complete within work was is =
    let in_work : t < length c.work = omega (arith, within, complete.work) in
    let d : CoreView = record c { work = set c.work t (Some q) } in
    let P : CoreView → Type 0 = λ x. StandsFor x m in
    subst P (sym is) (record {
      run = s.run;
      table = s.table;
      agrees = s.agrees;
      work = λ u l pending. elim (cases_eq u t) [
        | inl e ↦
            let here : progress_at d.work u ≡ Some q = rw e (get_or-set_same c.work t (Some q) None in_work) in
            let W : ℕ → Type 0 = λ x. IsWork m x q in
            (q, here, subst W (sym e) work)
        | inr n ↦ let had = s.work u l pending in (had.0, get_or-set_other c.work t u (Some q) None n ∙ had.1, had.2)
      ];
      idle = λ u x h. elim (cases_eq u t) [
        | inl e ↦ let P : ℕ → Type 0 = λ y. outcome_at m.table.outcomes y ≡ outcome.Pending in subst P (sym e) (s.idle t p was)
        | inr n ↦ s.idle u x (sym (get_or-set_other c.work t u (Some q) None n) ∙ h)
      ];
    })

-- ---- deaths for want of memory

pub kills : (c new : CoreView) (m : Machine) (t : ℕ) → StandsFor c m → IsComplete c → t < length c.table.names → outcome_at c.table.outcomes t ≡ outcome.Pending
    → new.table ≡ killed c.table t outcome.Memory → DropsSpent new.table c.kept new.kept → KeepsWork new.table c.work new.work → new.log ≡ c.log ++ item.Killed t ∷ [] → Kills c m t new
kills c new m t s complete within pending table kept work log =
    let sound = stands-sound c m s in
    let Named : Table → Type 0 = λ w. t < length w.names in
    let Pends : Table → Type 0 = λ w. outcome_at w.outcomes t ≡ outcome.Pending in
    let can : CanDie m.table t = record { within = omega (arith, subst Named s.table within, sound.lengths.outcomes); pending = subst Pends s.table pending } in
    record {
      can = can;
      stands = stands-dies c new m t outcome.Memory (item.Killed t) complete s within pending refl (can, refl) table kept work log;
      log = log;
      work = dies-work c new work;
    }
