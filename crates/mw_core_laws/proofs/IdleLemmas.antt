-- Where no task is ready and none is running, nothing is pending.
use Rattle.std.proofs.Common.{◌≡◌, ℕ, zero, suc, ◌+◌, ◌*◌, ◌/◌, ◌<◌, ◌≤◌, Bool, true, false, not, ◌⊎◌, inl, inr, List, [], ◌∷◌, length, nat_eq, refl, sym, ap, ◌∙◌, subst, arith}
use Rattle.std.specs.Prelude.{◌&&◌, ◌||◌}
use Rattle.std.specs.List.{AllByRecursion, range_with_len, list_all, list_any}
use Rattle.std.proofs.lemmas.Bool.{cases_lt, cases_Bool, eqb-true, not-false}
use Rattle.std.proofs.lemmas.Nat.{le-div}
use Rattle.std.proofs.Math.Nat.{div-mul-le_self}
use Rattle.std.proofs.Math.Bool.{or-true}
use Rattle.mw_model.proofs.mw_facts.Counts.{count_by-none, count_by-some}
use Rattle.mw_model.specs.Refusals.{Table, outcome_at, is_pending, is_there}
use Rattle.mw_model.specs.Machine.{Machine}
use Rattle.mw_model.specs.Plans.{Source, FromInput, FromStep, IsSourceAt, images_of}
use Rattle.mw_model.specs.Tasks.{Progress, flag, task_count, step_number, planned_of, is_step, meets, reads, place_of_task, tile_of_task, is_ready, is_running, ready_tasks, running_tasks}
use Rattle.mw_model.specs.Stands.{CoreView, StandsFor, IsWork, inputs_of, inputs_there, input_values, may_run, ready_under, ready_count, running_count}
use Rattle.mw_core_laws.specs.Counts.{NonePending}
use Rattle.mw_store.proofs.mw_model_laws.RunWaiting.{one_can_finish}
use Rattle.mw_core_laws.specs.Counts.{running_under}
use Rattle.mw_core_laws.proofs.StandsLemmas.{stands-sound}
use Rattle.mw_core_laws.proofs.CountLemmas.{sum-at}

-- ---- counts and searches over the numbers below a bound

-- the first number that passes
record First (q : ℕ → Bool) (n : ℕ) : Type 0 where
  place : ℕ
  within : place < n
  here : q place ≡ true
  before : (j : ℕ) → j < place → q j ≡ false

none-or-first : (q : ℕ → Bool) (n : ℕ) → ((j : ℕ) → j < n → q j ≡ false) ⊎ First q n
none-or-first q zero = inl (λ j l. absurd (omega (arith, l)))
none-or-first q (suc n) =
    elim (none-or-first q n) [
      | inl none ↦ elim (cases_Bool (q n)) [
        | inl passes ↦ inr (record { place = n; within = omega arith; here = passes; before = none })
        | inr fails ↦ inl (λ j l. elim (cases_lt j n) [
          | inl below ↦ none j below
          | inr past ↦ let last : j ≡ n = omega (arith, l, past) in ap q last ∙ fails
        ])
      ]
      | inr f ↦ inr (record { place = f.place; within = omega (arith, f.within); here = f.here; before = f.before })
    ]

all-from : (q : ℕ → Bool) (a n : ℕ) → ((k : ℕ) → a ≤ k → k < a + n → q k ≡ true) → list_all q (range_with_len a n) ≡ true
all-from q a zero h = refl
all-from q a (suc n) h =
    let here : q a ≡ true = h a (omega arith) (omega arith) in
    rw here (all-from q (a + 1) n (λ k l u. h k (omega (arith, l)) (omega (arith, u))))

all-list : (q : ℕ → Bool) (xs : List ℕ) → AllByRecursion (λ x. q x ≡ true) xs → list_all q xs ≡ true
all-list q [] h = refl
all-list q (x ∷ xs) h = rw h.0 (all-list q xs h.1)

-- ---- the work under a ticket

-- a step reads no step that is not before it
reads-before : (n k j : ℕ) (sources : List Source) → AllByRecursion (IsSourceAt n k) sources → k ≤ j → list_any (is_step j) sources ≡ false
reads-before n k j [] h l = refl
reads-before n k j (FromInput i ∷ sources) h l = reads-before n k j sources h.1 l
reads-before n k j (FromStep i ∷ sources) h l =
    elim (cases_Bool (nat_eq i j)) [
      | inl same ↦ absurd (omega (arith, eqb-true i j same, h.0, l))
      | inr other ↦ rw other (reads-before n k j sources h.1 l)
    ]

steps-in-order : (p : Progress) (k u : ℕ) → k < task_count p → k ≤ u → step_number p k ≤ step_number p u
steps-in-order p k u within l =
    let n = length p.tiles in
    elim (cases_lt 0 n) [
      | inl some ↦ le-div (k / n) u n some (omega (arith, div-mul-le_self k n, l))
      | inr none ↦ let bare : length p.tiles ≡ 0 = omega (arith, none) in let empty : task_count p ≡ 0 = ap (λ x. length p.plan * x) bare ∙ omega arith in absurd (omega (arith, within, empty))
    ]

-- the first task that is not finished is ready or running
pub goes-on : (m : Machine) (t : ℕ) (p : Progress) → IsWork m t p → (1 ≤ ready_tasks p) ⊎ (1 ≤ running_tasks p)
goes-on m t p w =
    let left : ℕ → Bool = λ n. not (flag p.finished n) in
    elim (none-or-first left (task_count p)) [
      | inl none ↦ absurd (omega (arith, w.unfinished, count_by-none left 0 (task_count p) (λ k l u. none k (omega (arith, u)))))
      | inr f ↦
          let k = f.place in
          elim (cases_Bool (flag p.started k)) [
            | inl begun ↦
                let runs : is_running p k ≡ true = rw (begun, f.here) refl in
                inr (count_by-some (is_running p) (task_count p) k f.within runs)
            | inr waits ↦
                let done : (u : ℕ) → (not (reads p k u) || flag p.finished u) ≡ true
                = λ u. elim (cases_lt u k) [
                  | inl below ↦ let finished : flag p.finished u ≡ true = not-false (flag p.finished u) (f.before u below) in rw finished (or-true (not (reads p k u)))
                  | inr past ↦
                      let none : list_any (is_step (step_number p u)) (planned_of p k).sources ≡ false
                      = reads-before (length (images_of (input_values m t))) (step_number p k) (step_number p u) (planned_of p k).sources (w.sources (step_number p k)) (steps-in-order p k u f.within past) in
                      let not_read : reads p k u ≡ false = ap (λ b. b && meets (place_of_task p k) (tile_of_task p u)) none in
                      rw not_read refl
                ] in
                let ready : is_ready p k ≡ true = rw waits (all-from (λ u. not (reads p k u) || flag p.finished u) 0 (task_count p) (λ u l h. done u)) in
                inl (count_by-some (is_ready p) (task_count p) k f.within ready)
          ]
    ]

-- ---- all tickets

-- Where nothing is ready and nothing is running, nothing is pending.
pub nothing-pending : (c : CoreView) (m : Machine) → StandsFor c m → ready_count c ≡ 0 → running_count c ≡ 0 → NonePending m.table
nothing-pending c m s ready running t within pending =
    let sound = stands-sound c m s in
    let found = one_can_finish m t sound within pending in
    let u = found.0 in
    let can = found.1 in
    let named : u < length m.table.names = omega (arith, can.within, sound.lengths.outcomes) in
    let Named : Table → Type 0 = λ w. u < length w.names in
    let here : u < length c.table.names = subst Named (sym s.table) named in
    let has = s.work u named can.pending in
    let there : inputs_there m.table u ≡ true = all-list (λ i. is_there (outcome_at m.table.outcomes i)) (inputs_of m.table u) can.inputs_there in
    let waits : is_pending (outcome_at m.table.outcomes u) ≡ true = ap is_pending can.pending in
    let runs : may_run c.table u ≡ true = ap (λ w. may_run w u) s.table ∙ rw (waits, there) refl in
    let ready_here = sum-at (ready_under c) (length c.table.names) u here in
    let running_here = sum-at (running_under c) (length c.table.names) u here in
    let all_ready : ready_under c u ≡ ready_tasks has.0 = rw (runs, has.1) refl in
    let all_running : running_under c u ≡ running_tasks has.0 = rw has.1 refl in
    elim (goes-on m u has.0 has.2) [
      | inl r ↦ absurd (omega (arith, ready, ready_here, all_ready, r))
      | inr r ↦ absurd (omega (arith, running, running_here, all_running, r))
    ]
