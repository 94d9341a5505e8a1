-- The counts are right after a change of the ledger.
use Rattle.std.proofs.Common.{◌≡◌, ◌≢◌, ℕ, Bool, false, nat_eq, ◌+◌, ◌-◌, ◌*◌, ◌<◌, ◌≤◌, ◌^◌, inl, inr, List, [], ◌∷◌, ◌++◌, length, get_or, set, sum, Option, None, option_map, sym, ap, ◌∙◌, arith, length-set, length-append}
use Rattle.std.specs.Prelude.{◌&&◌}
use Rattle.std.specs.Option.{option_map_or}
use Rattle.std.specs.List.{list_any}
use Rattle.std.proofs.lemmas.Bool.{cases_Bool, cases_eq}
use Rattle.std.proofs.lemmas.List.{get_or-set_same, get_or-set_other}
use Rattle.std.proofs.lemmas.List.FromFn.{length-map-range_with_len, length-range_with_len}
use Rattle.std.proofs.lemmas.List.Sums.{count_by-le-length}
use Rattle.mw_model.proofs.mw_facts.Elements.{get_or-push_below}
use Rattle.mw_model.proofs.mw_facts.Finds.{option_cases}
use Rattle.mw_model.proofs.mw_facts.Tests.{list_any-range}
use Rattle.mw_model.specs.declared.calls.Call.{Call}
use Rattle.mw_model.specs.declared.calls.Outcome.{Outcome}
use Rattle.mw_model.specs.declared.calls.Outcome.TheVariants as outcome
use Rattle.mw_model.specs.declared.names.Name.{Name}
use Rattle.mw_model.specs.Machine.{settled}
use Rattle.mw_model.specs.Refusals.{Table, outcome_at, is_pending}
use Rattle.mw_model.specs.Stands.{CoreView, progress_at, inputs_of, is_wanted, ready_under, running_count}
use Rattle.mw_model.specs.Tasks.{Progress, is_running, running_tasks, task_count, tasks_below}
use Rattle.mw_core_tasks.specs.mw_core_progress.ProgressView.{ProgressView}
use Rattle.mw_core_tasks.proofs.mw_core_laws.CountLemmas.{sum-more, sum-at, sum-most}
use Rattle.mw_core_tasks.specs.mw_core_laws.Counts.{running_under}
use Rattle.mw_core_tasks.specs.mw_store.declared.kept.Entry.{Entry}
use Rattle.mw_core_ledger.specs.Books.{Book, IsOrderly, progress_of, seen_of, work_at}
use Rattle.mw_core_ledger.specs.Changes.{with_accepted}
use Rattle.mw_core_ledger.specs.Counts.{AreCounts, Tally, WaitFor, tally_grown}
use Rattle.mw_core_ledger.proofs.Anew.{AreAnew}
use Rattle.mw_core_ledger.proofs.ReadyLemmas.{work-alike, work-other, work-seen, ready-apart, ready-before, ready-other, ready-released}
use Rattle.mw_core_ledger.proofs.Rows.{row, row-at, row-is, row-set, sum-set}

-- ---- how many are running

running-alike : (c new : CoreView) (v : ℕ) → progress_at new.work v ≡ progress_at c.work v → running_under new v ≡ running_under c v
running-alike c new v same = ap (λ (o : Option Progress). option_map_or running_tasks o 0) same

running-some : (b : Book) (t : ℕ) → IsOrderly b → running_under (seen_of b) t ≤ 4194304
running-some b t orderly =
    let under : Option ProgressView → ℕ = λ o. option_map_or running_tasks (option_map progress_of o) 0 in
    let seen : running_under (seen_of b) t ≡ under (work_at b.in_progress t) = ap (λ (o : Option Progress). option_map_or running_tasks o 0) (work-seen b t) in
    elim (option_cases (work_at b.in_progress t)) [
      | inl none ↦ let e : under (work_at b.in_progress t) ≡ 0 = ap under none in omega (arith, seen, e)
      | inr some ↦
          let p = (some.0).progress in
          let e : under (work_at b.in_progress t) ≡ running_tasks p = ap under some.1 in
          omega (arith, seen, e, orderly.most t some.0 some.1, count_by-le-length (is_running p) (tasks_below p), length-range_with_len 0 (task_count p))
    ]

running-few : (b : Book) → IsOrderly b → running_count (seen_of b) ≤ 65536 * 4194304
running-few b orderly =
    let all = sum-most (running_under (seen_of b)) 4194304 (length b.table.names) (λ t lt. running-some b t orderly) in
    let small = orderly.stored.small in
    omega (arith, all, small)

-- the work under one ticket has changed
pub running-set : (b new : Book) (t was running now : ℕ) → IsOrderly b → t < length b.table.names → length new.table.names ≡ length b.table.names → was ≡ running_under (seen_of b) t
    → ((v : ℕ) → v ≢ t → progress_at (seen_of new).work v ≡ progress_at (seen_of b).work v) → running ≡ running_count (seen_of b) → (running ≤ 2 ^ 63 → now ≡ running - was + running_under (seen_of new) t) → now ≡ running_count (seen_of new)
running-set b new t was running now orderly within long was-is others running-is now-is =
    let before = running_under (seen_of b) in
    let after = running_under (seen_of new) in
    let n = length b.table.names in
    let changed = sum-set before after n t within (λ v lt ne. running-alike (seen_of b) (seen_of new) v (others v ne)) in
    let part = sum-at before n t within in
    let few : sum (row before n) ≤ 65536 * 4194304 = running-few b orderly in
    let is : running ≡ sum (row before n) = running-is in
    let all : sum (row after (length new.table.names)) ≡ sum (row after n) = ap (λ (k : ℕ). sum (row after k)) long in
    let is-now = now-is (omega arith) in
    omega (arith, all, is-now, is, few, part, changed, was-is)

-- ---- changes of a ledger

-- the work under one ticket has changed
pub counts-followed : (b new : Book) (old k : Tally) (t was : ℕ) (x : Option ProgressView) → IsOrderly b → t < length new.table.names → AreCounts (seen_of b) old → new ≡ record b { in_progress = set b.in_progress t x } → was ≡ running_under (seen_of b) t
    → k.ready ≡ set old.ready t (ready_under (seen_of new) t) → (old.running ≤ 2 ^ 63 → k.running ≡ old.running - was + running_under (seen_of new) t) → AreCounts (seen_of new) k
counts-followed b new old k t was x orderly in-new counts is was-is ready running =
    let n = length b.table.names in
    let table : new.table ≡ b.table = ap (λ (d : Book). d.table) is in
    let in_progress : new.in_progress ≡ set b.in_progress t x = ap (λ (d : Book). d.in_progress) is in
    let long : length new.table.names ≡ n = ap (λ (w : Table). length w.names) table in
    let within : t < n = omega arith in
    let written : set (row (ready_under (seen_of b)) n) t (ready_under (seen_of new) t) ≡ row (ready_under (seen_of new)) n =
    row-set (ready_under (seen_of b)) (ready_under (seen_of new)) n t within (λ v lt ne. ready-other b new t v x table in_progress ne)
    in (
      ready ∙ ap (λ (xs : List ℕ). set xs t (ready_under (seen_of new) t)) counts.0 ∙ written ∙ ap (row (ready_under (seen_of new))) (sym long),
      running-set b new t was old.running k.running orderly within long was-is (λ v ne. work-other b new t v x in_progress ne) counts.1 running,
    )

-- an entry was added
pub counts-added : (b new : Book) (before old k : Tally) (t : ℕ) (c : Call) (n : Name) (e : Entry) (u : Option ProgressView) (room : ℕ) → IsOrderly b → AreCounts (seen_of b) before → old ≡ tally_grown before → new ≡ with_accepted b c n e u room → t + 1 ≡ length old.ready
    → k.ready ≡ set old.ready t (ready_under (seen_of new) t) → (old.running ≤ 2 ^ 63 → k.running ≡ old.running - 0 + running_under (seen_of new) t) → AreCounts (seen_of new) k
counts-added b new before old k t c n e u room orderly counts old-is is last ready running =
    let m = length b.table.names in
    let f = ready_under (seen_of b) in
    let g = ready_under (seen_of new) in
    let p = running_under (seen_of b) in
    let q = running_under (seen_of new) in
    let names : length new.table.names ≡ length (b.table.names ++ n ∷ []) = ap (λ (d : Book). length d.table.names) is in
    let long : length new.table.names ≡ m + 1 = omega (arith, names, length-append b.table.names (n ∷ [])) in
    let first = row f m in
    let first-long = length-map-range_with_len f 0 m in
    let grown-long = length-append first (0 ∷ []) in
    let held : old.ready ≡ first ++ 0 ∷ [] = ap (λ (d : Tally). d.ready) old-is ∙ ap (λ (xs : List ℕ). xs ++ 0 ∷ []) counts.0 in
    let held-long : length old.ready ≡ length (first ++ 0 ∷ []) = ap (λ (xs : List ℕ). length xs) held in
    let t-is : t ≡ m = omega arith in
    let new-long : length (set (first ++ 0 ∷ []) t (g t)) ≡ length (first ++ 0 ∷ []) = simp length-set in
    let same : (v : ℕ) → v < m → g v ≡ f v = λ v lt. ap (λ (d : Book). ready_under (seen_of d) v) is ∙ ready-before b c n e u room v orderly lt in
    let written : set (first ++ 0 ∷ []) t (g t) ≡ row g (m + 1) = row-is (set (first ++ 0 ∷ []) t (g t)) g (m + 1) (omega arith) (λ v lt. elim (cases_eq v t) [
      | inl here ↦ ap (λ (j : ℕ). get_or (set (first ++ 0 ∷ []) t (g t)) j 0) here ∙ get_or-set_same (first ++ 0 ∷ []) t (g t) 0 (omega arith) ∙ sym (ap g here)
      | inr other ↦ get_or-set_other (first ++ 0 ∷ []) t v (g t) 0 other ∙ get_or-push_below first 0 0 v (omega arith) ∙ row-at f m v (omega arith) ∙ sym (same v (omega arith))
    ])
    in
    let alike : (v : ℕ) → v < m → q v ≡ p v = λ v lt. running-alike (seen_of b) (seen_of new) v
    (work-alike b new v (ap (λ (d : Book). work_at d.in_progress v) is ∙ get_or-push_below b.in_progress u None v (let in_progress = orderly.in_progress in omega arith)))
    in
    let others : row q m ≡ row p m = row-is (row q m) p m (length-map-range_with_len q 0 m) (λ v lt. row-at q m v lt ∙ alike v lt) in
    let others-sum : sum (row q m) ≡ sum (row p m) = ap (λ (xs : List ℕ). sum xs) others in
    let more : sum (row q (m + 1)) ≡ sum (row q m) + q m = sum-more q m in
    let all : sum (row q (length new.table.names)) ≡ sum (row q (m + 1)) = ap (λ (j : ℕ). sum (row q j)) long in
    let ran : old.running ≡ sum (row p m) = ap (λ (d : Tally). d.running) old-is ∙ counts.1 in
    let few : sum (row p m) ≤ 65536 * 4194304 = running-few b orderly in
    let own : q t ≡ q m = ap q t-is in
    let runs = running (omega (arith, ran, few)) in
    let total : k.running ≡ sum (row q (length new.table.names)) = omega (arith, runs, ran, own, others-sum, more, all) in
    (ready ∙ ap (λ (xs : List ℕ). set xs t (g t)) held ∙ written ∙ ap (row g) (sym long), total)

-- a ticket is settled, and those that waited for it are counted anew
pub counts-settled : (b new : Book) (old k : Tally) (t was : ℕ) (mid waiters : List ℕ) → IsOrderly b → t < length new.table.names → AreCounts (seen_of b) old → new.table ≡ settled b.table t outcome.Done → new.in_progress ≡ set b.in_progress t None
    → was ≡ running_under (seen_of b) t → WaitFor b t waiters → mid ≡ set old.ready t (ready_under (seen_of new) t) → AreAnew (ready_under (seen_of new)) mid k.ready waiters
    → (old.running ≤ 2 ^ 63 → k.running ≡ old.running - was + running_under (seen_of new) t) → AreCounts (seen_of new) k
counts-settled b new old k t was mid waiters orderly in-new counts table in_progress was-is wait mid-is anew running =
    let n = length b.table.names in
    let f = ready_under (seen_of b) in
    let g = ready_under (seen_of new) in
    let long : length new.table.names ≡ n = ap (λ (w : Table). length w.names) table in
    let within : t < n = omega arith in
    let first-long = length-map-range_with_len f 0 n in
    let middle : mid ≡ set (row f n) t (g t) = mid-is ∙ ap (λ (xs : List ℕ). set xs t (g t)) counts.0 in
    let middle-long : length mid ≡ length (row f n) = ap (λ (xs : List ℕ). length xs) middle ∙ simp length-set in
    let whole = anew.long in
    let apart : (v : ℕ) → v < n → v ≢ t → list_any (nat_eq v) waiters ≡ false → g v ≡ f v =
    λ v lt ne out. elim (cases_Bool (is_pending (outcome_at b.table.outcomes v) && list_any (nat_eq t) (inputs_of b.table v))) [
      | inl waits ↦ absurd (let in_list = wait v lt waits in cc)
      | inr free ↦ ready-apart b new t v outcome.Done table in_progress ne free
    ]
    in
    let at : (v : ℕ) → v < n → get_or k.ready v 0 ≡ g v = λ v lt. elim (cases_Bool (list_any (nat_eq v) waiters)) [
      | inl waits ↦ anew.right v waits
      | inr out ↦ anew.kept v out ∙ ap (λ (xs : List ℕ). get_or xs v 0) middle ∙ elim (cases_eq v t) [
        | inl here ↦ ap (λ (j : ℕ). get_or (set (row f n) t (g t)) j 0) here ∙ get_or-set_same (row f n) t (g t) 0 (omega arith) ∙ sym (ap g here)
        | inr other ↦ get_or-set_other (row f n) t v (g t) 0 other ∙ row-at f n v lt ∙ sym (apart v lt other out)
      ]
    ]
    in (
      row-is k.ready g n (omega arith) at ∙ ap (row g) (sym long),
      running-set b new t was old.running k.running orderly within long was-is (λ v ne. work-other b new t v None in_progress ne) counts.1 running,
    )

-- a ticket has ended that is no input of a pending entry
pub counts-ended : (b new : Book) (old k : Tally) (t was : ℕ) (o : Outcome) → IsOrderly b → t < length new.table.names → AreCounts (seen_of b) old → new.table ≡ settled b.table t o → new.in_progress ≡ set b.in_progress t None → is_wanted b.table t ≡ false → was ≡ running_under (seen_of b) t
    → k.ready ≡ set old.ready t (ready_under (seen_of new) t) → (old.running ≤ 2 ^ 63 → k.running ≡ old.running - was + running_under (seen_of new) t) → AreCounts (seen_of new) k
counts-ended b new old k t was o orderly in-new counts table in_progress nobody was-is ready running =
    let n = length b.table.names in
    let long : length new.table.names ≡ n = ap (λ (w : Table). length w.names) table in
    let within : t < n = omega arith in
    let waits : ℕ → Bool = λ v. is_pending (outcome_at b.table.outcomes v) && list_any (nat_eq t) (inputs_of b.table v) in
    let apart : (v : ℕ) → v < n → waits v ≡ false =
    λ v lt. elim (cases_Bool (waits v)) [
      | inl some ↦ absurd (let any = list_any-range waits 0 n v (omega arith) (omega arith) some in cc)
      | inr free ↦ free
    ]
    in
    let written : set (row (ready_under (seen_of b)) n) t (ready_under (seen_of new) t) ≡ row (ready_under (seen_of new)) n =
    row-set (ready_under (seen_of b)) (ready_under (seen_of new)) n t within (λ v lt ne. ready-apart b new t v o table in_progress ne (apart v lt))
    in (
      ready ∙ ap (λ (xs : List ℕ). set xs t (ready_under (seen_of new) t)) counts.0 ∙ written ∙ ap (row (ready_under (seen_of new))) (sym long),
      running-set b new t was old.running k.running orderly within long was-is (λ v ne. work-other b new t v None in_progress ne) counts.1 running,
    )

-- ---- what the crate above asks

-- a ticket that is done is released
pub counts-released : (b new : Book) (t : ℕ) (k : Tally) → IsOrderly b → AreCounts (seen_of b) k → t < length b.table.names → outcome_at b.table.outcomes t ≡ outcome.Done → new.table ≡ settled b.table t outcome.Released → new.in_progress ≡ b.in_progress
    → AreCounts (seen_of new) k
counts-released b new t k orderly counts within done table in_progress =
    let n = length b.table.names in
    let long : length new.table.names ≡ n = ap (λ (w : Table). length w.names) table in
    let ready : row (ready_under (seen_of b)) n ≡ row (ready_under (seen_of new)) n =
    row-is (row (ready_under (seen_of b)) n) (ready_under (seen_of new)) n (length-map-range_with_len (ready_under (seen_of b)) 0 n) (λ v lt. row-at (ready_under (seen_of b)) n v lt ∙ sym (ready-released b new t v orderly within done table in_progress))
    in
    let running : row (running_under (seen_of b)) n ≡ row (running_under (seen_of new)) n = ap (λ (ws : List (Option ProgressView)). row (running_under (seen_of (record b { in_progress = ws }))) n) (sym in_progress) in (
      counts.0 ∙ ready ∙ ap (row (ready_under (seen_of new))) (sym long),
      counts.1 ∙ ap (λ (xs : List ℕ). sum xs) running ∙ ap (λ (j : ℕ). sum (row (running_under (seen_of new)) j)) (sym long),
    )

-- neither an entry nor work has changed
pub counts-kept : (b new : Book) (k : Tally) → new.table ≡ b.table → new.in_progress ≡ b.in_progress → AreCounts (seen_of b) k → AreCounts (seen_of new) k
counts-kept b new k table in_progress counts = rw (table, in_progress) counts
