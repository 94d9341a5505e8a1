-- Turns of work, one after another.
use Rattle.std.proofs.Common.{◌≡◌, ℕ, ◌+◌, ◌≤◌, [], ◌++◌, refl, sym, ap, ◌∙◌, arith, append_assoc}
use Rattle.std.proofs.lemmas.List.{append-nil}
use Rattle.mw_model.specs.Machine.{Machine}
use Rattle.mw_model.specs.Stands.{CoreView, StandsFor, running_count}
use Rattle.mw_session_laws.proofs.mw_model_laws.RunStates.{reached}
use Rattle.mw_session_laws.proofs.mw_model_laws.RunReplay.{run_join}
use Rattle.mw_core.specs.mw_core_laws.Counts.{NonePending}
use Rattle.mw_session_laws.proofs.Working.{works_any_order}
use Rattle.mw_session_laws.proofs.Finishing.{only_append}
use Rattle.mw_core_waves.specs.Work.{Worked, AllWorked}
use Rattle.mw_core_waves.proofs.TicketCounts.{few-left}

-- some turns and one more
pub worked-on : (m : Machine) (old c new : CoreView) (n : ℕ) → (h : Worked m old c n) → Worked h.state c new 1 → Worked m old new (n + 1)
worked-on m old c new n h k = record {
  items = h.items ++ k.items;
  state = k.state;
  log = k.log ∙ ap (λ l. l ++ k.items) h.log ∙ append_assoc old.log h.items k.items;
  side = k.side ∙ h.side;
  only = only_append h.items k.items h.only k.only;
  run = run_join h.items k.items m h.state k.state h.run k.run;
  stands = k.stands;
  idle = k.idle;
  fewer = omega (arith, h.fewer, k.fewer);
}

pub worked-none : (m : Machine) (c : CoreView) → StandsFor c m → running_count c ≡ 0 → Worked m c c 0
worked-none m c s none = record { items = []; state = m; log = sym (append-nil c.log); side = refl; only = tt; run = refl; stands = s; idle = none; fewer = omega arith }

-- when none is pending any more, all work was run
pub worked-all : (m : Machine) (old new : CoreView) (n : ℕ) → StandsFor old m → (h : Worked m old new n) → NonePending h.state.table → AllWorked m old new
worked-all m old new n s h none = record {
  items = h.items;
  state = h.state;
  log = h.log;
  side = h.side;
  only = h.only;
  run = h.run;
  works = works_any_order h.items m h.state (reached old.log m s.run) h.only h.run none;
  stands = h.stands;
  idle = h.idle;
}

-- there are fewer tasks than turns
pub worked-long : (m : Machine) (old new : CoreView) (n : ℕ) → StandsFor old m → 18446744073709551615 ≤ n → Worked m old new n → ⊥
worked-long m old new n s many h = absurd (omega (arith, h.fewer, many, few-left old m s))
