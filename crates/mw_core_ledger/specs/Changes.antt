-- How a session call changes what a ledger shows.
use Rattle.std.specs.Prelude.{ℕ, ◌≡◌, ◌++◌, ◌∷◌, [], length, List, if◌then◌else◌, Option, None}
use Rattle.mw_model.specs.declared.names.Name.{Name}
use Rattle.mw_model.specs.declared.calls.Call.{Call}
use Rattle.mw_model.specs.declared.calls.Reply.TheVariants as reply
use Rattle.mw_model.specs.declared.calls.LogItem.{LogItem}
use Rattle.mw_model.specs.declared.calls.LogItem.TheVariants as item
use Rattle.mw_model.specs.Refusals.{Table, outcome_at, is_pending}
use Rattle.mw_model.specs.Machine.{with_entry}
use Rattle.mw_core_tasks.specs.mw_core_progress.ProgressView.{ProgressView}
use Rattle.mw_core_tasks.specs.mw_store.declared.kept.Entry.{Entry}
use Rattle.mw_core_tasks.specs.mw_store.Entries.{submission_of, outcome_of, payload_in}
use Rattle.mw_core_ledger.specs.Books.{Book, work_at}

-- one item more in the log, which then has so much room
abbrev pub noted : Book → LogItem → ℕ → Book
noted b i room = record b { log = b.log ++ i ∷ []; room = room }

-- one entry more, with its work and the item of its call in the log, which then has so much room
abbrev pub with_accepted : Book → Call → Name → Entry → Option ProgressView → ℕ → Book
with_accepted b c n e u room = record {
  table = with_entry b.table n (submission_of e) (outcome_of e);
  kept = b.kept ++ payload_in e ∷ [];
  in_progress = b.in_progress ++ u ∷ [];
  log = b.log ++ item.Call c (reply.Accepted (length b.table.names)) ∷ [];
  side = b.side;
  room = room;
}

-- the work under each ticket that is pending stays, and no other has any
abbrev pub KeepsInProgress : Table → List (Option ProgressView) → List (Option ProgressView) → Type 0
KeepsInProgress w old new = (t : ℕ) → work_at new t ≡ (if is_pending (outcome_at w.outcomes t) then work_at old t else None)
