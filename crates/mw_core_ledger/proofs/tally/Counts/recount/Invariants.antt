use Rattle.std.proofs.Common.{◌≡◌, ℕ, ◌*◌, ◌<◌, ◌≤◌, length, sum, get_or}
use Rattle.mw_model.specs.Stands.{ready_under}
use Rattle.mw_core_tasks.specs.mw_core_laws.Counts.{running_under}
use Rattle.mw_core_ledger.specs.Books.{seen_of}
use Rattle.mw_core_ledger.proofs.Rows.{row}
use Rattle.mw_core_ledger.proofs.tally.Counts.recount.Given as goal

abbrev pub invariant-loop-t : goal.invariant-loop-t
invariant-loop-t l = record {
  long : length l.self-inside.ready ≡ length l.ledger.table.names;
  end : l.t-end ≡ length l.ledger.table.names;
  ready : (v : ℕ) → v < l.t → get_or l.self-inside.ready v 0 ≡ ready_under (seen_of l.ledger) v;
  running : l.self-inside.running ≡ sum (row (running_under (seen_of l.ledger)) l.t);
  few : l.self-inside.running ≤ l.t * 4194304;
}
