use Rattle.std.proofs.Common.{◌≡◌, take}
use Rattle.mw_model.specs.Stands.{ready_under}
use Rattle.mw_core_ledger.specs.Books.{seen_of}
use Rattle.mw_core_ledger.proofs.Anew.{AreAnew}
use Rattle.mw_core_ledger.proofs.tally.Counts.settle.Given as goal

abbrev pub invariant-loop-u : goal.invariant-loop-u
invariant-loop-u l = record {
  anew : AreAnew (ready_under (seen_of l.ledger)) l.initial.self-inside.ready l.self-inside.ready (take l.u-index l.waiters);
  running : l.self-inside.running ≡ l.initial.self-inside.running;
}
