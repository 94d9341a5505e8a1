use Rattle.std.proofs.Common.{◌-◌, length}
use Rattle.mw_ready.specs.Counters.{Lowers, SameTiles}
use Rattle.mw_ready.proofs.Boxes.{readers}
use Rattle.mw_ready.proofs.readers.release_readers.Given as goal

abbrev pub invariant-loop-reader : goal.invariant-loop-reader
invariant-loop-reader l = record {
  same : SameTiles l.initial.queue l.queue;
  lowers : Lowers (readers l.needs l.grid l.step l.tile l.reader) l.initial.queue.waiting l.queue.waiting;
}

abbrev pub decreases-loop-reader : goal.decreases-loop-reader
decreases-loop-reader l = length l.needs - l.reader
