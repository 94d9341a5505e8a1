use Rattle.std.proofs.Common.{◌≡◌, ◌≤◌, ◌-◌}
use Rattle.std.specs.Io.KnownBytes.{Keeps}
use Rattle.mw_model.specs.declared.limits.TheConstants.{READ_LIMIT}
use Rattle.mw_wire.proofs.source.receive.Given as goal

abbrev pub invariant-tries : goal.invariant-tries
invariant-tries g l = record {
  kept : Keeps (g.R.Read.remaining l.fn.source.inner) (g.R.Read.remaining l.source.inner);
  failed : l.source.failed ≡ l.fn.source.failed;
  few : l.source.reads ≤ READ_LIMIT;
  more : l.fn.source.reads ≤ l.source.reads;
}

abbrev pub decreases-tries : goal.decreases-tries
decreases-tries g l = READ_LIMIT - l.source.reads
