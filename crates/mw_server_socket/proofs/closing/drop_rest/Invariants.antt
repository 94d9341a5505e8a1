use Rattle.std.proofs.Common.{◌≡◌, ◌≤◌, ◌+◌, ◌-◌}
use Rattle.mw_server_socket.specs.Closings.{Drops}
use Rattle.mw_server_socket.proofs.closing.drop_rest.Given as goal

abbrev pub invariant-pieces : goal.invariant-pieces
invariant-pieces g l = record {
  dropped : Drops (g.R.Read.remaining l.fn.source.inner) (g.R.Read.remaining l.source.inner);
  few : l.count ≤ 16384;
  counted : l.source.reads ≡ l.fn.source.reads + l.count;
}

abbrev pub decreases-pieces : goal.decreases-pieces
decreases-pieces g l = 16384 - l.count
