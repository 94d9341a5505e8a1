use Rattle.std.proofs.Common.{arith}
use Rattle.mw_server_socket.proofs.Closings.{drops-read}
use Rattle.mw_server_socket.proofs.closing.drop_rest.Goals as goal

pub pieces-preserved-in_default-1 : goal.pieces-preserved-in_default-1
pieces-preserved-in_default-1 g c =
    let more = c.read.ensures.counted in
    let so_far = c.pieces.invariant.counted in
    let few = c.requires.few in
    let less = c.pieces-test.true in
    record {
      dropped = drops-read _ _ _ c.read.result _ c.pieces.invariant.dropped c.read.ensures.bytes;
      few = omega arith;
      counted = grind (arith, more, so_far, few, less);
    }
