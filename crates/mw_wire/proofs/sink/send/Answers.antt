use Rattle.std.proofs.Common.{arith, ◌∙◌}
use Rattle.std.proofs.Math.Seq.{take-add}
use Rattle.std.proofs.KnownBytes.{Appends-trans}
use Rattle.mw_wire.proofs.sink.send.Goals as goal

pub loop-at-preserved : goal.loop-at-preserved
loop-at-preserved g c =
    let more = rw c.split_at.ensures.back at c.in-Ok.ensures.bytes in
    let room = c.in-Ok.ensures.bound in
    let len = c.split_at.ensures.back_len in
    (omega (arith, room, len), rw take-add (Appends-trans _ _ _ _ _ c.loop-at.invariant.1 more), (c.in-Ok.ensures.flag).0 (omega arith) ∙ c.loop-at.invariant.2)
