use Rattle.std.proofs.Common.{pos, get_or, arith}
use Rattle.mw_model.proofs.mw_facts.Alls.{all-get_or}
use Rattle.mw_model.specs.declared.offsets.Offset.{Offset}
use Rattle.mw_offset_lent.specs.Offsets.{LeadsWithin}
use Rattle.mw_offset_lent.proofs.Rooms.{wider, within_more}
use Rattle.mw_offset_lent.proofs.places.around_of.Goals as goal

pub loop-i-preserved : goal.loop-i-preserved
loop-i-preserved c =
    let none : Offset = record { dx = pos 0; dy = pos 0 } in
    let offsets = c.args.offsets.now in
    let i = c.loop-i.i in
    let far = c.far_of-far.result in
    let across = c.max-across.result in
    let down = c.max-down.result in
    record {
      within = within_more c.loop-i.across c.loop-i.down across down i offsets none (omega arith) (omega (arith, c.max-across.ensures)) (omega (arith, c.max-down.ensures))
          (wider far.across far.down across down (get_or offsets i none) (omega (arith, c.max-across.ensures)) (omega (arith, c.max-down.ensures)) c.far_of-far.ensures.within) c.loop-i.invariant.within;
      across = λ all. let near = c.far_of-far.ensures.least 64 64 (all-get_or (LeadsWithin 64 64) offsets i none (omega arith) all) in omega (arith, near.0, c.loop-i.invariant.across all, c.max-across.ensures);
      down = λ all. let near = c.far_of-far.ensures.least 64 64 (all-get_or (LeadsWithin 64 64) offsets i none (omega arith) all) in omega (arith, near.1, c.loop-i.invariant.down all, c.max-down.ensures);
    }
