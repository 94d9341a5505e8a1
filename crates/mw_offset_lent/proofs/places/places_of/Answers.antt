use Rattle.std.proofs.Common.{pos, arith}
use Rattle.mw_model.proofs.mw_facts.Alls.{all-get_or}
use Rattle.mw_model.specs.declared.offsets.Offset.{Offset}
use Rattle.mw_offset_lent.specs.Offsets.{LeadsWithin, place_among}
use Rattle.mw_offset_lent.proofs.Covers.{map_more}
use Rattle.mw_offset_lent.proofs.places.places_of.Goals as goal

pub place_of-requires-clause-within : goal.place_of-requires-clause-within
place_of-requires-clause-within c =
    let none : Offset = record { dx = pos 0; dy = pos 0 } in
    all-get_or (LeadsWithin c.args.around.across c.args.around.down) c.args.offsets.now c.loop-i.i none (omega arith) c.requires.within

pub loop-i-preserved : goal.loop-i-preserved
loop-i-preserved c =
    let none : Offset = record { dx = pos 0; dy = pos 0 } in
    map_more (place_among c.args.around c.args.wide) c.args.offsets.now c.loop-i.i none c.loop-i.places.items c.push.new.self.items c.place_of.result (omega arith) c.place_of.ensures c.in_ok-push.ensures.items c.loop-i.invariant
