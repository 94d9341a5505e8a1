use Rattle.std.proofs.Common.{arith, get_or, pos}
use Rattle.std.proofs.lemmas.List.{get_or_default}
use Rattle.mw_model.proofs.mw_facts.Alls.{all-get_or}
use Rattle.mw_element_runs.specs.declared.runs.Run.{Run}
use Rattle.mw_element_runs.specs.Runs.{RunHasRoom}
use Rattle.mw_offset.proofs.Parts.{more_places}
use Rattle.mw_offset.proofs.by_runs.places_of_sizes.Goals as goal

pub push_places-requires-clause-inside : goal.push_places-requires-clause-inside
push_places-requires-clause-inside c =
    let none : Run = record { dx = pos 0; dy = pos 0; count = 0 } in
    let room = c.requires.room in
    (all-get_or (RunHasRoom c.args.extent c.args.wide room.0 room.1) c.args.runs.now c.loop-i.i none (omega arith) room.4).inside

pub push_places-requires-clause-fits : goal.push_places-requires-clause-fits
push_places-requires-clause-fits c =
    let none : Run = record { dx = pos 0; dy = pos 0; count = 0 } in
    let room = c.requires.room in
    let fits = (all-get_or (RunHasRoom c.args.extent c.args.wide room.0 room.1) c.args.runs.now c.loop-i.i none (omega arith) room.4).room in
    omega (arith, fits, room.2, room.3)

pub loop-i-preserved : goal.loop-i-preserved
loop-i-preserved c =
    let none : Run = record { dx = pos 0; dy = pos 0; count = 0 } in
    let runs = c.args.runs.now in
    let run = get_or runs c.loop-i.i none in
    more_places c.args.extent c.args.wide c.args.sizes.least c.args.sizes.next runs c.loop-i.i run c.loop-i.places.items c.push_places.new.places.items (omega arith) (get_or_default runs c.loop-i.i none run (omega arith)) c.in_ok-push_places.ensures c.loop-i.invariant
