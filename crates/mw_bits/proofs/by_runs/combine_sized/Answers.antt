use Rattle.std.proofs.Common.{◌-◌, ◌*◌, ◌∙◌, length, fold, pos, ap, arith}
use Rattle.std.proofs.lemmas.List.{take_all}
use Rattle.mw_model.proofs.mw_facts.Alls.{all-get_or}
use Rattle.mw_offset.specs.mw_element_runs.declared.runs.Run.{Run}
use Rattle.mw_offset.specs.mw_element_runs.Runs.{RunHasRoom, two_parts}
use Rattle.mw_offset.specs.MergedAt.{sized_below}
use Rattle.mw_offset.specs.mw_pixel_words.Packed.{bit_of}
use Rattle.mw_bits_rows.specs.Rows.{laid_bits}
use Rattle.mw_bits.proofs.by_runs.combine_sized.Goals as goal

pub combine_run-waiting-requires-clause-room : goal.combine_run-waiting-requires-clause-room
combine_run-waiting-requires-clause-room g c =
    let none : Run = record { dx = pos 0; dy = pos 0; count = 0 } in
    let cells = c.args.cells.now in
    let laid = c.args.laid in
    let room = all-get_or (RunHasRoom laid.extent laid.wide (64 * length c.args.out.now) (64 * (length cells - 1))) c.args.runs.now c.loop-i.i none c.loop-i-test.true c.requires.room in
    omega (arith, room.room, c.start_of_run-start.ensures)

pub returns : goal.returns
returns g c = λ q d lt.
    let laid = c.args.laid in
    let sizes = c.args.sizes in
    let step = sized_below sizes.least sizes.next (two_parts g.E.Extremum.merge (laid_bits c.args.cells.now) d laid.extent laid.wide sizes.least q) in
    c.combine_last.ensures q (omega arith)
    ∙ c.loop-i.invariant.done q d (omega arith)
    ∙ ap (fold step (bit_of c.args.out.now q)) (take_all c.loop-i.i c.args.runs.now (omega arith))
