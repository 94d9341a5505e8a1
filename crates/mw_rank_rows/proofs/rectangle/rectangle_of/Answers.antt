use Rattle.std.proofs.Common.{◌<◌, ◌≤◌, pos, arith, sym, length, get_or}
use Rattle.std.proofs.lemmas.List.{get_or_default}
use Rattle.mw_model.proofs.mw_facts.Alls.{all-get_or}
use Rattle.mw_rank_counts.specs.mw_element_runs.Runs.{IsRun}
use Rattle.mw_rank_counts.specs.mw_element_runs.declared.runs.Run.{Run}
use Rattle.mw_rank_rows.proofs.Rectangular.{row_more}
use Rattle.mw_rank_rows.proofs.rectangle.rectangle_of.Goals as goal

pub loop-i-preserved : goal.loop-i-preserved
loop-i-preserved c =
    let none : Run = record { dx = pos 0; dy = pos 0; count = 0 } in
    let runs = c.args.runs.now in
    let i = c.loop-i.i in
    let first = get_or runs 0 none in
    let r = get_or runs i none in
    let lt : i < length runs = omega arith in
    let h = c.is_row.ensures c.if-not-is_row.false in
    let some : 1 ≤ first.count = (all-get_or IsRun runs 0 none (omega arith) c.requires.runs).some in
    row_more (record { dx = first.dx; dy = first.dy; columns = first.count; rows = length runs }) runs i r lt (sym (get_or_default runs i none r lt)) h.0 h.1 h.2 some c.loop-i.invariant
