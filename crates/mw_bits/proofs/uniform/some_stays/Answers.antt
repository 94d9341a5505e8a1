use Rattle.std.proofs.Common.{pos}
use Rattle.mw_offset.specs.mw_element_runs.declared.runs.Run.{Run}
use Rattle.mw_bits.proofs.SeenRuns.{run_stays, some_stays}
use Rattle.mw_bits.proofs.uniform.some_stays.Goals as goal

pub returns-then-run_stays : goal.returns-then-run_stays
returns-then-run_stays c =
    λ yes.
    let none : Run = record { dx = pos 0; dy = pos 0; count = 0 } in
    let here = c.run_stays.ensures c.if-run_stays.true in
    some_stays c.args.tile c.args.runs.now c.args.place c.loop-i.i none c.loop-i-test.true (run_stays c.args.tile _ c.args.place here.0 here.1 here.2)
