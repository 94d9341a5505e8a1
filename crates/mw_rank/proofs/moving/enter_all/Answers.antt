use Rattle.std.proofs.Common.{arith, get_or, pos, sym, subst, List}
use Rattle.std.proofs.lemmas.List.{get_or_default, take_all}
use Rattle.mw_model.specs.Windows.{seen_at}
use Rattle.mw_element_runs.specs.declared.runs.Run.{Run}
use Rattle.mw_rank.specs.Ranks.{levels_under}
use Rattle.mw_rank.specs.Runs.{element_of}
use Rattle.mw_rank.specs.Tallies.{Tallies}
use Rattle.mw_rank.proofs.Parts.{run_entered, room_for_run}
use Rattle.mw_rank.proofs.moving.enter_all.Goals as goal

pub enter_part-requires : goal.enter_part-requires
enter_part-requires g c =
    let none : Run = record { dx = pos 0; dy = pos 0; count = 0 } in
    let j = c.loop-run.run-index in
    let runs = c.args.runs.now in
    let r = get_or runs j none in
    record {
      levels = _;
      tallies = c.loop-run.invariant;
      few = omega (
        arith,
        c.requires.few,
        room_for_run g.P.Pixel.level (seen_at c.args.window.now) runs j r c.args.x c.args.y c.seen_part.result.now (omega arith) (sym (get_or_default runs j none r (omega arith))) c.seen_part.ensures,
      );
    }

pub loop-run-preserved : goal.loop-run-preserved
loop-run-preserved g c =
    let none : Run = record { dx = pos 0; dy = pos 0; count = 0 } in
    let j = c.loop-run.run-index in
    let runs = c.args.runs.now in
    let r = get_or runs j none in
    run_entered g.P.Pixel.level (seen_at c.args.window.now) runs j r c.args.x c.args.y g.P.Pixel.top_level c.enter_part.new.histogram _ (omega arith) (sym (get_or_default runs j none r (omega arith))) c.seen_part.ensures
    (c.enter_part.ensures _ c.loop-run.invariant)

pub returns : goal.returns
returns g c =
    subst (λ (l : List Run). Tallies g.P.Pixel.top_level c.loop-run.histogram (levels_under g.P.Pixel.level (seen_at c.args.window.now) (element_of l) c.args.x c.args.y)) (take_all c.loop-run.run-index c.args.runs.now (omega arith)) c.loop-run.invariant
