use Rattle.std.proofs.Common.{ℕ, ◌≡◌, ◌+◌, ◌++◌, ◌∙◌, arith, length-append, get_or, sym, subst, pos}
use Rattle.std.proofs.lemmas.List.{get_or_default}
use Rattle.mw_model.specs.declared.offsets.Offset.{Offset}
use Rattle.mw_model.specs.Windows.{seen_at}
use Rattle.mw_element_runs.specs.declared.runs.Run.{Run}
use Rattle.mw_element_runs.specs.Runs.{start_offset}
use Rattle.mw_rank.specs.Ranks.{levels_at}
use Rattle.mw_rank.specs.Tallies.{Tallies, HistogramHolds}
use Rattle.mw_rank.proofs.Counts.{tallies_same}
use Rattle.mw_rank.proofs.Sights.{length-levels_at}
use Rattle.mw_rank.proofs.Moves.{staying, levels-leaving, levels-entering, length-staying, more_within, tallies_from}
use Rattle.mw_rank.proofs.moving.advance.Goals as goal

pub leave-requires-clause-held : goal.leave-requires-clause-held
leave-requires-clause-held g c =
    let none : Run = record { dx = pos 0; dy = pos 0; count = 0 } in
    let i = c.loop-run.run-index in
    let runs = c.args.runs.now in
    let r = get_or runs i none in
    let level = g.P.Pixel.level in
    let sight = seen_at c.args.window.now in
    let is : get_or runs i r ≡ r = sym (get_or_default runs i none r (omega arith)) in
    subst (λ (b : Offset). HistogramHolds g.P.Pixel.top_level c.loop-run.histogram (levels_at level sight b c.args.x c.args.y)) (sym c.start_of-start.ensures) (record {
      others = staying level sight runs i r c.args.x c.args.y;
      tallies = tallies_same g.P.Pixel.top_level _ _ _ (levels-leaving level sight runs i r c.args.x c.args.y (omega arith) is) c.loop-run.invariant;
      few = omega (
        arith,
        length-append (levels_at level sight (start_offset r) c.args.x c.args.y) (staying level sight runs i r c.args.x c.args.y),
        length-levels_at level sight (start_offset r) c.args.x c.args.y,
        length-staying level sight runs i r c.args.x c.args.y (omega arith) is,
        c.requires.few,
      );
    })

pub overflow_add-x-in-loop-run : goal.overflow_add-x-in-loop-run
overflow_add-x-in-loop-run g c =
    let none : Run = record { dx = pos 0; dy = pos 0; count = 0 } in
    let i = c.loop-run.run-index in
    let runs = c.args.runs.now in
    let r = get_or runs i none in
    omega (arith, c.requires.few, c.requires.near, more_within runs i r (omega arith) (sym (get_or_default runs i none r (omega arith))))

pub enter-requires-clause-near : goal.enter-requires-clause-near
enter-requires-clause-near g c =
    let none : Run = record { dx = pos 0; dy = pos 0; count = 0 } in
    let i = c.loop-run.run-index in
    let runs = c.args.runs.now in
    let r = get_or runs i none in
    omega (arith, c.requires.few, c.requires.near, more_within runs i r (omega arith) (sym (get_or_default runs i none r (omega arith))))

pub enter-requires-clause-room : goal.enter-requires-clause-room
enter-requires-clause-room g c =
    let none : Run = record { dx = pos 0; dy = pos 0; count = 0 } in
    let i = c.loop-run.run-index in
    let runs = c.args.runs.now in
    let r = get_or runs i none in
    let level = g.P.Pixel.level in
    let sight = seen_at c.args.window.now in
    let top = g.P.Pixel.top_level in
    let is : get_or runs i r ≡ r = sym (get_or_default runs i none r (omega arith)) in
    let stays = staying level sight runs i r c.args.x c.args.y in
    record {
      levels = stays;
      tallies = c.leave.ensures stays
          (tallies_from level sight c.start_of-start.result (start_offset r) c.args.x c.args.y top _ stays c.start_of-start.ensures (tallies_same top _ _ _ (levels-leaving level sight runs i r c.args.x c.args.y (omega arith) is) c.loop-run.invariant));
      few = omega (arith, length-staying level sight runs i r c.args.x c.args.y (omega arith) is, c.requires.few);
    }

pub loop-run-preserved : goal.loop-run-preserved
loop-run-preserved g c =
    let none : Run = record { dx = pos 0; dy = pos 0; count = 0 } in
    let i = c.loop-run.run-index in
    let runs = c.args.runs.now in
    let r = get_or runs i none in
    let level = g.P.Pixel.level in
    let sight = seen_at c.args.window.now in
    let top = g.P.Pixel.top_level in
    let is : get_or runs i r ≡ r = sym (get_or_default runs i none r (omega arith)) in
    let stays = staying level sight runs i r c.args.x c.args.y in
    let left = c.leave.ensures stays
    (tallies_from level sight c.start_of-start.result (start_offset r) c.args.x c.args.y top _ stays c.start_of-start.ensures (tallies_same top _ _ _ (levels-leaving level sight runs i r c.args.x c.args.y (omega arith) is) c.loop-run.invariant)) in
    tallies_same top _ _ _ (levels-entering level sight runs i r c.args.x c.args.y (omega arith) is)
    (subst (λ (m : ℕ). Tallies top c.enter.new.histogram (levels_at level sight (start_offset r) (c.args.x + 1 + m) c.args.y ++ stays)) (c.from.ensures ∙ c.more_of.ensures)
    (tallies_from level sight (start_offset r) c.start_of-start.result (c.args.x + 1 + c.from.result) c.args.y top _ stays (sym c.start_of-start.ensures) (c.enter.ensures stays left)))
