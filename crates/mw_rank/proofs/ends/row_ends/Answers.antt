use Rattle.std.proofs.Common.{◌≡◌, List, [], arith, get_or, pos, rules, subst, sym, take}
use Rattle.std.proofs.lemmas.List.{get_or_default, take_all}
use Rattle.mw_model.specs.Windows.{seen_at}
use Rattle.mw_rank.specs.Ends.{AreEnds}
use Rattle.mw_rank.specs.declared.ends.Ends.{Ends}
use Rattle.mw_element_runs.specs.declared.runs.Run.{Run}
use Rattle.mw_rank.proofs.Edges.{are_ends_none, are_ends_more}
use Rattle.mw_rank.proofs.ends.row_ends.Goals as goal

pub loop-run-init : goal.loop-run-init
loop-run-init g c =
    subst (λ (t : List Ends). AreEnds g.P.Pixel.level g.P.Pixel.TOP (seen_at c.args.window.now) c.args.window.now.cells [] c.args.x c.args.y c.args.count t) (sym c.clear.ensures.items)
    (are_ends_none g.P.Pixel.level g.P.Pixel.TOP (seen_at c.args.window.now) c.args.window.now.cells c.args.x c.args.y c.args.count)

pub loop-run-preserved : goal.loop-run-preserved
loop-run-preserved g c =
    let none : Run = record { dx = pos 0; dy = pos 0; count = 0 } in
    let i = c.loop-run.run-index in
    let runs = c.args.runs.now in
    let r = get_or runs i none in
    are_ends_more g.P.Pixel.level g.P.Pixel.TOP (seen_at c.args.window.now) c.args.window.now.cells runs r i c.args.x c.args.y c.args.count c.loop-run.ends.items c.push_ends.new.ends.items (omega arith)
    (sym (get_or_default runs i none r (omega arith))) (c.in_ok-push_ends.ensures (search rules)) c.loop-run.invariant

pub returns : goal.returns
returns g c = λ _.
    let all : take c.loop-run.run-index c.args.runs.now ≡ c.args.runs.now = take_all c.loop-run.run-index c.args.runs.now (omega arith) in
    subst (λ (t : List Run). AreEnds g.P.Pixel.level g.P.Pixel.TOP (seen_at c.args.window.now) c.args.window.now.cells t c.args.x c.args.y c.args.count c.loop-run.ends.items) all c.loop-run.invariant
