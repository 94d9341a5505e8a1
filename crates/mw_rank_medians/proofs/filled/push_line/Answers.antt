use Rattle.std.proofs.Common.{ℕ, ap, ◌∙◌}
use Rattle.mw_model.specs.Windows.{seen_at}
use Rattle.mw_rank.proofs.Rows.{gains_more}
use Rattle.mw_rank_medians.specs.Filled.{filled_at, line_x, line_y}
use Rattle.mw_rank_medians.proofs.filled.push_line.Goals as goal

pub loop-i-preserved : goal.loop-i-preserved
loop-i-preserved g c =
    let level = g.P.Pixel.level in
    let lines = c.args.lines in
    let at = λ (x y : ℕ). filled_at level g.P.Pixel.top_level (seen_at c.args.window.now) c.args.offset x y in
    let x = line_x lines.down lines.x c.loop-i.i c.args.line in
    gains_more level (λ i. at (line_x lines.down lines.x i c.args.line) (line_y lines.down lines.y i c.args.line)) c.loop-i.i c.args.out.now.items c.loop-i.out.items c.push.new.self.items c.filled_sample-sample.result
    c.in_ok-push.ensures.items
    (c.filled_sample-sample.ensures ∙ ap (λ (t : ℕ). at t c.place_in-y.result) c.place_in-x.ensures ∙ ap (at x) c.place_in-y.ensures) c.loop-i.invariant
