use Rattle.std.proofs.Common.{ℕ, ◌≡◌, arith, refl, subst}
use Rattle.mw_model.specs.Windows.{seen_at}
use Rattle.mw_rank.specs.Ranks.{HasRows}
use Rattle.mw_rank.proofs.Rows.{has_rows_more}
use Rattle.mw_rank_medians.specs.Filled.{filled_at, line_x, line_y}
use Rattle.mw_rank_medians.proofs.filled.filled_lines.Goals as goal

pub loop-line-preserved : goal.loop-line-preserved
loop-line-preserved g c =
    let lines = c.args.lines in
    let value = λ (i r : ℕ). filled_at g.P.Pixel.level g.P.Pixel.top_level (seen_at c.args.window.now) c.args.offset (line_x lines.down lines.x i r) (line_y lines.down lines.y i r) in
    has_rows_more g.P.Pixel.level value (λ i. value i c.loop-line.line) lines.length c.loop-line.line c.loop-line.out.items c.push_line.new.out.items (λ i. refl) c.in_ok-push_line.ensures c.loop-line.invariant

pub returns : goal.returns
returns g c =
    let lines = c.args.lines in
    let all : c.loop-line.line ≡ lines.count = omega arith in
    subst (λ (n : ℕ). HasRows g.P.Pixel.level (λ i r. filled_at g.P.Pixel.level g.P.Pixel.top_level (seen_at c.args.window.now) c.args.offset (line_x lines.down lines.x i r) (line_y lines.down lines.y i r)) lines.length n c.loop-line.out.items) all c.loop-line.invariant
