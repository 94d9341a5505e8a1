use Rattle.std.proofs.Common.{◌≡◌, ℕ, ◌+◌, ◌-◌, ◌*◌, ◌++◌, ◌∙◌, List, drop, ap, arith, length, get_or, subst}
use Rattle.mw_model.specs.PlanSteps.{ranked}
use Rattle.mw_model.specs.Windows.{seen_at}
use Rattle.mw_rank_counts.specs.mw_rank.Ranks.{levels_under, HasRows}
use Rattle.mw_rank_rows.proofs.Found.{rows_more}
use Rattle.mw_rank_rows.proofs.rest.push_rest.Goals as goal

pub returns : goal.returns
returns g c =
    let tile = c.args.tile in
    let done = c.args.done in
    let more = tile.height - done in
    let wanted = c.args.wanted in
    let value = λ (x y : ℕ). ranked wanted.k (levels_under g.P.Pixel.level (seen_at c.args.window.now) wanted.offsets.now (tile.x + x) (tile.y + y)) in
    let ranks = c.in_ok-rows.ensures.over_window in
    let made = c.samples.result.now in
    let none : 0 ≡ (done - done) * tile.width = omega (arith, ap (λ (n : ℕ). n * tile.width) (let e : done - done ≡ 0 = omega arith in e)) in
    subst (λ (n : ℕ). HasRows g.P.Pixel.level value tile.width n c.push_from.new.out.items) (let all : done + more ≡ tile.height = omega arith in all)
    (rows_more g.P.Pixel.level value tile.width done done more c.args.out.now.items made c.push_from.new.out.items (omega arith) (omega arith) (ap length c.samples.ensures.value ∙ ranks.size)
    (c.in_ok-push_from.ensures ∙ ap (λ (n : ℕ). c.args.out.now.items ++ drop n made) none)
    (λ r q e down lt.
    ap (λ (l : List _). g.P.Pixel.level (get_or l (r * tile.width + q) e)) c.samples.ensures.value
    ∙ ranks.cells q r e lt down
    ∙ ap (λ (y : ℕ). ranked wanted.k (levels_under g.P.Pixel.level (seen_at c.args.window.now) wanted.offsets.now (tile.x + q) y)) (let y : tile.y + done + r ≡ tile.y + (done + r) = omega arith in y)) c.requires.rows)
