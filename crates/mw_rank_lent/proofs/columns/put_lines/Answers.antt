use Rattle.std.proofs.Common.{◌≡◌, ℕ, ◌+◌, ◌-◌, ◌*◌, ◌≤◌, length, refl, arith, ◌∙◌}
use Rattle.std.proofs.lemmas.Nat.{mul-le}
use Rattle.mw_model.proofs.mw_facts.Parts.{length-put_mid}
use Rattle.mw_model.specs.Windows.{seen_at}
use Rattle.mw_rank_medians.specs.Filled.{filled_at}
use Rattle.mw_rank_lent.proofs.Lines.{seen_more}
use Rattle.mw_rank_lent.proofs.Puts.{has_lines, line_more}
use Rattle.mw_rank_lent.proofs.columns.put_lines.Goals as goal

pub loop-q-preserved : goal.loop-q-preserved
loop-q-preserved g c =
    let level = g.P.Pixel.level in
    let top = g.P.Pixel.top_level in
    let w = c.args.lent.now in
    let b = c.args.square.first in
    let x = c.args.columns.x in
    let y = c.args.columns.y in
    let n = c.args.columns.long in
    let q = c.loop-q.q in
    let a : ℕ = q * n in
    let m : ℕ = a + n - a in
    let part = c.put_column.new.line in
    let room : a + n ≤ length c.loop-q.lines = omega (arith, c.loop-q.invariant.size, mul-le (q + 1) n c.args.columns.count n (omega arith) (omega arith), (let e : (q + 1) * n ≡ q * n + n = omega arith in e)) in
    let long : length part ≡ n = omega arith in
    record {
      size = length-put_mid a m c.loop-q.lines part (omega (arith, long)) (omega (arith, room)) ∙ c.loop-q.invariant.size;
      cells = line_more (λ i j v. level v ≡ filled_at level top (seen_at w) b (x + j) (y + i)) g.P.Pixel.TOP n q a m c.loop-q.lines part refl room long (λ i lt. c.put_column.ensures.made i (omega (arith, lt, long))) c.loop-q.invariant.cells;
      seen = seen_more level top w b x y n q (λ i k lt is across. c.put_column.ensures.seen i k (omega (arith, lt, long)) is across) c.loop-q.invariant.seen;
    }

pub returns-clause-rows : goal.returns-clause-rows
returns-clause-rows g c =
    let level = g.P.Pixel.level in
    has_lines level (λ i q. filled_at level g.P.Pixel.top_level (seen_at c.args.lent.now) c.args.square.first (c.args.columns.x + q) (c.args.columns.y + i)) g.P.Pixel.TOP c.args.columns.long c.args.columns.count c.loop-q.q c.loop-q.lines (omega arith) c.loop-q.invariant.size c.loop-q.invariant.cells

pub returns-clause-seen : goal.returns-clause-seen
returns-clause-seen g c = λ q i k lt less is across. c.loop-q.invariant.seen q i k (omega (arith, lt)) less is across
