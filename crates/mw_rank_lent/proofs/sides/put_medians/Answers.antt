use Rattle.std.proofs.Common.{◌≡◌, ℕ, ◌+◌, ◌-◌, ◌*◌, ◌≤◌, length, get_or, refl, ap, arith, ◌∙◌}
use Rattle.std.proofs.lemmas.Nat.{mul-le}
use Rattle.mw_model.proofs.mw_facts.Parts.{length-put_mid}
use Rattle.mw_rank_medians.proofs.Beyond.{lines_fit}
use Rattle.mw_rank_medians.proofs.Medians.{median_some}
use Rattle.mw_rank_lent.specs.Middles.{median_at}
use Rattle.mw_rank_lent.proofs.Middle.{side_median}
use Rattle.mw_rank_lent.proofs.Puts.{has_lines, line_more}
use Rattle.mw_rank_lent.proofs.sides.put_medians.Goals as goal

pub medians_of_rows-requires-clause-inside : goal.medians_of_rows-requires-clause-inside
medians_of_rows-requires-clause-inside g c =
    let s = c.args.square in
    let rows = c.args.side.rows in
    let stride : ℕ = rows + s.side - 1 in
    let some = (median_some s.side s.k c.requires.middle.median).0 in
    let turned = ap (λ (t : ℕ). t * stride) (let e : s.side - 1 + s.reach ≡ s.reach + s.side - 1 = omega (arith, some) in e) in
    lines_fit c.loop-e.e s.side s.reach rows stride (length c.args.lines.now) _ (c.requires.lines.size ∙ turned) (omega arith) some refl (omega arith)

pub loop-e-preserved : goal.loop-e-preserved
loop-e-preserved g c =
    let level = g.P.Pixel.level in
    let top = g.P.Pixel.TOP in
    let w = c.args.lent.now in
    let s = c.args.square in
    let x = c.args.side.x in
    let y = c.args.side.y in
    let n = c.args.side.rows in
    let e = c.loop-e.e in
    let a : ℕ = e * n in
    let m : ℕ = a + n - a in
    let part = c.medians_of_rows.new.out in
    let room : a + n ≤ length c.loop-e.made = omega (arith, c.loop-e.invariant.size, mul-le (e + 1) n s.reach n (omega arith) (omega arith), (let h : (e + 1) * n ≡ e * n + n = omega arith in h)) in
    let long : length part ≡ n = omega arith in
    record {
      size = length-put_mid a m c.loop-e.made part (omega (arith, long)) (omega (arith, room)) ∙ c.loop-e.invariant.size;
      cells = line_more (λ i j v. level v ≡ median_at level w s (x + j) (y + i)) top n e a m c.loop-e.made part refl room long
          (λ i lt. side_median level top g.P.Pixel.top_level w s x y n e i (level (get_or part i top)) c.args.lines.now c.requires.middle c.requires.lines c.requires.seen (omega arith) lt c.requires.left c.requires.right c.requires.inner.wide (c.medians_of_rows.ensures.medians i (omega (arith, lt, long))))
          c.loop-e.invariant.cells;
    }

pub returns : goal.returns
returns g c =
    has_lines g.P.Pixel.level (λ i e. median_at g.P.Pixel.level c.args.lent.now c.args.square (c.args.side.x + e) (c.args.side.y + i)) g.P.Pixel.TOP c.args.side.rows c.args.square.reach c.loop-e.e c.loop-e.made (omega arith) c.loop-e.invariant.size c.loop-e.invariant.cells
