use Rattle.std.proofs.Common.{◌≡◌, ℕ, ◌+◌, ◌*◌, sym, subst, arith}
use Rattle.mw_line_lent.specs.Boxes.{HasLine, wide_of}
use Rattle.mw_line_lent.proofs.lines.put_lines.Goals as goal

pub returns-clause-lines : goal.returns-clause-lines
returns-clause-lines g c = λ r lt.
    let f = g.E.Extremum.merge in
    let n = c.args.neutral in
    let w = c.args.lent.now in
    let b = c.args.boxes in
    let y = c.args.y in
    let cells = c.put_line.new.lines in
    let one : r ≡ 0 = omega (arith, lt) in
    let row : y + 0 ≡ y = omega arith in
    let start : 0 * wide_of b ≡ 0 = omega arith in
    subst (λ (t : ℕ). HasLine f n w b (y + t) (t * wide_of b) cells) (sym one) (subst (λ (t : ℕ). HasLine f n w b t (0 * wide_of b) cells) (sym row) (subst (λ (t : ℕ). HasLine f n w b y t cells) (sym start) c.put_line.ensures.line))
