use Rattle.std.proofs.Common.{◌≡◌, ℕ, ◌+◌, ◌*◌, ◌∙◌, ap, arith, get_or}
use Rattle.std.proofs.lemmas.Nat.{mul-add-lt}
use Rattle.mw_rank_medians.proofs.tiles.push_side.Goals as goal

pub push_cut-requires-clause-inside : goal.push_cut-requires-clause-inside
push_cut-requires-clause-inside g c = λ i lt.
    let made = c.requires.made (omega arith) in
    omega (arith, made.size, mul-add-lt i c.args.rows c.args.part.row c.args.part.count lt c.requires.long)

pub push_cut-requires-clause-filled : goal.push_cut-requires-clause-filled
push_cut-requires-clause-filled g c = λ i lt low.
    let row = c.args.part.row in
    let rows = c.args.rows in
    let made = c.requires.made (omega arith) in
    ap (λ (p : ℕ). g.P.Pixel.level (get_or c.args.medians.now p g.P.Pixel.TOP)) (let e : row + i * rows ≡ i * rows + row = omega arith in e)
    ∙ made.made row i g.P.Pixel.TOP c.requires.long lt
