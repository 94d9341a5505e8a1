use Rattle.std.proofs.Common.{◌≡◌, ◌+◌, ◌*◌, ◌<◌, length, get_or, arith, ◌∙◌, get_or-set_other}
use Rattle.std.proofs.lemmas.List.{get_or_default, length-set}
use Rattle.std.proofs.lemmas.Nat.{mul-add-lt}
use Rattle.mw_rank_lent.proofs.Puts.{set_on}
use Rattle.mw_rank_lent.proofs.rows.put_cells.Goals as goal

pub loop-i-preserved : goal.loop-i-preserved
loop-i-preserved g c =
    let top = g.P.Pixel.TOP in
    let at = c.args.at in
    let i = c.loop-i.i in
    let old = c.loop-i.out in
    let made = c.args.made.now in
    let s = c.index-made-i.result in
    let less : i < c.args.count = omega arith in
    let there : i * c.args.rows + c.args.row < length made = omega (arith, c.requires.size, mul-add-lt i c.args.rows c.args.row c.args.count less c.requires.row, (let e : c.args.rows * c.args.count ≡ c.args.count * c.args.rows = omega arith in e)) in
    record {
      size = length-set old (at + i) s ∙ c.loop-i.invariant.size;
      kept = λ p d lt. get_or-set_other old (at + i) p s d (omega (arith, lt)) ∙ c.loop-i.invariant.kept p d lt;
      cells = set_on (λ j v. v ≡ get_or made (j * c.args.rows + c.args.row) top) top at i old s (omega (arith, c.loop-i.invariant.size, c.requires.room, less)) (c.index-made-i.is ∙ get_or_default made (i * c.args.rows + c.args.row) s top there) c.loop-i.invariant.cells;
    }
