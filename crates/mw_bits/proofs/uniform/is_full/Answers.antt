use Rattle.std.proofs.Common.{ap, sym, below_more, ◌∙◌, arith}
use Rattle.mw_model.specs.declared.offsets.Rect.{Rect}
use Rattle.mw_bits.proofs.UniformSeen.{only_by_rows}
use Rattle.mw_bits.proofs.uniform.is_full.Goals as goal

pub loop-y-preserved : goal.loop-y-preserved
loop-y-preserved c =
    let width-is = ap (λ (t : Rect). t.width) c.place-place.ensures.value in
    below_more _ _ c.loop-y.invariant
    (λ x lt. sym (c.row_of.ensures.samples x lt) ∙ c.is_full_row.ensures c.if-not-is_full_row.false x (omega (arith, width-is)))

pub returns : goal.returns
returns c = λ yes.
    let set = c.args.set.now in
    let height-is = ap (λ (t : Rect). t.height) c.place-place.ensures.value in
    only_by_rows 1 set.place.width set.place.height set.cells c.words_of-words.ensures.size (λ x y less row_less. c.loop-y.invariant y (omega (arith, height-is)) x less)
