use Rattle.std.proofs.Common.{◌+◌, refl, ap, sym, arith, ◌∙◌}
use Rattle.mw_pixel.specs.mw_pixel_words.Packed.{bit_of}
use Rattle.mw_pixel.proofs.mw_pixel_words.Bits.{bit_of_its_word}
use Rattle.mw_geodesic_distances.specs.Rows.{distance_at, begin_of_bit}
use Rattle.mw_geodesic_distances.proofs.Lists.{made_none, made_more}
use Rattle.mw_geodesic_distances.proofs.beginning.begin_row.Goals as goal

pub loop-x-init : goal.loop-x-init
loop-x-init c = made_none 0 (λ k. begin_of_bit c.args.top (bit_of c.args.words.now k)) (distance_at c.args.row.now)

pub loop-x-preserved : goal.loop-x-preserved
loop-x-preserved c =
    made_more 0 c.loop-x.x (c.loop-x.x + 1) c.number_of.result (λ k. begin_of_bit c.args.top (bit_of c.args.words.now k)) (distance_at c.args.row.now) c.loop-x.row refl (omega arith) (omega arith)
    (c.number_of.ensures ∙ ap (begin_of_bit c.args.top) (sym (bit_of_its_word c.args.words.now c.loop-x.x))) c.loop-x.invariant

pub returns : goal.returns
returns c = λ x lt. c.loop-x.invariant.done x (omega arith) (omega arith)
