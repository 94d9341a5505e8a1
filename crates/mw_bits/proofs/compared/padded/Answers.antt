use Rattle.std.proofs.Common.{◌≢◌, ap, sym, arith, ◌∙◌, below_more}
use Rattle.std.proofs.Math.ListN.{length-set}
use Rattle.std.proofs.lemmas.List.{get_or-map, get_or-set_same, get_or-set_other}
use Rattle.mw_bits.proofs.compared.padded.Goals as goal

pub loop-i-preserved : goal.loop-i-preserved
loop-i-preserved g c =
    let level = g.P.Pixel.level in
    let samples = c.args.samples.now in
    let levels = c.loop-i.levels in
    let i = c.loop-i.i in
    let sample = c.index-samples-i.result in
    let size = c.loop-i.invariant.size in
    record {
      size = length-set levels i c.value.result ∙ size;
      same = below_more _ _
          (λ j lt. let other : j ≢ i = omega arith in get_or-set_other levels i j c.value.result 0 other ∙ c.loop-i.invariant.same j lt)
          (get_or-set_same levels i c.value.result 0 (omega arith) ∙ c.value.ensures.level ∙ ap level c.index-samples-i.is ∙ sym (get_or-map level samples i sample 0 (omega arith)));
    }
