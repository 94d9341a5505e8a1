use Rattle.std.proofs.Common.{◌≡◌, ℕ, ◌<◌, ◌≢◌, get_or, set, ◌∙◌, arith, below_more}
use Rattle.std.proofs.Math.ListN.{length-set}
use Rattle.std.proofs.lemmas.List.{get_or-set_same, get_or-set_other, get_or_default}
use Rattle.mw_bits_rows.proofs.Packs.{mask_bit}
use Rattle.mw_bits_rows.proofs.packing.pack_block.Goals as goal

pub loop-i-preserved : goal.loop-i-preserved
loop-i-preserved c =
    let i = c.loop-i.i in
    let bytes = c.loop-i.bytes in
    let known = c.loop-i.invariant in
    let size = known.size in
    let here : get_or (set bytes i c.number.result) i 0 ≡ c.number.result = get_or-set_same bytes i c.number.result 0 (omega arith) in
    let pixel : c.index-pixels-i.result ≡ get_or c.args.pixels.now i 0 = c.index-pixels-i.is ∙ get_or_default c.args.pixels.now i c.index-pixels-i.result 0 (omega arith) in
    let beside = λ (k : ℕ) (lt : k < i). let other : k ≢ i = omega arith in get_or-set_other bytes i k c.number.result 0 other in
    record {
      size = length-set bytes i c.number.result ∙ known.size;
      same = below_more _ _ (λ k lt. beside k lt ∙ known.same k lt) (here ∙ c.number.ensures.value ∙ pixel);
      small = below_more _ _ (λ k lt. let is = beside k lt in let less = known.small k lt in omega arith) (let less = c.number.ensures.small in omega arith);
    }

pub returns : goal.returns
returns c = λ i lt. mask_bit c.loop-i.bytes i c.loop-i.invariant.size lt (c.loop-i.invariant.small i (omega arith)) ∙ c.loop-i.invariant.same i (omega arith)
