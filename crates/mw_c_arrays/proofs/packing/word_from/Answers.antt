use Rattle.std.proofs.Common.{◌-◌, length, take, drop, ap, sym, arith, ◌∙◌, refl}
use Rattle.std.proofs.lemmas.List.{get_or-take}
use Rattle.mw_c_arrays.proofs.Marked.{one_of, pixel_behind, pixel_is}
use Rattle.mw_c_arrays.proofs.packing.word_from.Goals as goal

pub returns-then-rest-ge64 : goal.returns-then-rest-ge64
returns-then-rest-ge64 c = λ i lt.
    let bytes = c.args.bytes.now in
    let at = c.min.result in
    let m = length bytes - at in
    let rest = take m (drop at bytes) in
    c.at_least.ensures i lt
    ∙ pixel_is (take 64 rest) i
    ∙ ap one_of (get_or-take 64 rest i 0 lt)
    ∙ sym (pixel_is rest i)
    ∙ pixel_behind bytes c.args.from at m i (omega arith) refl

pub returns-else-rest-ge64 : goal.returns-else-rest-ge64
returns-else-rest-ge64 c = λ i lt.
    let bytes = c.args.bytes.now in
    let at = c.min.result in
    c.last_word.ensures i lt ∙ pixel_behind bytes c.args.from at (length bytes - at) i (omega arith) refl
