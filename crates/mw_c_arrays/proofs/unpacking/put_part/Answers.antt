use Rattle.std.proofs.Common.{ℕ, List, length, get_or, ap, arith, ◌∙◌}
use Rattle.std.proofs.lemmas.List.{get_or-take}
use Rattle.mw_c_arrays.proofs.unpacking.put_part.Goals as goal

pub returns : goal.returns
returns c = λ i lt.
    ap (λ (t : List ℕ). get_or t i 0) c.copy_from_slice.ensures.after ∙ get_or-take (length c.args.out.now) c.put_word.new.out i 0 lt ∙ c.put_word.ensures i (omega (arith, lt, c.requires.few))
