use Rattle.std.proofs.Common.{◌≡◌, ◌+◌, ◌-◌, ◌≤◌, ℕ, get_or, length, take, drop, ap, ◌∙◌, arith, length-take, length-drop}
use Rattle.std.proofs.lemmas.List.{get_or-take, get_or-drop}
use Rattle.mw_bits_rows.proofs.packing.pack_from.Goals as goal

pub returns-then-rest-ge64 : goal.returns-then-rest-ge64
returns-then-rest-ge64 c = λ i lt.
    let row = c.args.row.now in
    let at = c.min.result in
    let m = length row - at in
    let long : 64 ≤ m = omega (arith, length-take m (drop at row), length-drop at row) in
    let at-is : at ≡ c.args.from = omega arith in
    c.pack_block.ensures i lt
    ∙ get_or-take 64 (take m (drop at row)) i 0 lt
    ∙ get_or-take m (drop at row) i 0 (omega arith)
    ∙ get_or-drop at row i 0
    ∙ ap (λ (t : ℕ). get_or row (t + i) 0) at-is
