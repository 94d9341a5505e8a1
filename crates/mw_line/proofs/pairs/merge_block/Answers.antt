use Rattle.std.proofs.Common.{◌≡◌, ◌+◌, ◌-◌, ◌∙◌, length, get_or, ap, arith}
use Rattle.mw_line.proofs.Merged.{merged_part, block_paired, length-block_paired}
use Rattle.mw_line.proofs.pairs.merge_block.Goals as goal

pub returns-clause-within : goal.returns-clause-within
returns-clause-within g c = λ q d e from to.
    let f = g.E.Extremum.merge in
    let cells = c.args.cells.now in
    let out = c.args.out.now in
    let at = c.args.at in
    let start = c.args.from + at in
    let far = start + c.args.shift in
    let m = at + 64 - at in
    let k = start + 64 - start in
    let l = far + 64 - far in
    let block = c.copy_from_slice.new.self in
    let both = c.combine_block.new.acc in
    let len : length both ≡ 64 = length-block_paired f cells block both start c.args.shift k l (omega arith) (omega arith) (omega arith) c.copy_from_slice.ensures.after c.combine_block.ensures in
    let near_place : start + (q - at) ≡ c.args.from + q = omega arith in
    let far_place : far + (q - at) ≡ c.args.from + q + c.args.shift = omega arith in
    merged_part f out both c.combine_block-2.new.acc at m q d e (omega arith) (omega arith) c.combine_block-2.ensures from (omega arith)
    ∙ ap (f (get_or out q d)) (block_paired f cells block both start c.args.shift k l (q - at) e (omega arith) (omega arith) (omega arith) c.copy_from_slice.ensures.after c.combine_block.ensures (omega arith)
    ∙ ap (λ (t : _). f (get_or cells t e) (get_or cells (far + (q - at)) e)) near_place
    ∙ ap (λ (t : _). f (get_or cells (c.args.from + q) e) (get_or cells t e)) far_place)
