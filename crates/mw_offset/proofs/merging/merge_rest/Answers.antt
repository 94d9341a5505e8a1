use Rattle.std.proofs.Common.{◌<◌, ◌*◌, ◌+◌, List, length, get_or, ap, ◌∙◌, arith}
use Rattle.std.proofs.Math.Nat.{mul-le-mul_left}
use Rattle.std.proofs.lemmas.List.{get_or-take}
use Rattle.mw_offset.specs.MergedAt.{merge_from}
use Rattle.mw_offset.proofs.Parts.{front_kept}
use Rattle.mw_offset.proofs.merging.merge_rest.Goals as goal

pub whole_as_front-copy_from_slice : goal.whole_as_front-copy_from_slice
whole_as_front-copy_from_slice g c =
    let fits : 64 * prog.Memory.size (denote.Memory.lone g.row.P.mir) < 9223372036854775808 = omega (arith, c.well_formed.0.1, mul-le-mul_left (prog.Memory.size (denote.Memory.lone g.row.P.mir)) c.requires.cells) in
    (c.requires.few, fits)

pub whole_as_slice-merge_block : goal.whole_as_slice-merge_block
whole_as_slice-merge_block g c = omega (arith, c.well_formed.0.1, mul-le-mul_left (prog.Memory.size (denote.Memory.lone g.row.P.mir)) c.requires.cells)

pub shared_whole_as_front-copy_from_slice : goal.shared_whole_as_front-copy_from_slice
shared_whole_as_front-copy_from_slice g c =
    let fits : 64 * prog.Memory.size (denote.Memory.lone g.row.P.mir) < 9223372036854775808 = omega (arith, c.well_formed.0.1, mul-le-mul_left (prog.Memory.size (denote.Memory.lone g.row.P.mir)) c.requires.cells) in
    (c.requires.few, fits)

pub returns : goal.returns
returns g c = λ q d lt.
    let few = c.requires.few in
    ap (λ (t : List g.row.P.Denot). get_or t q d) c.copy_from_slice-2.ensures.after
    ∙ get_or-take (length c.args.rest.now) c.merge_block.new.block q d lt
    ∙ c.merge_block.ensures q d (omega arith)
    ∙ front_kept (merge_from g.E.Extremum.merge c.args.cells.now d (c.args.at + q)) c.args.places.now c.copy_from_slice.new.self _ c.args.rest.now q d c.copy_from_slice.ensures.after lt
