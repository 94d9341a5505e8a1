use Rattle.std.proofs.Common.{◌*◌, sym, length, ◌∙◌}
use Rattle.std.proofs.lemmas.List.{length-take-le}
use Rattle.mw_pixel_words.proofs.Trims.{rows_there, whole_rows}
use Rattle.mw_pixel_words.proofs.trimming.first_words.Goals as goal

pub slice_bounds-from_slice-end : goal.slice_bounds-from_slice-end
slice_bounds-from_slice-end c =
    sym (length-take-le (c.args.high * c.args.stride) c.args.cells.now (rows_there c.args.high c.args.wide c.args.stride (length c.args.cells.now) c.if-wide-stride.true c.requires.words))

pub returns-then-wide-stride-clause-size : goal.returns-then-wide-stride-clause-size
returns-then-wide-stride-clause-size c =
    c.in_ok-from_slice.ensures.len ∙ length-take-le (c.args.high * c.args.stride) c.args.cells.now (rows_there c.args.high c.args.wide c.args.stride (length c.args.cells.now) c.if-wide-stride.true c.requires.words)

pub returns-then-wide-stride-clause-bits : goal.returns-then-wide-stride-clause-bits
returns-then-wide-stride-clause-bits c = whole_rows c.args.high c.args.wide c.args.stride c.args.cells.now c.in_ok-from_slice.field-0.items c.if-wide-stride.true c.in_ok-from_slice.ensures.items
