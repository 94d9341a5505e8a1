use Rattle.std.proofs.Common.{◌+◌, ◌-◌, length, arith}
use Rattle.mw_line.proofs.Merged.{rest_merged}
use Rattle.mw_line.proofs.pairs.merge_rest.Goals as goal

pub returns-clause-within : goal.returns-clause-within
returns-clause-within g c = λ q d e after before.
    let n = length c.args.out.now in
    rest_merged g.E.Extremum.merge c.args.cells.now c.args.out.now c.combine_rows.new.acc c.args.from c.args.at (n - c.args.at) (c.args.from + n - (c.args.from + c.args.at)) q d e (omega arith) c.requires.cells (omega arith) c.combine_rows.ensures after before
