use Rattle.mw_line_lent.proofs.LineCells.{lines_alone}
use Rattle.mw_line_lent.proofs.both_lines.put_both_lines.Goals as goal

pub returns-clause-upper : goal.returns-clause-upper
returns-clause-upper g c = lines_alone g.U.Extremum.merge c.args.ends.bottom c.args.lent.now c.args.boxes c.args.y c.put_line.new.lines c.put_line.ensures.line

pub returns-clause-lower : goal.returns-clause-lower
returns-clause-lower g c = lines_alone g.L.Extremum.merge c.args.ends.top c.args.lent.now c.args.boxes c.args.y c.put_line-2.new.lines c.put_line-2.ensures.line
