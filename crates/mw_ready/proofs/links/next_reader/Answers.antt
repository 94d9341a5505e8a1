use Rattle.std.proofs.Common.{None, get_or, arith}
use Rattle.mw_ready.specs.Boards.{no_need}
use Rattle.mw_ready.proofs.Joining.{source-same}
use Rattle.mw_ready.proofs.links.next_reader.Goals as goal

pub returns-then-eq : goal.returns-then-eq
returns-then-eq c =
    let a = c.args in
    c.requires.linked.next a.reader c.loop-i.i a.step (omega arith) c.requires.reader c.loop-i-test.true c.requires.step (source-same (get_or (get_or a.needs.now a.reader no_need).steps c.loop-i.i None) a.step c.if-eq.ensures)
