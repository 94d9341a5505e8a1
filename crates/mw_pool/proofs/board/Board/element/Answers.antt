use Rattle.mw_pool.proofs.Telling.{adds_element}
use Rattle.mw_pool.proofs.board.Board.element.Goals as goal

pub returns-clause-receipt : goal.returns-clause-receipt
returns-clause-receipt g c = adds_element c.args.bytes.now c.args.origin.0 c.args.origin.1 c.args.name c.read_element-element.result c.args.pass.now c.element.new.pass _ c.element.result c.read_element-element.ensures c.element.ensures.receipt
