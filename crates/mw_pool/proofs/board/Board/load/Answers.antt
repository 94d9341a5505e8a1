use Rattle.mw_pool.proofs.Telling.{adds_load}
use Rattle.mw_pool.proofs.board.Board.load.Goals as goal

pub returns-clause-receipt : goal.returns-clause-receipt
returns-clause-receipt g c = adds_load c.args.bytes.items c.args.name c.read_image-image.result c.args.pass.now c.load.new.pass _ c.load.result c.read_image-image.ensures.read c.load.ensures.receipt
