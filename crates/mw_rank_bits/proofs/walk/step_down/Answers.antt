use Rattle.std.proofs.Common.{◌/◌, length, arith}
use Rattle.mw_rank_bits.proofs.Walks.{stepped}
use Rattle.mw_rank_bits.proofs.walk.step_down.Goals as goal

pub returns : goal.returns
returns c = λ start wide q lt moves small is.
    let places = c.args.places in
    stepped (length c.args.planes.now / 2) (length c.add_bits.new.planes / 2) start wide c.args.cells.now places.seen.now places.entered.now places.left.now c.args.at q c.args.planes.now c.add_bits.new.planes c.add_bits-2.new.planes
    (omega arith) lt moves small c.add_bits.ensures c.add_bits-2.ensures is
