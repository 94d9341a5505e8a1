use Rattle.std.proofs.Common.{arith}
use Rattle.mw_bits.proofs.SlidBoxes.{columns_room, rows_room, box_slid}
use Rattle.mw_bits.proofs.boxes.slide_box.Goals as goal

pub slide_words-requires-clause-room : goal.slide_words-requires-clause-room
slide_words-requires-clause-room g c = let fits = columns_room c.args.wide c.args.high c.args.across 0 0 (omega arith) (omega arith) in omega (arith, fits)

pub slide_words-requires-2-clause-room : goal.slide_words-requires-2-clause-room
slide_words-requires-2-clause-room g c = let fits = rows_room c.args.wide c.args.high c.args.down 0 0 (omega arith) (omega arith) in omega (arith, fits)

pub returns : goal.returns
returns g c =
    box_slid g.E.Extremum.merge c.args.cells.now c.slide_words.new.cells c.slide_words-2.new.cells c.args.wide c.args.high c.args.across c.args.down (omega arith) (omega arith) c.requires.size c.slide_words.auto.cells c.slide_words-2.auto.cells c.slide_words.ensures c.slide_words-2.ensures
