use Rattle.std.proofs.Common.{length, arith}
use Rattle.mw_tile_pieces.proofs.Pasted.{pasted_all_rows}
use Rattle.mw_tile_pieces.proofs.WordRuns.{word_in, words_down}
use Rattle.mw_tile_pieces.proofs.bits.copy_in_words.Goals as goal

pub overflow_mul-k : goal.overflow_mul-k
overflow_mul-k c =
    let b = c.args.block in
    let y = c.loop-y.y in
    let within = word_in b.start b.wide b.width y (length c.args.out.now) c.requires.whole c.requires.some (c.requires.fits.room y c.loop-y-test.true) in
    omega arith

pub overflow_add-k : goal.overflow_add-k
overflow_add-k c =
    let b = c.args.block in
    let y = c.loop-y.y in
    let within = word_in b.start b.wide b.width y (length c.args.out.now) c.requires.whole c.requires.some (c.requires.fits.room y c.loop-y-test.true) in
    omega arith

pub bounds-out-k : goal.bounds-out-k
bounds-out-k c =
    let b = c.args.block in
    let y = c.loop-y.y in
    let within = word_in b.start b.wide b.width y (length c.args.out.now) c.requires.whole c.requires.some (c.requires.fits.room y c.loop-y-test.true) in
    omega arith

pub offset_bounds-out-k : goal.offset_bounds-out-k
offset_bounds-out-k c =
    let b = c.args.block in
    let y = c.loop-y.y in
    let within = word_in b.start b.wide b.width y (length c.args.out.now) c.requires.whole c.requires.some (c.requires.fits.room y c.loop-y-test.true) in
    omega arith

pub overflow_mul-y : goal.overflow_mul-y
overflow_mul-y c =
    let b = c.args.block in
    let y = c.loop-y.y in
    let within = word_in b.first b.own b.width y (length c.args.from.now) c.requires.whole_other c.requires.some (c.requires.fits.other y c.loop-y-test.true) in
    omega arith

pub overflow_add-at : goal.overflow_add-at
overflow_add-at c =
    let b = c.args.block in
    let y = c.loop-y.y in
    let within = word_in b.first b.own b.width y (length c.args.from.now) c.requires.whole_other c.requires.some (c.requires.fits.other y c.loop-y-test.true) in
    omega arith

pub offset_bounds-from-at : goal.offset_bounds-from-at
offset_bounds-from-at c =
    let b = c.args.block in
    let y = c.loop-y.y in
    let within = word_in b.first b.own b.width y (length c.args.from.now) c.requires.whole_other c.requires.some (c.requires.fits.other y c.loop-y-test.true) in
    omega arith

pub bounds-from-at : goal.bounds-from-at
bounds-from-at c =
    let b = c.args.block in
    let y = c.loop-y.y in
    let within = word_in b.first b.own b.width y (length c.args.from.now) c.requires.whole_other c.requires.some (c.requires.fits.other y c.loop-y-test.true) in
    omega arith

pub offset_bounds-out-k-in-loop-y : goal.offset_bounds-out-k-in-loop-y
offset_bounds-out-k-in-loop-y c =
    let b = c.args.block in
    let y = c.loop-y.y in
    let within = word_in b.start b.wide b.width y (length c.args.out.now) c.requires.whole c.requires.some (c.requires.fits.room y c.loop-y-test.true) in
    omega arith

pub bounds-out-k-in-loop-y : goal.bounds-out-k-in-loop-y
bounds-out-k-in-loop-y c =
    let b = c.args.block in
    let y = c.loop-y.y in
    let within = word_in b.start b.wide b.width y (length c.args.out.now) c.requires.whole c.requires.some (c.requires.fits.room y c.loop-y-test.true) in
    omega arith

pub loop-y-preserved : goal.loop-y-preserved
loop-y-preserved c =
    let b = c.args.block in
    let y = c.loop-y.y in
    let within = word_in b.start b.wide b.width y (length c.args.out.now) c.requires.whole c.requires.some (c.requires.fits.room y c.loop-y-test.true) in
    words_down b y c.blended.result c.args.out.now c.loop-y.out c.args.from.now c.requires.whole c.requires.whole_other c.requires.here c.requires.there c.requires.fits.across
    (omega arith) c.blended.ensures c.loop-y.invariant

pub returns : goal.returns
returns c = pasted_all_rows c.args.block c.loop-y.y _ _ _ (omega arith) c.loop-y.invariant
