use Rattle.std.proofs.Common.{◌+◌, ◌*◌, ◌/◌, get_or, length, cond, arith}
use Rattle.std.proofs.lemmas.Bool.{eqb-true}
use Rattle.mw_tile_pieces.proofs.Only.{column_is_only, gathered_more}
use Rattle.mw_tile_pieces.proofs.WordRuns.{word_in}
use Rattle.mw_tile_pieces.proofs.uniform.is_only_in_words.Goals as goal

pub overflow_mul-others : goal.overflow_mul-others
overflow_mul-others c =
    let b = c.args.block in
    let within = word_in b.first b.own b.width c.loop-y.y (length c.args.from.now) c.requires.whole c.requires.some (c.requires.room c.loop-y.y c.loop-y-test.true) in
    omega arith

pub overflow_add-others : goal.overflow_add-others
overflow_add-others c =
    let b = c.args.block in
    let within = word_in b.first b.own b.width c.loop-y.y (length c.args.from.now) c.requires.whole c.requires.some (c.requires.room c.loop-y.y c.loop-y-test.true) in
    omega arith

pub offset_bounds-from-at : goal.offset_bounds-from-at
offset_bounds-from-at c =
    let b = c.args.block in
    let within = word_in b.first b.own b.width c.loop-y.y (length c.args.from.now) c.requires.whole c.requires.some (c.requires.room c.loop-y.y c.loop-y-test.true) in
    omega arith

pub bounds-from-at : goal.bounds-from-at
bounds-from-at c =
    let b = c.args.block in
    word_in b.first b.own b.width c.loop-y.y (length c.args.from.now) c.requires.whole c.requires.some (c.requires.room c.loop-y.y c.loop-y-test.true)

pub loop-y-preserved : goal.loop-y-preserved
loop-y-preserved c =
    let b = c.args.block in
    gathered_more (cond c.args.is_set 1 0) c.loop-y.others c.word_of-pixels.result c.loop-y.y (λ j. get_or c.args.from.now (b.first / 64 + j * (b.own / 64)) 0) c.word_of-pixels.ensures c.loop-y.invariant

pub returns : goal.returns
returns c = λ yes. column_is_only c.args.block (cond c.args.is_set 1 0) c.loop-y.others c.loop-y.y c.args.from.now c.requires.whole c.requires.there (omega arith) c.loop-y.invariant (eqb-true _ _ yes)
