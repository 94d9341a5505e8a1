use Rattle.std.proofs.Common.{◌+◌, cond, arith, to_z, of_z, w32}
use Rattle.std.proofs.lemmas.Int.{ints}
use Rattle.mw_model.specs.Rectangles.{box_offsets}
use Rattle.mw_bits.proofs.UniformSeen.{uniform_neutral, uniform_boxed, pixel_small}
use Rattle.mw_bits.proofs.uniform.settled_box.Goals as goal

pub returns-then-is_neutral : goal.returns-then-is_neutral
returns-then-is_neutral g c = λ x y less row_less.
    let v = cond c.in-Some.pixel 1 0 in
    uniform_neutral g.E.Extremum.merge (g.E.Extremum.neutral_of 1) v c.args.set.now (box_offsets c.args.offsets) (c.args.tile.x + x) (c.args.tile.y + y) (g.met.E.Extremum.is_idempotent v) (c.is_neutral.ensures c.if-is_neutral.true) c.in-Some.ensures c.words_of-words.ensures.size

pub returns-then-stays : goal.returns-then-stays
returns-then-stays g c = λ x y less row_less.
    let v = cond c.in-Some.pixel 1 0 in
    let box = c.args.offsets in
    uniform_boxed g.E.Extremum.merge (g.E.Extremum.neutral_of 1) v c.args.set.now box c.args.tile c.place-place.result (to_z w32 (of_z w32 box.x0)) (to_z w32 (of_z w32 box.y0)) x y (g.met.E.Extremum.neutral_changes_none 1 v (pixel_small c.in-Some.pixel)) (g.met.E.Extremum.is_idempotent v) c.in-Some.ensures
    c.words_of-words.ensures.size c.place-place.ensures.value (omega (arith, ints)) (omega (arith, ints)) (omega (arith, ints)) (omega (arith, ints)) (c.stays.ensures c.if-stays.true) less row_less
