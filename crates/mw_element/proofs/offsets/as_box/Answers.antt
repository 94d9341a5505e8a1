use Rattle.std.proofs.Common.{arith}
use Rattle.std.proofs.lemmas.Int.{ints}
use Rattle.mw_element.proofs.Lists.{near_bounds, boxed_below}
use Rattle.mw_element.proofs.Boxes.{Spans, full_box, not_filled}
use Rattle.mw_element.proofs.offsets.as_box.Goals as goal

pub count_between-columns-requires : goal.count_between-columns-requires
count_between-columns-requires c =
    let near = near_bounds c.bounds-bounds.result c.args.offsets.now c.bounds-bounds.ensures.least c.requires.near in
    let below = boxed_below c.bounds-bounds.result c.args.offsets.now c.requires.some c.bounds-bounds.ensures.inside in
    record { near = omega (arith, ints, near.left); ordered = omega (arith, ints, below.0); far = omega (arith, ints, near.right) }

pub count_between-rows-requires : goal.count_between-rows-requires
count_between-rows-requires c =
    let near = near_bounds c.bounds-bounds.result c.args.offsets.now c.bounds-bounds.ensures.least c.requires.near in
    let below = boxed_below c.bounds-bounds.result c.args.offsets.now c.requires.some c.bounds-bounds.ensures.inside in
    record { near = omega (arith, ints, near.top); ordered = omega (arith, ints, below.1); far = omega (arith, ints, near.bottom) }

pub returns-then-rows-columns-clause-some : goal.returns-then-rows-columns-clause-some
returns-then-rows-columns-clause-some c =
    let spans : Spans c.bounds-bounds.result c.count_between-columns.result c.count_between-rows.result = record { across = omega (arith, ints, c.count_between-columns.ensures.value); down = omega (arith, ints, c.count_between-rows.ensures.value) } in
    full_box c.bounds-bounds.result c.count_between-columns.result c.count_between-rows.result c.args.offsets.now spans c.requires.distinct c.bounds-bounds.ensures.inside c.if-rows-columns.true

pub returns-else-rows-columns-clause-none : goal.returns-else-rows-columns-clause-none
returns-else-rows-columns-clause-none c =
    let spans : Spans c.bounds-bounds.result c.count_between-columns.result c.count_between-rows.result = record { across = omega (arith, ints, c.count_between-columns.ensures.value); down = omega (arith, ints, c.count_between-rows.ensures.value) } in
    not_filled c.bounds-bounds.result c.count_between-columns.result c.count_between-rows.result c.args.offsets.now c.requires.some spans c.requires.distinct c.bounds-bounds.ensures.inside c.bounds-bounds.ensures.least c.if-rows-columns.false
