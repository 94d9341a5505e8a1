use Rattle.std.proofs.Common.{◌+◌, ◌∙◌, cond, flat_map, sym}
use Rattle.mw_model.specs.Windows.{seen_at}
use Rattle.mw_offset.specs.mw_element_runs.Runs.{run_offsets}
use Rattle.mw_offset.proofs.mw_element_runs.Orders.{fold_either_way}
use Rattle.mw_bits.proofs.UniformSeen.{uniform_neutral, uniform_seen, pixel_small}
use Rattle.mw_bits.proofs.uniform.settled.Goals as goal

pub returns-then-is_neutral : goal.returns-then-is_neutral
returns-then-is_neutral g c = λ x y less row_less.
    let set = c.args.set.now in
    let v = cond c.in-Some.pixel 1 0 in
    uniform_neutral g.E.Extremum.merge (g.E.Extremum.neutral_of 1) v set c.args.offsets.now (c.args.tile.x + x) (c.args.tile.y + y) (g.met.E.Extremum.is_idempotent v) (c.is_neutral.ensures c.if-is_neutral.true) c.in-Some.ensures c.words_of-words.ensures.size

pub returns-then-some_stays : goal.returns-then-some_stays
returns-then-some_stays g c = λ x y less row_less.
    let f = g.E.Extremum.merge in
    let n = g.E.Extremum.neutral_of 1 in
    let set = c.args.set.now in
    let v = cond c.in-Some.pixel 1 0 in
    let runs = c.args.runs.now in
    let some = c.some_stays.ensures c.if-some_stays.true in
    sym (fold_either_way f g.met.E.Extremum.commutes g.met.E.Extremum.associates n (seen_at set) c.args.offsets.now runs (c.args.tile.x + x) (c.args.tile.y + y) c.requires.either)
    ∙ uniform_seen f n v set (flat_map run_offsets runs) c.args.tile c.place-place.result some.0 x y (g.met.E.Extremum.neutral_changes_none 1 v (pixel_small c.in-Some.pixel)) (g.met.E.Extremum.is_idempotent v) c.in-Some.ensures
    c.words_of-words.ensures.size c.place-place.ensures.value some.1 some.2 less row_less
