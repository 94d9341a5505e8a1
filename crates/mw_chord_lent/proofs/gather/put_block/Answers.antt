use Rattle.std.proofs.Common.{◌≡◌, ℕ, ◌+◌, ◌*◌, ◌∙◌, ap, arith, get_or}
use Rattle.mw_line_lent.specs.Boxes.{IsPutAt}
use Rattle.mw_chord_lent.specs.Placed.{gathered_at}
use Rattle.mw_chord_lent.proofs.Puts.{both_lanes, put_none, put_part}
use Rattle.mw_chord_lent.proofs.gather.put_block.Goals as goal

pub returns-clause-put : goal.returns-clause-put
returns-clause-put g c =
    let at = c.args.at in
    let w = g.P.Laned.WIDTH in
    let old = c.args.out.now in
    let one : IsPutAt at w old c.store.new.out = record { size = c.store.ensures.size; before = c.store.ensures.before; behind = c.store.ensures.behind } in
    let two : IsPutAt (at + c.WIDTH.result) w c.store.new.out c.store-2.new.out = record { size = c.store-2.ensures.size; before = c.store-2.ensures.before; behind = c.store-2.ensures.behind } in
    put_part at (2 * w) (at + c.WIDTH.result) w old c.store.new.out c.store-2.new.out (omega arith) (omega (arith, c.WIDTH.ensures)) (put_part at (2 * w) at w old old c.store.new.out (omega arith) (omega arith) (put_none at (2 * w) old) one) two

pub returns-clause-made : goal.returns-clause-made
returns-clause-made g c = λ i lt.
    let f = g.E.Extremum.merge in
    let n = c.args.neutral in
    let lists = c.args.lists.now in
    let from = c.args.from in
    let at = c.args.at in
    let places = c.args.places.now in
    let w = g.P.Laned.WIDTH in
    both_lanes w (λ i v. v ≡ gathered_at f lists n (from + i) n places) n at c.store-2.new.out
    (λ i less. c.store-2.ensures.before (at + i) n (omega (arith, less, c.WIDTH.ensures)) ∙ c.store.ensures.put i n less ∙ c.merge_places-first.ensures.first i less)
    (λ i less.
    let there : at + w + i ≡ at + c.WIDTH.result + i = omega (arith, c.WIDTH.ensures) in
    let here : from + w + i ≡ from + (w + i) = omega arith in
    ap (λ (t : ℕ). get_or c.store-2.new.out t n) there ∙ c.store-2.ensures.put i n less ∙ c.merge_places-first.ensures.second i less ∙ ap (λ (t : ℕ). gathered_at f lists n t n places) here) i lt
