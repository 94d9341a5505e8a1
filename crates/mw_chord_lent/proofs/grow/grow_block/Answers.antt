use Rattle.std.proofs.Common.{◌≡◌, ℕ, ◌+◌, ◌*◌, ◌∙◌, ap, arith, get_or}
use Rattle.mw_line_lent.specs.Boxes.{IsPutAt}
use Rattle.mw_chord_lent.proofs.Puts.{both_lanes, put_none, put_part}
use Rattle.mw_chord_lent.proofs.grow.grow_block.Goals as goal

pub returns-clause-put : goal.returns-clause-put
returns-clause-put g c =
    let at = c.args.step.to in
    let w = g.P.Laned.WIDTH in
    let lanes = c.WIDTH-lanes.result in
    let old = c.args.lists.now in
    let one : IsPutAt at w old c.store.new.out = record { size = c.store.ensures.size; before = c.store.ensures.before; behind = c.store.ensures.behind } in
    let two : IsPutAt (at + lanes) w c.store.new.out c.store-2.new.out = record { size = c.store-2.ensures.size; before = c.store-2.ensures.before; behind = c.store-2.ensures.behind } in
    put_part at (2 * w) (at + lanes) w old c.store.new.out c.store-2.new.out (omega arith) (omega (arith, c.WIDTH-lanes.ensures)) (put_part at (2 * w) at w old old c.store.new.out (omega arith) (omega arith) (put_none at (2 * w) old) one) two

pub returns-clause-made : goal.returns-clause-made
returns-clause-made g c = λ i d lt.
    let f = g.E.Extremum.merge in
    let step = c.args.step in
    let lists = c.args.lists.now in
    let w = g.P.Laned.WIDTH in
    let lanes = c.WIDTH-lanes.result in
    both_lanes w (λ i v. v ≡ f (get_or lists (step.from + i) d) (get_or lists (step.from + step.ahead + i) d)) d step.to c.store-2.new.out
    (λ i less. c.store-2.ensures.before (step.to + i) d (omega (arith, less, c.WIDTH-lanes.ensures)) ∙ c.store.ensures.put i d less ∙ c.merged-first.ensures i less
    ∙ ap (λ (t : g.row.P.Denot). f t (g.P.Laned.lane c.load-2.result i)) (c.load.ensures i d less) ∙ ap (f (get_or lists (step.from + i) d)) (c.load-2.ensures i d less))
    (λ i less.
    let there : step.to + w + i ≡ step.to + lanes + i = omega (arith, c.WIDTH-lanes.ensures) in
    let one : step.from + lanes + i ≡ step.from + (w + i) = omega (arith, c.WIDTH-lanes.ensures) in
    let other : step.from + step.ahead + lanes + i ≡ step.from + step.ahead + (w + i) = omega (arith, c.WIDTH-lanes.ensures) in
    ap (λ (t : ℕ). get_or c.store-2.new.out t d) there ∙ c.store-2.ensures.put i d less ∙ c.merged-second.ensures i less
    ∙ ap (λ (t : g.row.P.Denot). f t (g.P.Laned.lane c.load-4.result i)) (c.load-3.ensures i d less ∙ ap (λ (t : ℕ). get_or lists t d) one)
    ∙ ap (f (get_or lists (step.from + (w + i)) d)) (c.load-4.ensures i d less ∙ ap (λ (t : ℕ). get_or lists t d) other)) i lt
