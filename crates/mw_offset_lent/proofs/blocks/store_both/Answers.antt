use Rattle.std.proofs.Common.{◌≡◌, ℕ, ◌+◌, ◌*◌, ◌∙◌, ap, arith, get_or}
use Rattle.mw_line_lent.specs.Boxes.{IsPutAt}
use Rattle.mw_offset_lent.proofs.Puts.{put_none, put_part}
use Rattle.mw_offset_lent.proofs.blocks.store_both.Goals as goal

pub returns-clause-put : goal.returns-clause-put
returns-clause-put g c =
    let at = c.args.at in
    let w = g.P.Laned.WIDTH in
    let old = c.args.out.now in
    let one : IsPutAt at w old c.store.new.out = record { size = c.store.ensures.size; before = c.store.ensures.before; behind = c.store.ensures.behind } in
    let two : IsPutAt (at + c.WIDTH.result) w c.store.new.out c.store-2.new.out = record { size = c.store-2.ensures.size; before = c.store-2.ensures.before; behind = c.store-2.ensures.behind } in
    put_part at (2 * w) (at + c.WIDTH.result) w old c.store.new.out c.store-2.new.out (omega arith) (omega (arith, c.WIDTH.ensures)) (put_part at (2 * w) at w old old c.store.new.out (omega arith) (omega arith) (put_none at (2 * w) old) one) two

pub returns-clause-first : goal.returns-clause-first
returns-clause-first g c = λ i d lt. c.store-2.ensures.before (c.args.at + i) d (omega (arith, lt, c.WIDTH.ensures)) ∙ c.store.ensures.put i d lt

pub returns-clause-second : goal.returns-clause-second
returns-clause-second g c = λ i d lt.
    let here : c.args.at + g.P.Laned.WIDTH + i ≡ c.args.at + c.WIDTH.result + i = omega (arith, c.WIDTH.ensures) in
    ap (λ (t : ℕ). get_or c.store-2.new.out t d) here ∙ c.store-2.ensures.put i d lt
