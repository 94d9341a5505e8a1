use Rattle.std.proofs.Common.{◌≡◌, ℕ, ◌+◌, ◌*◌, get_or, ap, arith, ◌∙◌}
use Rattle.mw_line_lent.specs.Boxes.{IsPutAt}
use Rattle.mw_line_lent.proofs.Puts.{in_rows_none, in_rows_one}
use Rattle.mw_line_lent.proofs.fours.store_two.Goals as goal

pub returns-clause-put : goal.returns-clause-put
returns-clause-put g c =
    let at = c.args.at in
    let w = c.args.wide in
    let width = g.P.Laned.WIDTH in
    let old = c.args.out.now in
    let first : IsPutAt at width old c.store.new.out = record { size = c.store.ensures.size; before = c.store.ensures.before; behind = c.store.ensures.behind } in
    let last : IsPutAt (at + w) width c.store.new.out c.store-2.new.out = record { size = c.store-2.ensures.size; before = c.store-2.ensures.before; behind = c.store-2.ensures.behind } in
    in_rows_one 2 at width w 1 (at + w) old c.store.new.out c.store-2.new.out (omega arith) (omega arith) (in_rows_one 2 at width w 0 at old old c.store.new.out (omega arith) (omega arith) (in_rows_none 2 at width w old) first) last

pub returns-clause-first : goal.returns-clause-first
returns-clause-first g c = λ i d lt.
    let at = c.args.at in
    let w = c.args.wide in
    let new = c.store-2.new.out in
    ap (λ (t : ℕ). get_or new t d) (let e : at + 0 * w + i ≡ at + i = omega arith in e) ∙ c.store-2.ensures.before (at + i) d (omega (arith, lt, c.requires.apart)) ∙ c.store.ensures.put i d lt

pub returns-clause-second : goal.returns-clause-second
returns-clause-second g c = λ i d lt.
    let at = c.args.at in
    let w = c.args.wide in
    let new = c.store-2.new.out in
    ap (λ (t : ℕ). get_or new t d) (let e : at + 1 * w + i ≡ at + w + i = omega arith in e) ∙ c.store-2.ensures.put i d lt
