use Rattle.std.proofs.Common.{arith, refl, ◌≤◌}
use Rattle.std.proofs.lemmas.Bool.{ltb-false}
use Rattle.mw_geodesic.proofs.Raised.{one_behind}
use Rattle.mw_geodesic.proofs.flood.can_offer_by.Goals as goal

pub returns-in_default : goal.returns-in_default
returns-in_default c = λ none x y p q joins. absurd (c.in_default.ensures.none refl x y (omega arith) (omega arith) joins)

pub returns : goal.returns
returns c = λ none x y a b joins.
    let low : c.min.result ≤ c.sample.result = ltb-false c.sample.result c.min.result none in
    let p = c.in-Some.p in
    let one = one_behind c.args.b x y p.x p.y c.args.q.x c.args.q.y joins c.in-Some.ensures.is.joins in
    rw (one.0, one.1) (omega arith)
