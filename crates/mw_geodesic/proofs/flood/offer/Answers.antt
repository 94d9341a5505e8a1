use Rattle.std.proofs.Common.{◌≡◌, ◌∙◌, ℕ, min, ap, arith, refl}
use Rattle.mw_model.specs.Pictures.{sample}
use Rattle.mw_geodesic.specs.Floods.{refused, taken, with_sample, IsBehind}
use Rattle.mw_geodesic.proofs.Raised.{one_behind}
use Rattle.mw_geodesic.proofs.flood.offer.Goals as goal

pub returns-in_default : goal.returns-in_default
returns-in_default c = refused (λ x y p q joins. absurd (c.in_default.ensures.none refl x y (omega arith) (omega arith) joins))

pub returns-in_ok-push_back : goal.returns-in_ok-push_back
returns-in_ok-push_back c =
    let f = c.args.canvas.now in
    let p = c.in-Some.p in
    let queue = c.args.queue.now.items in
    let mask = c.args.mask.now in
    let s : c.min-s.result ≡ min (sample f c.args.q.x c.args.q.y) (sample mask p.x p.y) = omega arith in
    let drawn : c.set.new.self ≡ with_sample f p.x p.y (min (sample f c.args.q.x c.args.q.y) (sample mask p.x p.y)) =
    c.set.ensures ∙ ap (λ (t : ℕ). with_sample f p.x p.y t) s in
    let behind = c.in-Some.ensures.is in
    let at : IsBehind f.width f.height c.args.b c.args.q.x c.args.q.y p = record { column = omega (arith, behind.column); row = omega (arith, behind.row); joins = behind.joins } in
    rw (drawn, c.in_ok-push_back.ensures.items) (taken p at (omega arith))

pub returns-else-sample-s : goal.returns-else-sample-s
returns-else-sample-s c =
    let f = c.args.canvas.now in
    let p = c.in-Some.p in
    let behind = c.in-Some.ensures.is in
    refused (λ x y a b joins.
    let one = one_behind c.args.b x y p.x p.y c.args.q.x c.args.q.y joins behind.joins in
    rw (one.0, one.1) (omega arith))
