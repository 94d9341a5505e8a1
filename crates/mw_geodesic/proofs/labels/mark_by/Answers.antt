use Rattle.std.proofs.Common.{◌≡◌, ◌+◌, ◌*◌, ℕ, get_or, sym, subst, arith, refl}
use Rattle.mw_model.specs.Pictures.{sample}
use Rattle.mw_geodesic.specs.Floods.{IsBehind}
use Rattle.mw_geodesic.specs.Labels.{label_at}
use Rattle.mw_geodesic.specs.Markings.{passed, marked}
use Rattle.mw_geodesic.proofs.Raised.{one_behind}
use Rattle.mw_geodesic.proofs.labels.mark_by.Goals as goal

pub returns-in_default : goal.returns-in_default
returns-in_default c = passed (λ x y place joins one. absurd (c.in_default.ensures.none refl x y (omega (arith, place.column)) (omega (arith, place.row)) joins))

pub returns-then-sample-ne1 : goal.returns-then-sample-ne1
returns-then-sample-ne1 c = passed (λ x y place joins one.
    let p = c.in-Some.p in
    let same = one_behind c.args.b x y p.x p.y c.args.q.x c.args.q.y joins c.in-Some.ensures.is.joins in
    let here : sample c.args.set.now p.x p.y ≡ 1 = rw (← same.0, ← same.1) one in
    absurd (omega arith))

pub returns-in_ok-push_back : goal.returns-in_ok-push_back
returns-in_ok-push_back c =
    let f = c.args.set.now in
    let p = c.in-Some.p in
    let behind = c.in-Some.ensures.is in
    let at : IsBehind f.width f.height c.args.b c.args.q.x c.args.q.y p = record { column = omega (arith, behind.column); row = omega (arith, behind.row); joins = behind.joins } in
    let wide : c.width-2.result ≡ f.width = c.width-2.ensures.is in
    let empty : get_or c.args.labels.now (p.y * c.width-2.result + p.x) 0 ≡ 0 = omega arith in
    let none : label_at f c.args.labels.now p.x p.y ≡ 0 = subst (λ (w : ℕ). get_or c.args.labels.now (p.y * w + p.x) 0 ≡ 0) wide empty in
    rw (c.in_ok-push_back.ensures.items, wide) (marked p at (omega arith) none)

pub returns-else-labels-i-eq0 : goal.returns-else-labels-i-eq0
returns-else-labels-i-eq0 c = passed (λ x y place joins one no_label.
    let f = c.args.set.now in
    let p = c.in-Some.p in
    let same = one_behind c.args.b x y p.x p.y c.args.q.x c.args.q.y joins c.in-Some.ensures.is.joins in
    let none : label_at f c.args.labels.now p.x p.y ≡ 0 = rw (← same.0, ← same.1) no_label in
    let wide : c.width-2.result ≡ f.width = c.width-2.ensures.is in
    let empty : get_or c.args.labels.now (p.y * c.width-2.result + p.x) 0 ≡ 0 = subst (λ (w : ℕ). get_or c.args.labels.now (p.y * w + p.x) 0 ≡ 0) (sym wide) none in
    absurd (omega arith))
