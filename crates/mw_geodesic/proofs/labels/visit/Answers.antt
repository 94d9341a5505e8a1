use Rattle.std.proofs.Common.{◌≡◌, ◌+◌, ◌*◌, ℕ, get_or, sym, subst, arith}
use Rattle.mw_geodesic.specs.Labels.{label_at}
use Rattle.mw_geodesic.specs.Markings.{passed_by, named}
use Rattle.mw_geodesic.proofs.labels.visit.Goals as goal

pub returns-then-sample-ne1 : goal.returns-then-sample-ne1
returns-then-sample-ne1 c = passed_by (λ one. absurd (omega arith))

pub returns-then-labels-i-ne0 : goal.returns-then-labels-i-ne0
returns-then-labels-i-ne0 c = passed_by (λ one none.
    let wide : c.width.result ≡ c.args.set.now.width = c.width.ensures.is in
    let here : get_or c.args.labels.now (c.args.p.y * c.width.result + c.args.p.x) 0 ≡ 0 = subst (λ (w : ℕ). get_or c.args.labels.now (c.args.p.y * w + c.args.p.x) 0 ≡ 0) (sym wide) none in
    absurd (omega arith))

pub returns : goal.returns
returns c =
    let wide : c.width.result ≡ c.args.set.now.width = c.width.ensures.is in
    let here : get_or c.args.labels.now (c.args.p.y * c.width.result + c.args.p.x) 0 ≡ 0 = omega arith in
    let none : label_at c.args.set.now c.args.labels.now c.args.p.x c.args.p.y ≡ 0 = subst (λ (w : ℕ). get_or c.args.labels.now (c.args.p.y * w + c.args.p.x) 0 ≡ 0) wide here in
    named c.mark_component.new.labels (omega arith) none c.in_ok-mark_component.ensures.partly c.in_ok-mark_component.ensures.kept c.in_ok-mark_component.ensures.seed
