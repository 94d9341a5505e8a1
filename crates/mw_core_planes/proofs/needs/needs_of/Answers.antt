use Rattle.std.proofs.Common.{◌≡◌, length, subst, arith}
use Rattle.mw_model.specs.Plans.{Planned}
use Rattle.mw_ready.specs.Work.{IsNeedOf}
use Rattle.mw_core_planes.proofs.NeedLists.{needs_more}
use Rattle.mw_core_planes.proofs.needs.needs_of.Goals as goal

pub loop-k-preserved : goal.loop-k-preserved
loop-k-preserved c =
    let size : length c.loop-k.needs.items ≡ c.loop-k.k = (let ok = c.loop-k.needs.ok in omega (arith, c.loop-k.invariant.size)) in
    record {
      size = omega (arith, c.in_ok-push.ensures.len, c.loop-k.invariant.size);
      each = needs_more c.args.plan.now c.loop-k.needs.items c.push.new.self.items c.need_of.result c.loop-k.k size c.in_ok-push.ensures.items c.loop-k.invariant.each (subst (λ (q : Planned). IsNeedOf c.need_of.result q) c.step.ensures c.need_of.ensures);
    }
