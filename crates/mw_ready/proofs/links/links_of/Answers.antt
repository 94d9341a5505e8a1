use Rattle.std.proofs.Common.{◌≡◌, ℕ, ◌+◌, ◌-◌, List, length, sym, subst, refl, get_or, arith}
use Rattle.mw_model.proofs.mw_facts.Elements.{take-written}
use Rattle.mw_ready.specs.declared.links.Link.{Link}
use Rattle.mw_ready.specs.Boards.{no_need}
use Rattle.mw_ready.specs.Links.{Linked}
use Rattle.mw_ready.proofs.Joining.{linked-more}
use Rattle.mw_ready.proofs.links.links_of.Goals as goal

pub loop-step-preserved : goal.loop-step-preserved
loop-step-preserved c =
    let needs = c.args.needs.now in
    let before = c.loop-step.invariant in
    let step = c.loop-step.step - 1 in
    let old = c.loop-step.links in
    let new = c.join.new.links in
    let e = c.join.ensures in
    let value = c.deref_mut.ensures.value in
    let size : length new ≡ length c.deref_mut.result.now = e.size in
    let whole : length new ≡ old.len = let ok = old.ok in omega (arith, e.size, c.deref_mut.ensures.len) in
    let back : c.loop-step.step ≡ step + 1 = omega arith in
    let linked : Linked needs c.deref_mut.result.now (step + 1) = subst (λ (k : ℕ). Linked needs c.deref_mut.result.now k) back (subst (λ (xs : List Link). Linked needs xs c.loop-step.step) (sym value) before.linked) in
    record {
      within = omega (arith, before.within);
      linked = subst (λ (xs : List Link). Linked needs xs step) (sym (take-written old.items new old.len whole))
          (linked-more needs (get_or needs step no_need) c.deref_mut.result.now new step refl linked e.size e.first e.next e.others);
    }
