use Rattle.std.proofs.Common.{◌≡◌, ◌+◌, ◌-◌, ◌∙◌, ℕ, List, length, subst, sym, arith}
use Rattle.mw_model.proofs.mw_facts.Elements.{take-written}
use Rattle.mw_geodesic_areas.specs.Plain.{AreOpenedOver}
use Rattle.mw_geodesic_areas.proofs.PlainOpenings.{levels_opened, shown_as}
use Rattle.mw_geodesic_areas.proofs.plain.plain_area_opening.Goals as goal

pub loop-n-preserved : goal.loop-n-preserved
loop-n-preserved c =
    let e = c.args.around.now in
    let f = c.args.image.now in
    let new = c.open_at.new.levels in
    let size : length new ≡ c.loop-n.levels.len = omega (arith, c.open_at.auto.levels, c.deref_mut.ensures.len) in
    let number : c.maxval-top.result - c.loop-n.n - 1 ≡ f.maxval - (c.loop-n.n + 1) = omega (arith, c.maxval-top.ensures) in
    record {
      opened = subst (λ (l : List ℕ). AreOpenedOver e c.args.least f (f.maxval - (c.loop-n.n + 1)) l) (sym (take-written c.loop-n.levels.items new c.loop-n.levels.len size))
          (subst (λ (m : ℕ). AreOpenedOver e c.args.least f m new) number c.in_ok-open_at.ensures);
    }

pub returns : goal.returns
returns c =
    let e = c.args.around.now in
    let f = c.args.image.now in
    let levels = c.loop-n.levels.items in
    let last : f.maxval - c.loop-n.n ≡ 0 = omega (arith, c.maxval-top.ensures) in
    c.new.ensures
    ∙ shown_as f c.kind.result c.width-width.result c.height-height.result c.maxval-top.result levels c.kind.ensures c.width-width.ensures.is c.height-height.ensures.is c.maxval-top.ensures
    ∙ levels_opened e c.args.least f levels (subst (λ (m : ℕ). AreOpenedOver e c.args.least f m levels) last c.loop-n.invariant.opened)
