use Rattle.std.proofs.Common.{◌≡◌, ap, ◌∙◌}
use Rattle.mw_model.specs.declared.shapes.Shape.{Shape}
use Rattle.mw_model.specs.declared.shapes.Shape.TheVariants as shape
use Rattle.mw_core_laws.specs.mw_plan.declared.inputs.Input.TheVariants as input
use Rattle.mw_core_tasks.proofs.PlannedByLemmas.{looks-up, plan-works, planned-made}
use Rattle.mw_core_tasks.proofs.planning.planned.Goals as goal

pub new-requires : goal.new-requires
new-requires c =
    let s = c.args.store.now in
    let r = c.args.run in
    let i = c.in-Image-shape in
    let x = shape.Image i.kind i.width i.height i.maxval in
    let is : r.a ≡ input.Image x = c.in-Image.is ∙ ap (λ (y : Shape). input.Image y) i.is in
    let l = looks-up s.table s.kept c.args.name c.args.op r.submission x r.a r.b r.c c.requires.accepted c.requires.submission c.requires.below c.requires.fits c.requires.first c.requires.second c.requires.third is in
    (plan-works s.table s.kept c.args.name c.args.op r.submission l.0 x r.a r.b r.c c.in_ok-plan.plan l.1 c.requires.faultless c.in_ok-plan.ensures.plan).0

pub returns : goal.returns
returns c =
    let s = c.args.store.now in
    let r = c.args.run in
    let i = c.in-Image-shape in
    let x = shape.Image i.kind i.width i.height i.maxval in
    let is : r.a ≡ input.Image x = c.in-Image.is ∙ ap (λ (y : Shape). input.Image y) i.is in
    let l = looks-up s.table s.kept c.args.name c.args.op r.submission x r.a r.b r.c c.requires.accepted c.requires.submission c.requires.below c.requires.fits c.requires.first c.requires.second c.requires.third is in
    record {
      planned = planned-made c.new.result s.table s.kept c.args.name c.args.op r.submission l.0 i.kind i.width i.height i.maxval c.args.side c.side_for-tiles.result r.a r.b r.c c.in_ok-plan.plan c.new-grid.result
          l.1 c.requires.faultless c.in_ok-plan.ensures.plan c.side_for-tiles.ensures c.new-grid.ensures c.new.ensures.progress c.new.ensures.input c.new.ensures.tiling c.new.ensures.whole;
    }
