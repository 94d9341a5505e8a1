use Rattle.mw_model.specs.declared.operations.Op.TheVariants as op
use Rattle.mw_c_arrays.specs.Sources.{picture_in}
use Rattle.mw_c_arrays.proofs.SourceImages.{source_image}
use Rattle.mw_c_calls.specs.Sources.{bitmap_figure}
use Rattle.mw_c_calls.proofs.Asked.{asked_ok, asked_told}
use Rattle.mw_c_calls.proofs.Planned.{plan_is}
use Rattle.mw_c_calls.proofs.plans.plan_by.Goals as goal

pub returns-in-Ok-plan_of-clause-plan : goal.returns-in-Ok-plan_of-clause-plan
returns-in-Ok-plan_of-clause-plan c =
    plan_is c.args.op.now (picture_in c.args.f) c.shape_of-shape.result _ (bitmap_figure c.args.b.now) c.in-Ok-plan_of.plan (source_image c.args.f c.requires.image) c.requires.one c.shape_of-shape.ensures c.in-Ok.ensures c.in-Ok-plan_of.ensures.plan

pub returns-in-Ok-plan_of-clause-told : goal.returns-in-Ok-plan_of-clause-told
returns-in-Ok-plan_of-clause-told c =
    asked_ok (op.Flat c.args.op.now) c.shape_of-shape.result (picture_in c.args.f) _ c.args.b.now c.in-Ok-plan_of.plan c.in-Ok-plan_of.plan c.requires.one c.shape_of-shape.ensures c.in-Ok.ensures c.in-Ok-plan_of.ensures.refused

pub returns-clause-told : goal.returns-clause-told
returns-clause-told c =
    asked_told _ _ (op.Flat c.args.op.now) c.shape_of-shape.result (picture_in c.args.f) _ c.args.b.now c.in-Err.fault c.code.result c.requires.one c.shape_of-shape.ensures c.in-Ok.ensures c.code.ensures c.in-Err.ensures.refused
