use Rattle.std.proofs.Common.{◌≡◌}
use Rattle.std.proofs.lemmas.Result.{IfOk-weaker}
use Rattle.mw_model.specs.declared.operations.FlatOp.TheVariants as flat
use Rattle.mw_model.specs.declared.operations.Op.TheVariants as op
use Rattle.mw_model.specs.Flat.{threshold}
use Rattle.mw_plan.specs.PlansOf.{IsPlanOf}
use Rattle.mw_plan.specs.Steps.{last_plane}
use Rattle.mw_plan.specs.declared.inputs.Input.TheVariants as input
use Rattle.mw_c_arrays.specs.Sources.{picture_in}
use Rattle.mw_c_arrays.proofs.SourceImages.{source_image}
use Rattle.mw_c_calls.proofs.Planned.{threshold_plan_is}
use Rattle.mw_c_calls.proofs.plans.plan_of_threshold.Goals as goal

pub returns-clause-plan : goal.returns-clause-plan
returns-clause-plan c =
    let f = picture_in c.args.f in
    let s = c.shape_of-shape.result in
    IfOk-weaker c.plan_of_legal.result (IsPlanOf (op.Flat (flat.Threshold c.name.result c.args.k)) (input.Image s) input.Absent input.Absent) (λ p. last_plane p f ≡ threshold c.args.k f)
    (λ p is. threshold_plan_is c.name.result c.args.k f s p (source_image c.args.f c.requires.image) c.shape_of-shape.ensures is) c.plan_of_legal.ensures.plan
