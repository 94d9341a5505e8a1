use Rattle.std.proofs.Common.{sym, ◌∙◌}
use Rattle.std.proofs.lemmas.Result.{err_from_is_err_and}
use Rattle.mw_c_direct.specs.Values.{figure_given}
use Rattle.mw_c_direct.proofs.Inputs.{accepted, curve_is, fault_same, image_is, is_given, operator_is, refused_alike, runnable}
use Rattle.mw_c_direct.proofs.Steps.{last_sound}
use Rattle.mw_c_direct.proofs.applying.apply.Goals as goal

pub returns-in_err-plan-clause-refused : goal.returns-in_err-plan-clause-refused
returns-in_err-plan-clause-refused c =
    let p = err_from_is_err_and c.from_residual.result c.from_residual.ensures.1 in
    let same = fault_same c.args.op.now c.args.image.now c.args.b c.args.c c.shape.result c.input.result c.input-2.result c.shape.ensures c.input.ensures c.input-2.ensures in
    rw (sym same, p.1, p.2) (refused_alike _ c.in_err-plan.field-0.0 c.in_err-plan.ensures.refused)

pub last_plane-requires-clause-runnable : goal.last_plane-requires-clause-runnable
last_plane-requires-clause-runnable c =
    runnable _ _ _ _ _ _ _ _ (is_given c.args.op.now c.args.image.now c.args.b c.args.c c.shape.result c.input.result c.input-2.result c.in_ok-plan.plan c.requires c.shape.ensures c.input.ensures c.input-2.ensures c.in_ok-plan.ensures.plan)

pub returns-then-draws-clause-refused : goal.returns-then-draws-clause-refused
returns-then-draws-clause-refused c =
    let same = fault_same c.args.op.now c.args.image.now c.args.b c.args.c c.shape.result c.input.result c.input-2.result c.shape.ensures c.input.ensures c.input-2.ensures in
    rw (sym same, accepted _ c.in_ok-plan.plan c.in_ok-plan.ensures.refused) tt

pub returns-then-draws-clause-value : goal.returns-then-draws-clause-value
returns-then-draws-clause-value c =
    image_is _ _ _ _ _ _ _ _ c.in_ok-plane.plane (is_given c.args.op.now c.args.image.now c.args.b c.args.c c.shape.result c.input.result c.input-2.result c.in_ok-plan.plan c.requires c.shape.ensures c.input.ensures c.input-2.ensures c.in_ok-plan.ensures.plan) (sym c.draws.ensures ∙ c.if-draws.true) c.in_ok-plane.ensures

pub returns-then-draws-clause-operator : goal.returns-then-draws-clause-operator
returns-then-draws-clause-operator c =
    λ flat is.
    operator_is c.args.op.now flat c.args.image.now (figure_given c.args.b) (figure_given c.args.c) c.in_ok-plane.plane
    (image_is _ _ _ _ _ _ _ _ c.in_ok-plane.plane (is_given c.args.op.now c.args.image.now c.args.b c.args.c c.shape.result c.input.result c.input-2.result c.in_ok-plan.plan c.requires c.shape.ensures c.input.ensures c.input-2.ensures c.in_ok-plan.ensures.plan) (sym c.draws.ensures ∙ c.if-draws.true) c.in_ok-plane.ensures) is

pub returns-then-draws-clause-sound : goal.returns-then-draws-clause-sound
returns-then-draws-clause-sound c =
    let given = is_given c.args.op.now c.args.image.now c.args.b c.args.c c.shape.result c.input.result c.input-2.result c.in_ok-plan.plan c.requires c.shape.ensures c.input.ensures c.input-2.ensures c.in_ok-plan.ensures.plan in
    last_sound c.in_ok-plan.plan c.args.image.now c.in_ok-plane.plane (runnable _ _ _ _ _ _ _ _ given) c.requires c.in_ok-plane.ensures c.facts_of.ensures.picture c.facts_of.ensures.maxval

pub numbers-requires : goal.numbers-requires
numbers-requires c =
    runnable _ _ _ _ _ _ _ _ (is_given c.args.op.now c.args.image.now c.args.b c.args.c c.shape.result c.input.result c.input-2.result c.in_ok-plan.plan c.requires c.shape.ensures c.input.ensures c.input-2.ensures c.in_ok-plan.ensures.plan)

pub returns-clause-value : goal.returns-clause-value
returns-clause-value c =
    curve_is _ _ _ _ _ _ _ _ c.of.result (is_given c.args.op.now c.args.image.now c.args.b c.args.c c.shape.result c.input.result c.input-2.result c.in_ok-plan.plan c.requires c.shape.ensures c.input.ensures c.input-2.ensures c.in_ok-plan.ensures.plan) (sym c.draws.ensures ∙ c.if-draws.false) (c.of.ensures ∙ c.in_ok-numbers.ensures)
