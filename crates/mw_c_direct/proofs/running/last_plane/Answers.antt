use Rattle.std.proofs.Common.{◌-◌, ℕ, ap, arith, ◌∙◌}
use Rattle.std.specs.Prelude.{slice_index_or}
use Rattle.mw_model.specs.Plans.{no_picture}
use Rattle.mw_plan.specs.Seen.{planned}
use Rattle.mw_c_direct.specs.Runs.{planes_on}
use Rattle.mw_c_direct.proofs.Steps.{CanRun, plane_told, product_true, ready_held}
use Rattle.mw_c_direct.proofs.running.last_plane.Goals as goal

pub provide-requires-clause-run : goal.provide-requires-clause-run
provide-requires-clause-run c = c.in_ok-run.ensures.run c.args.image.now

pub made-requires : goal.made-requires
made-requires c =
    let k = c.len-last.result - 1 in
    let run = c.provide.new.self in
    let some = c.requires.runnable.some in
    let count = c.len-last.ensures in
    let can : CanRun c.args.plan.now c.args.image.now run.made.items run.planes.items k = record {
      runs = c.requires.runnable;
      run = c.in_ok-provide.ensures.run;
      within = omega (arith, some, count);
      unmade = c.in_ok-provide.ensures.later k (omega arith) ∙ c.in_ok-run.ensures.unmade k;
      sources = c.in_ok-provide.ensures.sources;
    } in
    ready_held c.args.plan.now c.args.image.now run.made.items run.planes.items c.deref.result.now k (planned c.step.result.now) can c.step.ensures c.deref.ensures.value

pub returns : goal.returns
returns c =
    let plan = c.args.plan.now in
    let image = c.args.image.now in
    let k = c.len-last.result - 1 in
    let run = c.provide.new.self in
    let some = c.requires.runnable.some in
    let count = c.len-last.ensures in
    let can : CanRun plan image run.made.items run.planes.items k = record {
      runs = c.requires.runnable;
      run = c.in_ok-provide.ensures.run;
      within = omega (arith, some, count);
      unmade = c.in_ok-provide.ensures.later k (omega arith) ∙ c.in_ok-run.ensures.unmade k;
      sources = c.in_ok-provide.ensures.sources;
    } in
    plane_told plan image k c.in_ok-plane.field-0 c.in-Plane.plane c.in-Plane.is
    (product_true plan image run.made.items run.planes.items c.deref.result.now k (planned c.step.result.now) c.in_ok-plane.field-0 can c.step.ensures c.deref.ensures.value c.in_ok-plane.ensures)
    ∙ ap (λ (n : ℕ). slice_index_or (planes_on plan image) (n - 1) no_picture) count
