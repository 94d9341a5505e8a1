-- The work of an accepted command, in the machine after the command.
use Rattle.std.proofs.Common.{◌≡◌, ℕ, ◌+◌, ◌<◌, List, [], ◌∷◌, length, map, Option, None, sym, ap, ◌∙◌, subst, arith, length-append}
use Rattle.mw_model.proofs.mw_facts.Elements.{get_or-push_below, get_or-push_last}
use Rattle.mw_model.specs.declared.names.Name.{Name}
use Rattle.mw_model.specs.declared.operations.Op.{Op}
use Rattle.mw_model.specs.declared.submissions.Submission.{Submission}
use Rattle.mw_model.specs.declared.calls.Call.TheVariants as call
use Rattle.mw_model.specs.declared.calls.Outcome.TheVariants as outcome
use Rattle.mw_model.specs.Values.{Value, value_at, value_of, tickets, result_of}
use Rattle.mw_model.specs.Refusals.{no_submission, submission_at, first_of, name_taken, no_room, wanted_case, inputs_wanted, refusal}
use Rattle.mw_model.specs.Machine.{Machine, values, inputs_from, run_submission}
use Rattle.mw_model.specs.Plans.{Plan, images_of}
use Rattle.mw_model.specs.Stands.{Agrees, input_values}
use Rattle.mw_core_laws.specs.mw_model_laws.MachineLaws.{IsSound}
use Rattle.mw_core_laws.proofs.mw_model_laws.RunTables.{first_none, inputs_all, wanted_within}
use Rattle.mw_core_laws.proofs.mw_model_laws.RunSteps.{pushed}
use Rattle.mw_grid.specs.Grids.{Tiling}
use Rattle.mw_core_laws.specs.mw_plan.PlansOf.{AreValuesOf, HaveFrame, inputs_taken}
use Rattle.mw_core_laws.specs.mw_plan.declared.inputs.Input.{Input}
use Rattle.mw_core_laws.proofs.mw_plan.Accepted.{accepted_entries, accepted_faultless, accepted_values, machine_values}
use Rattle.mw_core_laws.proofs.mw_plan.Refused.{shape_same}
use Rattle.mw_core_laws.specs.mw_core_progress.ProgressView.{IsFramed}
use Rattle.mw_core_laws.specs.Works.{IsAccepted}
use Rattle.mw_core_laws.proofs.Later.{length-values}
use Rattle.mw_core_tasks.specs.Planning.{IsPlannedRun}
use Rattle.mw_core_laws.proofs.AgreeLemmas.{values-pushed}
use Rattle.mw_core_laws.proofs.WorkLemmas.{map-below}

-- the values of the inputs, before and after
pub inputs-pushed : (m : Machine) (n : Name) (o : Op) (t : ℕ) → IsSound m → refusal m.table m.payloads (call.Run n o) ≡ None → t + 1 ≡ length (pushed m n (run_submission m.table o) outcome.Pending None).table.names
    → input_values (pushed m n (run_submission m.table o) outcome.Pending None) t ≡ map (value_at (values m)) (tickets (inputs_from m.table (inputs_wanted o)))
inputs-pushed m n o t s free last =
    let w = m.table in
    let e = run_submission w o in
    let k = pushed m n e outcome.Pending None in
    let N = length w.names in
    let sub : submission_at k.table.submissions t ≡ e = get_or-push_last w.submissions e no_submission t (omega (arith, s.lengths.submissions, last, length-append w.names (n ∷ []))) in
    let x = first_none (name_taken w n) _ free in
    let y = first_none (no_room w) _ x.1 in
    let z = first_none (first_of (map (wanted_case w) (inputs_wanted o))) _ y.1 in
    let below = inputs_all w (λ i. i < N) (inputs_wanted o) (wanted_within w) z.0 in
    let all = values-pushed m n e outcome.Pending None s in
    let long = length-values m s in
    ap (λ (d : Submission). map (value_at (values k)) (tickets d.inputs)) sub
    ∙ map-below (value_at (values k)) (value_at (values m)) N (tickets e.inputs) below (λ i l. ap (λ vs. value_at vs i) all ∙ get_or-push_below (values m) _ None i (omega (arith, long, l)))

pub accepted : (m : Machine) (n : Name) (o : Op) (kept : List (Option Value)) (a b c : Input) (plan : Plan) (g : Tiling) (t : ℕ) → IsSound m → Agrees kept m → refusal m.table m.payloads (call.Run n o) ≡ None
    → refusal m.table kept (call.Run n o) ≡ None → IsPlannedRun m.table kept o a b c plan → IsFramed g → HaveFrame g.width g.height (images_of (map (value_at (values m)) (tickets (inputs_from m.table (inputs_wanted o)))))
    → t + 1 ≡ length (pushed m n (run_submission m.table o) outcome.Pending None).table.names → IsAccepted (pushed m n (run_submission m.table o) outcome.Pending None) t o a b c plan g
accepted m n o kept a b c plan g t s agrees free free_kept run framed frames last =
    let w = m.table in
    let e = run_submission w o in
    let k = pushed m n e outcome.Pending None in
    let at = machine_values m kept s agrees in
    let inp = inputs-pushed m n o t s free last in
    let sub : submission_at k.table.submissions t ≡ e = get_or-push_last w.submissions e no_submission t (omega (arith, s.lengths.submissions, last, length-append w.names (n ∷ []))) in
    let entries = accepted_entries w kept (values m) n o a b c free_kept at run.inputs in
    let faultless = accepted_faultless w kept (values m) n o a b c free_kept at run.inputs in
    let all = values-pushed m n e outcome.Pending None s in
    let long = length-values m s in
    let Values : List (Option Value) → Type 0 = λ vs. AreValuesOf (inputs_taken o a b c) vs in
    let Frames : List (Option Value) → Type 0 = λ vs. HaveFrame g.width g.height (images_of vs) in
    record {
      planned = run.plan_of;
      inputs = subst Values (sym inp) (accepted_values w kept (values m) n o a b c free_kept at run.inputs);
      shape = ap (λ (d : Submission). d.shape) sub ∙ shape_same w kept o a b c entries faultless;
      value = ap (λ vs. value_at vs t) all ∙ get_or-push_last (values m) (value_of (values m) (tickets e.inputs) e.command None) None t (omega (arith, long, last, length-append w.names (n ∷ [])))
          ∙ ap (result_of o) (sym inp);
      frames = subst Frames (sym inp) frames;
      tiling = framed;
    }
