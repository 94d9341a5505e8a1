use Rattle.std.proofs.Common.{Some, sym, ap, ◌∙◌}
use Rattle.std.specs.Prelude.{option_map}
use Rattle.mw_model.specs.Refusals.{inputs_wanted}
use Rattle.mw_store.specs.mw_plan.Faults.{plan_code}
use Rattle.mw_core_refusals.proofs.FoundLemmas.{below-found, legal, submission-found}
use Rattle.mw_core_refusals.proofs.checks.of_run.Goals as goal

pub returns-in-Err-clause-code : goal.returns-in-Err-clause-code
returns-in-Err-clause-code c =
    let f = c.in_ok-found.found in
    ap Some c.code.ensures
    ∙ ap (option_map plan_code) c.in-Err.ensures.fault
    ∙ sym (legal c.args.store.now c.args.name c.args.op f.tickets f.a f.b f.c (sym c.in_ok-free.ensures.code) (sym c.in_ok-room.ensures.code) c.in_ok-found.ensures.found)

pub returns-in-Ok-clause-code : goal.returns-in-Ok-clause-code
returns-in-Ok-clause-code c =
    let f = c.in_ok-found.found in
    ap (option_map plan_code) c.in-Ok.ensures.fault
    ∙ sym (legal c.args.store.now c.args.name c.args.op f.tickets f.a f.b f.c (sym c.in_ok-free.ensures.code) (sym c.in_ok-room.ensures.code) c.in_ok-found.ensures.found)

pub returns-in-Ok-clause-submission : goal.returns-in-Ok-clause-submission
returns-in-Ok-clause-submission c =
    let f = c.in_ok-found.found in
    submission-found c.args.store.now c.args.op c.in-Ok.shape f.tickets f.a f.b f.c c.in_ok-found.ensures.found (sym c.in-Ok.ensures.fault) c.in-Ok.ensures.shape

pub returns-in-Ok-clause-below : goal.returns-in-Ok-clause-below
returns-in-Ok-clause-below c =
    let f = c.in_ok-found.found in
    below-found c.args.store.now (inputs_wanted c.args.op) f.tickets f.a f.b f.c c.in_ok-found.ensures.found (sym c.in_ok-found.ensures.code)
