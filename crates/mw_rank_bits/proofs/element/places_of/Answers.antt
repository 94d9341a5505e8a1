use Rattle.std.proofs.Common.{ℕ, List, [], ◌∷◌, ◌++◌, get_or, map, take, pos, ap, sym, arith, ◌∙◌}
use Rattle.std.proofs.lemmas.List.{map_more, take_all}
use Rattle.mw_model.proofs.mw_facts.Alls.{all-get_or}
use Rattle.mw_bits.specs.mw_element_runs.declared.runs.Run.{Run}
use Rattle.mw_bits.specs.mw_element_runs.Runs.{start_of, RunIsInside}
use Rattle.mw_rank_bits.proofs.Around.{start_fits}
use Rattle.mw_rank_bits.proofs.element.places_of.Goals as goal

pub start_of_run-requires : goal.start_of_run-requires
start_of_run-requires c =
    let none : Run = record { dx = pos 0; dy = pos 0; count = 0 } in
    let run = get_or c.args.runs.now c.loop-i.i none in
    let inside : RunIsInside c.args.extent run = all-get_or (RunIsInside c.args.extent) c.args.runs.now c.loop-i.i none c.loop-i-test.true c.requires.inside in
    record { inside = inside; fits = start_fits c.args.extent c.args.wide run inside c.requires.near c.requires.narrow }

pub loop-i-preserved : goal.loop-i-preserved
loop-i-preserved c =
    let none : Run = record { dx = pos 0; dy = pos 0; count = 0 } in
    let f : Run → ℕ = start_of c.args.extent c.args.wide in
    c.in_ok-push.ensures.items ∙ ap (λ (t : List ℕ). t ++ c.start_of_run.result ∷ []) c.loop-i.invariant ∙ ap (λ (n : ℕ). map f (take c.loop-i.i c.args.runs.now) ++ n ∷ []) c.start_of_run.ensures
    ∙ sym (map_more f c.args.runs.now c.loop-i.i none c.loop-i-test.true)

pub returns : goal.returns
returns c = c.loop-i.invariant ∙ ap (map (start_of c.args.extent c.args.wide)) (take_all c.loop-i.i c.args.runs.now (omega arith))
