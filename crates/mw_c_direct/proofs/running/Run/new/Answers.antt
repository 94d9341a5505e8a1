use Rattle.std.proofs.Common.{◌≡◌, Bool, false, List, length, ap, subst, sym, ◌∙◌}
use Rattle.mw_model.specs.Tasks.{flag}
use Rattle.mw_c_direct.proofs.Steps.{none_count, none_made, nothing_run}
use Rattle.mw_c_direct.proofs.running.Run.new.Goals as goal

pub returns-clause-run : goal.returns-clause-run
returns-clause-run c =
    λ image.
    let items = c.in_ok-made.ensures.items_if_clones_equal (λ y is. is) in
    nothing_run c.args.plan.now image c.in_ok-made.made.items c.in_ok-planes.planes.items (ap (λ (flags : List Bool). length flags) items ∙ none_count c.len-2.result ∙ c.len-2.ensures) (c.in_ok-planes.ensures.count ∙ c.len.ensures)
    (λ j. subst (λ (flags : List Bool). flag flags j ≡ false) (sym items) (none_made c.len-2.result j))
    c.in_ok-planes.ensures.empty
