use Rattle.std.proofs.Common.{ℕ, ◌<◌, sum_by, ap, subst, sym, arith, ◌∙◌}
use Rattle.std.specs.List.{AllByRecursion}
use Rattle.std.proofs.lemmas.List.Sums.{sum_by_push}
use Rattle.mw_model.proofs.mw_facts.Alls.{all-push}
use Rattle.mw_rank_bits.proofs.moves.push_times.Goals as goal

pub loop-i-preserved : goal.loop-i-preserved
loop-i-preserved c =
    let place = c.args.place in
    let old = c.loop-i.places.items in
    let items = c.in_ok-push.ensures.items in
    record {
      sum = λ f. let made = ap (sum_by f) items ∙ sum_by_push f old place in omega (arith, made, c.loop-i.invariant.sum f);
      below = λ n lt all. subst (AllByRecursion (λ (s : ℕ). s < n)) (sym items) (all-push (λ (s : ℕ). s < n) old place (c.loop-i.invariant.below n lt all) lt);
    }
