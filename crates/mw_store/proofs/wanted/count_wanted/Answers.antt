use Rattle.std.proofs.Common.{◌+◌, ◌&&◌, count_by, Bool, ℕ, ap, sym, ◌∙◌, arith}
use Rattle.std.specs.List.{range_with_len}
use Rattle.mw_model.proofs.mw_facts.Counts.{count_by-most}
use Rattle.mw_model.specs.Refusals.{submission_at}
use Rattle.mw_store.specs.Wanted.{is_among, one_if, waits_for}
use Rattle.mw_store.proofs.Counting.{count-more}
use Rattle.mw_store.proofs.wanted.count_wanted.Goals as goal

pub raise_inputs-requires-clause-small : goal.raise_inputs-requires-clause-small
raise_inputs-requires-clause-small c = λ k.
    omega (arith, c.loop-u.invariant.1 k, count_by-most (waits_for c.args.submissions.now c.args.outcomes.now k) c.loop-u.u, c.requires.small, c.requires.same, c.loop-u-test.true)

pub loop-u-preserved : goal.loop-u-preserved
loop-u-preserved c = (
  omega (arith, c.loop-u.invariant.0),
  λ k.
      let u = c.loop-u.u in
      let waits = waits_for c.args.submissions.now c.args.outcomes.now k in
      let has = is_among (submission_at c.args.submissions.now u).inputs k in
      c.raise_inputs.ensures k ∙ ap (λ (n : ℕ). n + one_if (c.is_pending.result && has)) (c.loop-u.invariant.1 k)
      ∙ ap (λ (b : Bool). count_by waits (range_with_len 0 u) + one_if (b && has)) c.is_pending.ensures ∙ sym (count-more waits u),
)
