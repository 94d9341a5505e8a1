use Rattle.std.proofs.Common.{ℕ, ◌+◌, ◌<◌, arith, get_or, refl}
use Rattle.std.proofs.lemmas.List.{get_or-replicate}
use Rattle.mw_rank_rows.specs.Lanes.{Counts}
use Rattle.mw_rank_rows.proofs.Fronts.{summed, reached_more, reached_last, goes_on, reached_first}
use Rattle.mw_rank_rows.proofs.search.scan.Goals as goal

pub loop-n-init : goal.loop-n-init
loop-n-init c =
    let at = c.args.front.level in
    record {
      from = omega arith;
      lanes = c.plus-sums.ensures.size;
      size = refl;
      inside = λ levels u t. t.inside;
      sums = λ levels u t j lt. summed levels u c.args.counts.now at c.args.front.below c.args.front.below c.lanes_at.result c.plus-sums.result at j lt t.inside (c.lanes_at.ensures.lanes j lt) (t.under j lt) (c.plus-sums.ensures.lanes j lt) t;
      reached = λ levels u t j lt. reached_first u (get_or c.args.n j 0) j at _ (get_or c.args.front.below j 0) (get_or-replicate 8 j at 0 lt) (t.under j lt) (c.requires.few j lt);
    }

pub overflow_add-at : goal.overflow_add-at
overflow_add-at c =
    let held = c.requires.held in
    omega (arith, held.2.short, c.loop-n.invariant.inside held.0 held.1 held.2)

pub overflow_mul-at-in-loop-n : goal.overflow_mul-at-in-loop-n
overflow_mul-at-in-loop-n c =
    let held = c.requires.held in
    omega (arith, held.2.short, c.loop-n.invariant.inside held.0 held.1 held.2)

pub lanes_at-requires-in-loop-n : goal.lanes_at-requires-in-loop-n
lanes_at-requires-in-loop-n c =
    let held = c.requires.held in
    omega (
      arith,
      held.2.size,
      goes_on held.0 held.1 c.loop-n.at c.args.n c.loop-n.sums _ c.none_less.ensures c.loop-n-test.true (c.loop-n.invariant.inside held.0 held.1 held.2) (c.loop-n.invariant.sums held.0 held.1 held.2) held.3,
    )

pub loop-n-smaller : goal.loop-n-smaller
loop-n-smaller c =
    let held = c.requires.held in
    omega (arith, held.2.size, c.loop-n.invariant.inside held.0 held.1 held.2)

pub loop-n-preserved : goal.loop-n-preserved
loop-n-preserved c =
    let held = c.requires.held in
    let at = c.loop-n.at in
    let i = c.loop-n.invariant in
    let room : at + 1 < held.0 = goes_on held.0 held.1 at c.args.n c.loop-n.sums _ c.none_less.ensures c.loop-n-test.true (i.inside held.0 held.1 held.2) (i.sums held.0 held.1 held.2) held.3 in
    let up : (levels : ℕ) (u : ℕ → ℕ → ℕ) → Counts levels u c.args.counts.now c.args.front.level c.args.front.below → at + 1 < levels = λ levels u t. omega (arith, held.2.size, t.size) in
    record {
      from = omega (arith, i.from);
      lanes = c.plus-sums-in-loop-n.ensures.size;
      size = c.one_more_below-levels.ensures.size;
      inside = up;
      sums = λ levels u t j lt.
          summed levels u c.args.counts.now c.args.front.level c.args.front.below c.loop-n.sums c.lanes_at-in-loop-n.result c.plus-sums-in-loop-n.result (at + 1) j lt (up levels u t) (c.lanes_at-in-loop-n.ensures.lanes j lt) (i.sums levels u t j lt)
          (c.plus-sums-in-loop-n.ensures.lanes j lt) t;
      reached = λ levels u t j lt.
          reached_more levels u c.args.counts.now c.args.front.level c.args.front.below (get_or c.args.n j 0) j at (get_or c.loop-n.levels j 0) _ (get_or c.loop-n.sums j 0) lt (i.inside levels u t) (i.sums levels u t j lt)
          (c.one_more_below-levels.ensures.lanes j lt) t (i.reached levels u t j lt);
    }

pub returns-clause-found : goal.returns-clause-found
returns-clause-found c = λ levels u t j lt.
    let i = c.loop-n.invariant in
    reached_last levels u (get_or c.args.n j 0) j c.loop-n.at _ (get_or c.loop-n.sums j 0) (i.inside levels u t) (i.sums levels u t j lt) (c.none_less.ensures.0 c.loop-n-test.false j lt) (i.reached levels u t j lt)
