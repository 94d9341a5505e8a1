use Rattle.std.proofs.Common.{ℕ, ◌+◌, ◌<◌, inl, arith}
use Rattle.mw_rank_rows.specs.Lanes.{Counts}
use Rattle.mw_rank_rows.proofs.Fronts.{summed, counts_at, has_room}
use Rattle.mw_rank_rows.proofs.search.raise.Goals as goal

pub loop-below-init : goal.loop-below-init
loop-below-init c = record {
  counts = λ levels u t. t;
  few = λ few. few;
  lanes = c.plus-next.ensures.size;
  next = λ levels u t j lt. summed levels u c.args.counts.now c.args.front.level c.args.front.below c.args.front.below c.lanes_at.result c.plus-next.result c.args.front.level j lt t.inside (c.lanes_at.ensures.lanes j lt) (t.under j lt) (c.plus-next.ensures.lanes j lt) t;
}

pub overflow_add-level : goal.overflow_add-level
overflow_add-level c =
    let held = c.requires.held in
    let t = c.loop-below.invariant.counts held.0 held.1 held.2 in
    omega (arith, t.inside, t.short)

pub overflow_mul-level-in-loop-below : goal.overflow_mul-level-in-loop-below
overflow_mul-level-in-loop-below c =
    let held = c.requires.held in
    let t = c.loop-below.invariant.counts held.0 held.1 held.2 in
    omega (arith, t.inside, t.short)

pub lanes_at-requires-in-loop-below : goal.lanes_at-requires-in-loop-below
lanes_at-requires-in-loop-below c =
    let held = c.requires.held in
    let t = c.loop-below.invariant.counts held.0 held.1 held.2 in
    let less = c.all_less.ensures.0 c.loop-below-test.true 0 (omega arith) in
    omega (arith, t.size, has_room held.0 held.1 c.loop-below.level _ _ 0 t.inside (c.loop-below.invariant.next held.0 held.1 held.2 0 (omega arith)) less (held.3 0 (omega arith)))

pub loop-below-smaller : goal.loop-below-smaller
loop-below-smaller c =
    let held = c.requires.held in
    let t = c.loop-below.invariant.counts held.0 held.1 held.2 in
    omega (arith, t.size, t.inside)

pub loop-below-preserved : goal.loop-below-preserved
loop-below-preserved c =
    let less = c.all_less.ensures.0 c.loop-below-test.true in
    let held = c.requires.held in
    let level = c.loop-below.level in
    let up : (levels : ℕ) (u : ℕ → ℕ → ℕ) → Counts levels u c.args.counts.now c.args.front.level c.args.front.below → level + 1 < levels = λ levels u before.
    let t = c.loop-below.invariant.counts held.0 held.1 held.2 in
    let room : level + 1 < held.0 = has_room held.0 held.1 level _ _ 0 t.inside (c.loop-below.invariant.next held.0 held.1 held.2 0 (omega arith)) (less 0 (omega arith)) (held.3 0 (omega arith)) in
    omega (arith, t.size, before.size) in
    record {
      counts = λ levels u before. counts_at levels u c.args.counts.now level (level + 1) c.loop-below.below c.loop-below.next (up levels u before) c.loop-below.invariant.lanes (c.loop-below.invariant.next levels u before) (c.loop-below.invariant.counts levels u before);
      few = λ few j lt. inl (less j lt);
      lanes = c.plus-next-in-loop-below.ensures.size;
      next = λ levels u before j lt.
          summed levels u c.args.counts.now level c.loop-below.below c.loop-below.next c.lanes_at-in-loop-below.result c.plus-next-in-loop-below.result (level + 1) j lt (up levels u before) (c.lanes_at-in-loop-below.ensures.lanes j lt) (c.loop-below.invariant.next levels u before j lt)
          (c.plus-next-in-loop-below.ensures.lanes j lt) (c.loop-below.invariant.counts levels u before);
    }

pub returns-clause-counts : goal.returns-clause-counts
returns-clause-counts c = c.loop-below.invariant.counts

pub returns-clause-few : goal.returns-clause-few
returns-clause-few c = c.loop-below.invariant.few
