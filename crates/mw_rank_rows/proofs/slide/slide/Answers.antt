use Rattle.std.proofs.Common.{ℕ, ◌+◌, ◌-◌, ◌∙◌, refl, ap, arith, min}
use Rattle.mw_rank_rows.proofs.Steps.{held_front, step_left, step_entered, seen_from, found_more}
use Rattle.mw_rank_rows.proofs.slide.slide.Goals as goal

pub at_most-n-requires : goal.at_most-n-requires
at_most-n-requires g c =
    let known = c.requires.known in
    (c.by_column.invariant.moved known.0 known.1 known.2 known.3 known.4 known.5).lanes

pub select-found-requires-clause-held : goal.select-found-requires-clause-held
select-found-requires-clause-held g c =
    let known = c.requires.known in
    let span = c.args.span in
    let t = c.by_column.invariant.moved known.0 known.1 known.2 known.3 known.4 known.5 in
    (known.0, (λ v j. known.2 v (span.x + c.by_column.done) span.columns j), t.table, (λ j lt. omega (arith, c.at_most-n.ensures.lanes j lt, t.held j lt)))

pub put_column-requires-clause-small : goal.put_column-requires-clause-small
put_column-requires-clause-small g c = λ j lt.
    let known = c.requires.known in
    let span = c.args.span in
    let t = c.by_column.invariant.moved known.0 known.1 known.2 known.3 known.4 known.5 in
    let found = c.select-found.ensures.found known.0 (λ v j. known.2 v (span.x + c.by_column.done) span.columns j) t.table j lt in
    omega (arith, found.within, known.6)

pub leave-requires-clause-known : goal.leave-requires-clause-known
leave-requires-clause-known g c =
    let known = c.requires.known in
    let span = c.args.span in
    let u = λ (v j : ℕ). known.2 v (span.x + c.by_column.done) span.columns j in
    let t = c.by_column.invariant.moved known.0 known.1 known.2 known.3 known.4 known.5 in
    (known.0, known.1, u, known.3, held_front known.0 u c.by_column.counts c.by_column.lanes c.select-found.new.front (c.select-found.ensures.counts known.0 u t.table) t)

pub enter-requires-clause-known : goal.enter-requires-clause-known
enter-requires-clause-known g c =
    let known = c.requires.known in
    let levels = known.0 in
    let seen = known.2 in
    let span = c.args.span in
    let p = span.x + c.by_column.done in
    let u = λ (v j : ℕ). seen v p span.columns j in
    let w = λ (v j : ℕ). seen v (p + 1) (span.columns - 1) j in
    let t = c.by_column.invariant.moved levels known.1 seen known.3 known.4 known.5 in (
      levels,
      known.1,
      w,
      known.3,
      c.leave.ensures levels known.1 u w known.3 (held_front levels u c.by_column.counts c.by_column.lanes c.select-found.new.front (c.select-found.ensures.counts levels u t.table) t)
          (λ v j lt. step_left span.columns known.1 seen p _ v j c.requires.some (ap (λ (n : ℕ). span.x + n) c.from.ensures) known.4) (λ v j. known.4.rises v (p + 1) (span.columns - 1) j),
    )

pub by_column-preserved : goal.by_column-preserved
by_column-preserved g c =
    let span = c.args.span in
    let i = c.by_column.done in
    let p = span.x + i in
    let columns = span.columns in
    record {
      within = omega arith;
      size = c.put_column.ensures.size ∙ c.by_column.invariant.size;
      moved = λ levels column seen shows slides t.
          let u = λ (v j : ℕ). seen v p columns j in
          let w = λ (v j : ℕ). seen v (p + 1) (columns - 1) j in
          let next = λ (v j : ℕ). seen v (p + 1) columns j in
          let before = c.by_column.invariant.moved levels column seen shows slides t in
          let fronted = held_front levels u c.by_column.counts c.by_column.lanes c.select-found.new.front (c.select-found.ensures.counts levels u before.table) before in
          let left = c.leave.ensures levels column u w shows fronted (λ v j lt. step_left columns column seen p _ v j c.requires.some (ap (λ (n : ℕ). span.x + n) c.from.ensures) slides) (λ v j. slides.rises v (p + 1) (columns - 1) j) in
          let entered = c.enter.ensures levels column w next shows left (λ v j lt. step_entered columns column seen p _ v j c.requires.some (omega (arith, c.from.ensures, c.from-in-by_column.ensures)) slides) (λ j lt. slides.few levels (p + 1) columns j (omega arith)) in
          seen_from levels seen c.enter.new.counts c.enter.new.lanes (p + 1) (span.x + (i + 1)) columns columns (omega arith) refl entered;
      found = λ levels column seen shows slides t.
          let before = c.by_column.invariant.moved levels column seen shows slides t in
          found_more g.P.Pixel.level levels seen columns span.k span.x span.width i c.by_column.made c.put_column.new.made c.select-found.result.levels c.at_most-n.result (omega arith) c.put_column.ensures.others c.put_column.ensures.put
          (λ j lt. c.at_most-n.ensures.lanes j lt ∙ ap (min span.k) (before.held j lt)) (c.select-found.ensures.found levels (λ v j. seen v p columns j) before.table) (c.by_column.invariant.found levels column seen shows slides t);
    }
