use Rattle.std.proofs.Common.{◌≡◌, ◌≤◌, ◌∙◌, arith, length-set}
use Rattle.mw_ready.specs.Spans.{span_of}
use Rattle.mw_ready.proofs.Spanning.{read_next}
use Rattle.mw_ready.proofs.spans.along.Goals as goal

pub loop-at-preserved : goal.loop-at-preserved
loop-at-preserved c =
    let a = c.args in
    let found = c.loop-at.found in
    let at = c.loop-at.at in
    let before = c.loop-at.invariant in
    let lt = c.loop-at-test.true in
    record {
      size = length-set found at c.span.result ∙ before.size;
      each = read_next (λ k n. n ≡ span_of a.count a.side k a.before a.after) found at c.span.result (omega (arith, before.size, c.requires.within)) before.each c.span.ensures.value;
      low = read_next (λ k n. n ≤ 128) found at c.span.result (omega (arith, before.size, c.requires.within)) before.low (omega (arith, c.span.ensures.most));
    }
