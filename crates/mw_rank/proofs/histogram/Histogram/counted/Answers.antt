use Rattle.std.proofs.Common.{◌≡◌, ℕ, ◌+◌, ◌-◌, ◌<◌, ◌≤◌, ◌∙◌, List, ap, arith, length, get_or, take, drop}
use Rattle.std.proofs.lemmas.Simd.{length-chunk, get_or-chunk}
use Rattle.mw_rank.specs.Tallies.{count_under}
use Rattle.mw_rank.proofs.Counts.{count_within}
use Rattle.mw_rank.proofs.histogram.Histogram.counted.Goals as goal

counter_in : (items all : List ℕ) (from to i s : ℕ) → all ≡ items → from ≤ to → to ≤ length items → i < length (take (to - from) (drop from all)) → s ≡ get_or (take (to - from) (drop from all)) i 0 → s ≡ get_or items (from + i) 0
counter_in items all from to i s same order within lt is =
    let size : length (take (to - from) (drop from all)) ≡ to - from = ap (λ (l : List ℕ). length (take (to - from) (drop from l))) same ∙ length-chunk from (to - from) items (omega arith) in
    is ∙ ap (λ (l : List ℕ). get_or (take (to - from) (drop from l)) i 0) same ∙ get_or-chunk from (to - from) items i 0 (omega (arith, size))

pub overflow_add-sum : goal.overflow_add-sum
overflow_add-sum c =
    let r = c.requires.held.1 in
    let at = c.args.from + c.loop-count.count-index in
    let counter = counter_in c.args.self.now.counts.items c.deref.result.now c.args.from c.args.to c.loop-count.count-index c.from-sum.result c.deref.ensures.value c.requires.order c.requires.within c.loop-count-test.true c.from-sum.ensures in
    omega (arith, counter, r.tallies.each at, c.loop-count.invariant c.requires.held.0 r.others r.tallies, count_within (at + 1) r.others, r.few)

pub loop-count-preserved : goal.loop-count-preserved
loop-count-preserved c = λ top ns t.
    let at = c.args.from + c.loop-count.count-index in
    let counter = counter_in c.args.self.now.counts.items c.deref.result.now c.args.from c.args.to c.loop-count.count-index c.from-sum.result c.deref.ensures.value c.requires.order c.requires.within c.loop-count-test.true c.from-sum.ensures in
    omega (arith, counter, t.each at, c.loop-count.invariant top ns t, ap (λ (v : ℕ). count_under v ns) (let next : at + 1 ≡ c.args.from + (c.loop-count.count-index + 1) = omega arith in next))

pub returns : goal.returns
returns c = λ top ns t.
    let all : length (take (c.args.to - c.args.from) (drop c.args.from c.deref.result.now)) ≡ c.args.to - c.args.from =
    ap (λ (l : List ℕ). length (take (c.args.to - c.args.from) (drop c.args.from l))) c.deref.ensures.value ∙ length-chunk c.args.from (c.args.to - c.args.from) c.args.self.now.counts.items (omega (arith, c.requires.order, c.requires.within)) in
    omega (
      arith,
      c.loop-count.invariant top ns t,
      ap (λ (v : ℕ). count_under v ns) (let end : c.args.from + c.loop-count.count-index ≡ c.args.to = omega (arith, all, c.loop-count-test.false, c.loop-count.auto.count-index-end, c.requires.order) in end),
    )
