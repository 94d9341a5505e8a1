use Rattle.std.proofs.Common.{◌≡◌, ℕ, ◌+◌, ◌*◌, ap, arith, get_or, ◌∙◌}
use Rattle.mw_chord_lent.proofs.Puts.{put_none, put_on, put_part, rows_le}
use Rattle.mw_chord_lent.proofs.grow.grow_chunk.Goals as goal

next : (a m : ℕ) → (a + 1) * m ≡ a * m + m
next a m = omega arith

pub loop-k-init : goal.loop-k-init
loop-k-init g c = record { put = put_none c.args.step.to (32 * g.P.Laned.WIDTH) c.args.lists.now; made = λ i d lt. absurd (omega (arith, lt)) }

pub loop-k-preserved : goal.loop-k-preserved
loop-k-preserved g c =
    let f = g.E.Extremum.merge in
    let step = c.args.step in
    let w = 2 * g.P.Laned.WIDTH in
    let k = c.loop-k.k in
    let done = k * (2 * c.WIDTH.result) in
    let same : done ≡ k * w = ap (λ (t : ℕ). k * (2 * t)) c.WIDTH.ensures in
    let old = c.args.lists.now in
    let mid = c.loop-k.lists in
    let new = c.grow_block.new.lists in
    let fits = rows_le (k + 1) 16 w (omega arith) in
    record {
      put = put_part step.to (32 * g.P.Laned.WIDTH) (step.to + done) w old mid new (omega arith) (omega (arith, same, fits, next k w)) c.loop-k.invariant.put c.grow_block.ensures.put;
      made = λ i d lt.
          put_on (λ i v. v ≡ f (get_or old (step.from + i) d) (get_or old (step.from + step.ahead + i) d)) d step.to (k * w) done w mid new (omega (arith, same)) c.grow_block.ensures.put
          (λ i less.
          let one : step.from + done + i ≡ step.from + (done + i) = omega arith in
          let other : step.from + done + step.ahead + i ≡ step.from + step.ahead + (done + i) = omega arith in
          c.grow_block.ensures.made i d less
          ∙ ap (λ (t : ℕ). f (get_or mid t d) (get_or mid (step.from + done + step.ahead + i) d)) one
          ∙ ap (λ (t : ℕ). f (get_or mid (step.from + (done + i)) d) (get_or mid t d)) other
          ∙ ap (λ (t : g.row.P.Denot). f t (get_or mid (step.from + step.ahead + (done + i)) d)) (c.loop-k.invariant.put.before (step.from + (done + i)) d (omega (arith, c.requires.apart, same, fits, next k w, less)))
          ∙ ap (f (get_or old (step.from + (done + i)) d)) (c.loop-k.invariant.put.before (step.from + step.ahead + (done + i)) d (omega (arith, c.requires.apart, same, fits, next k w, less))))
          (λ i less. c.loop-k.invariant.made i d less) i (omega (arith, lt, same, next k w));
    }

pub grow_block-requires-clause-seen : goal.grow_block-requires-clause-seen
grow_block-requires-clause-seen g c =
    let w = 2 * g.P.Laned.WIDTH in
    let k = c.loop-k.k in
    let same : k * (2 * c.WIDTH.result) ≡ k * w = ap (λ (t : ℕ). k * (2 * t)) c.WIDTH.ensures in
    omega (arith, rows_le (k + 1) 16 w (omega arith), next k w, same, c.requires.apart, c.requires.room, c.loop-k.invariant.put.size)

pub grow_block-requires-clause-room : goal.grow_block-requires-clause-room
grow_block-requires-clause-room g c =
    let w = 2 * g.P.Laned.WIDTH in
    let k = c.loop-k.k in
    let same : k * (2 * c.WIDTH.result) ≡ k * w = ap (λ (t : ℕ). k * (2 * t)) c.WIDTH.ensures in
    omega (arith, rows_le (k + 1) 16 w (omega arith), next k w, same, c.requires.room, c.loop-k.invariant.put.size)

pub returns-clause-made : goal.returns-clause-made
returns-clause-made g c = λ i d lt.
    let w = 2 * g.P.Laned.WIDTH in
    let all = rows_le 16 c.loop-k.k w (omega arith) in
    c.loop-k.invariant.made i d (omega (arith, lt, all))
