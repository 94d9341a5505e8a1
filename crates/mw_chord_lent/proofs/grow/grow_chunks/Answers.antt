use Rattle.std.proofs.Common.{◌≡◌, ℕ, ◌+◌, ◌-◌, ◌*◌, length, refl, ap, subst, arith, get_or, ◌∙◌}
use Rattle.mw_line.proofs.Folds.{IsExtremum}
use Rattle.mw_line_lent.specs.Boxes.{IsPutAt}
use Rattle.mw_chord_lent.proofs.Grows.{GrownUpTo, IsChunk, up_to_first, up_to_last, up_to_more}
use Rattle.mw_chord_lent.proofs.Puts.{rows_le}
use Rattle.mw_chord_lent.proofs.grow.grow_chunks.Goals as goal

next : (a m : ℕ) → (a + 1) * m ≡ a * m + m
next a m = omega arith

pub loop-j-init : goal.loop-j-init
loop-j-init g c = record {
  size = refl;
  grown = λ cells n le grown. up_to_first g.E.Extremum.merge cells c.args.lists.now c.args.sizes.now c.args.span n c.args.first (32 * g.P.Laned.WIDTH) grown;
}

pub loop-j-preserved : goal.loop-j-preserved
loop-j-preserved g c =
    let f = g.E.Extremum.merge in
    let laws : IsExtremum f = record { commutes = g.met.E.Extremum.commutes; associates = g.met.E.Extremum.associates; is_idempotent = g.met.E.Extremum.is_idempotent } in
    let sizes = c.args.sizes.now in
    let span = c.args.span in
    let first = c.args.first in
    let w = 32 * g.P.Laned.WIDTH in
    let j = c.loop-j.j in
    let k = j - 1 in
    let k-is : k + 1 ≡ j = omega arith in
    let lists = c.loop-j.lists in
    let new = c.grow_chunk.new.lists in
    let room = c.requires.ahead j (omega arith) in
    let there : j * span + first ≡ (k + 1) * span + first = ap (λ (t : ℕ). t * span + first) (let e : j ≡ k + 1 = omega arith in e) in
    let chunk : IsChunk f lists new sizes span first w k (get_or sizes j 0 - get_or sizes k 0) = record {
      put = subst (λ (t : ℕ). IsPutAt t w lists new) there c.grow_chunk.ensures.put;
      made = λ i d lt. ap (λ (t : ℕ). get_or new (t + i) d) (let e : (k + 1) * span + first ≡ j * span + first = omega (arith, there) in e) ∙ c.grow_chunk.ensures.made i d lt;
      ahead_is = ap (λ (t : ℕ). get_or sizes t 0 - get_or sizes k 0) (let e : j ≡ k + 1 = omega arith in e);
      inside = omega arith;
      fits = omega (arith, room);
    } in
    record {
      size = c.grow_chunk.ensures.put.size ∙ c.loop-j.invariant.size;
      grown = λ cells n le grown.
          let before : GrownUpTo f cells lists sizes span n first w (k + 1) = subst (GrownUpTo f cells lists sizes span n first w) (let e : j ≡ k + 1 = omega arith in e) (c.loop-j.invariant.grown cells n le grown) in
          subst (λ (t : ℕ). GrownUpTo f cells new sizes span n first w (t + 1)) k-is
          (up_to_more f laws cells lists new sizes span n first w k (get_or sizes j 0 - get_or sizes k 0) c.requires.chain le chunk before);
    }

pub grow_chunk-requires-clause-apart : goal.grow_chunk-requires-clause-apart
grow_chunk-requires-clause-apart g c =
    let j = c.loop-j.j in
    let span = c.args.span in
    let back : j - 1 + 1 ≡ j = omega arith in
    let rows : (j - 1 + 1) * span ≡ j * span = ap (λ (t : ℕ). t * span) back in
    omega (arith, next (j - 1) span, rows, c.requires.ahead j (omega arith))

pub grow_chunk-requires-clause-room : goal.grow_chunk-requires-clause-room
grow_chunk-requires-clause-room g c =
    let j = c.loop-j.j in
    let span = c.args.span in
    omega (arith, rows_le (j + 1) (length c.args.sizes.now) span (omega arith), next j span, c.requires.ahead j (omega arith), c.requires.room, c.loop-j.invariant.size)

pub returns-clause-grown : goal.returns-clause-grown
returns-clause-grown g c = λ cells n le grown.
    up_to_last g.E.Extremum.merge cells c.loop-j.lists c.args.sizes.now c.args.span n c.args.first (32 * g.P.Laned.WIDTH) c.loop-j.j (omega arith) (c.loop-j.invariant.grown cells n le grown)
