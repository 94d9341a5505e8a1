use Rattle.std.proofs.Common.{◌≡◌, ℕ, ◌+◌, ◌-◌, ◌*◌, refl, ap, subst, arith, ◌∙◌}
use Rattle.mw_chord_lent.specs.Grown.{AreGrown}
use Rattle.mw_chord_lent.proofs.Grows.{grown_none}
use Rattle.mw_chord_lent.proofs.Puts.{rows_le}
use Rattle.mw_chord_lent.proofs.grow.grow.Goals as goal

next : (a m : ℕ) → (a + 1) * m ≡ a * m + m
next a m = omega arith

pub by_chunk-init : goal.by_chunk-init
by_chunk-init g c =
    let n = c.args.chunks * (32 * g.P.Laned.WIDTH) in
    record {
      within = omega arith;
      size = refl;
      grown = grown_none g.E.Extremum.merge c.args.lists.now c.args.sizes.now c.args.span n n c.requires.chain (omega arith);
    }

pub grow_chunks-requires-clause-ahead : goal.grow_chunks-requires-clause-ahead
grow_chunks-requires-clause-ahead g c = λ j lt.
    let w = 32 * g.P.Laned.WIDTH in
    let left = c.by_chunk.left - 1 in
    let same : left * (16 * 2 * c.WIDTH.result) ≡ left * w = ap (λ (t : ℕ). left * (32 * t)) c.WIDTH.ensures in
    omega (arith, same, next left w, rows_le (left + 1) c.args.chunks w (omega (arith, c.by_chunk.invariant.within)), c.requires.ahead j lt)

pub by_chunk-preserved : goal.by_chunk-preserved
by_chunk-preserved g c =
    let f = g.E.Extremum.merge in
    let w = 32 * g.P.Laned.WIDTH in
    let n = c.args.chunks * w in
    let left = c.by_chunk.left - 1 in
    let first = left * (16 * 2 * c.WIDTH.result) in
    let same : first ≡ left * w = ap (λ (t : ℕ). left * (32 * t)) c.WIDTH.ensures in
    let old = c.args.lists.now in
    let sizes = c.args.sizes.now in
    let span = c.args.span in
    let back : left + 1 ≡ c.by_chunk.left = omega arith in
    let from : c.by_chunk.left * w ≡ first + w = omega (arith, same, next left w, ap (λ (t : ℕ). t * w) back) in
    let room = c.requires.ahead 0 c.requires.chain.some in
    record {
      within = omega (arith, c.by_chunk.invariant.within);
      size = c.grow_chunks.ensures.size ∙ c.by_chunk.invariant.size;
      grown = subst (AreGrown f old c.grow_chunks.new.lists sizes span n) same
          (c.grow_chunks.ensures.grown old n (omega (arith, room)) (subst (AreGrown f old c.by_chunk.lists sizes span n) from c.by_chunk.invariant.grown));
    }

pub returns-clause-grown : goal.returns-clause-grown
returns-clause-grown g c =
    let w = 32 * g.P.Laned.WIDTH in
    let none : c.by_chunk.left * w ≡ 0 = ap (λ (t : ℕ). t * w) (let e : c.by_chunk.left ≡ 0 = omega arith in e) ∙ (let e : 0 * w ≡ 0 = omega arith in e) in
    subst (AreGrown g.E.Extremum.merge c.args.lists.now c.by_chunk.lists c.args.sizes.now c.args.span (c.args.chunks * w)) none c.by_chunk.invariant.grown
