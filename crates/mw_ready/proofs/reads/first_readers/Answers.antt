use Rattle.std.proofs.Common.{◌≡◌, ℕ, ◌*◌, ◌∙◌, ◌≤◌, List, length, ap, arith, get_or, refl}
use Rattle.mw_model.proofs.mw_facts.Counts.{count_by-most}
use Rattle.mw_model.proofs.mw_facts.Elements.{take-written}
use Rattle.mw_grid.specs.Grids.{tile_count}
use Rattle.mw_ready.specs.Boards.{no_need, reads_by_needs}
use Rattle.mw_ready.proofs.Numbers.{product_small}
use Rattle.mw_ready.proofs.Raising.{readers_next}
use Rattle.mw_ready.proofs.reads.first_readers.Goals as goal

pub raise_sources-requires-clause-fits : goal.raise_sources-requires-clause-fits
raise_sources-requires-clause-fits c = λ u lt.
    let a = c.args in
    let k = c.loop-k.k in
    let n = tile_count a.grid in
    let size : length c.deref_mut.result.now ≡ length c.loop-k.counts.items = ap (λ (xs : List ℕ). length xs) c.deref_mut.ensures.value in
    let same : get_or c.deref_mut.result.now u 0 ≡ get_or c.loop-k.counts.items u 0 = ap (λ (xs : List ℕ). get_or xs u 0) c.deref_mut.ensures.value in
    let few : n ≤ 16384 = omega (arith, c.len.ensures.value, c.len.ensures.small) in
    omega (
      arith,
      c.loop-k.invariant.each u (omega (arith, c.loop-k.invariant.size)),
      count_by-most (λ t. reads_by_needs a.needs.now a.grid t u) (k * n),
      product_small k n (omega (arith, c.requires, c.loop-k-test.true)) few,
    )

pub loop-k-preserved : goal.loop-k-preserved
loop-k-preserved c =
    let a = c.args in
    let k = c.loop-k.k in
    let need = get_or a.needs.now k no_need in
    let old = c.loop-k.counts in
    let new = c.raise_sources.new.counts in
    let value = c.deref_mut.ensures.value in
    let size : length c.deref_mut.result.now ≡ length old.items = ap (λ (xs : List ℕ). length xs) value in
    let back = take-written old.items new old.len (let ok = old.ok in omega (arith, c.raise_sources.ensures.size)) in
    record {
      size = ap (λ (xs : List ℕ). length xs) back ∙ c.raise_sources.ensures.size ∙ size ∙ c.loop-k.invariant.size;
      each = λ u lt.
          let same : get_or c.deref_mut.result.now u 0 ≡ get_or old.items u 0 = ap (λ (xs : List ℕ). get_or xs u 0) value in
          ap (λ (xs : List ℕ). get_or xs u 0) back ∙ omega (arith, c.raise_sources.ensures.each u (omega (arith, c.loop-k.invariant.size)), c.loop-k.invariant.each u lt, readers_next a.needs.now need a.grid k u refl);
    }
