use Rattle.std.proofs.Common.{◌≡◌, ℕ, ◌*◌, ◌∙◌, List, length, replicate, false, ap, sym, subst, arith, rules, get_or}
use Rattle.mw_grid.specs.Grids.{tile_count}
use Rattle.mw_ready.specs.declared.need.Need.{Need}
use Rattle.mw_ready.specs.Kept.{read_count, reader_count}
use Rattle.mw_ready.specs.Links.{Linked}
use Rattle.mw_ready.proofs.Numbers.{product_small}
use Rattle.mw_ready.proofs.Keeping.{keeps_fresh}
use Rattle.mw_ready.proofs.ReaderCounts.{readers_fresh}
use Rattle.mw_ready.proofs.ready.Ready.new.Goals as goal

pub overflow_cast-remaining : goal.overflow_cast-remaining
overflow_cast-remaining c =
    let size = ap (λ (xs : List Need). length xs) c.deref.ensures.value in
    omega (arith, c.in_ok-waiting.ensures.size, c.len-remaining.ensures, product_small (length c.deref.result.now) (tile_count c.args.grid) (omega (arith, c.requires, c.deref.ensures.len)) (omega (arith, c.len-tiles.ensures.value, c.len-tiles.ensures.small)))

pub invariant_of-result : goal.invariant_of-result
invariant_of-result c =
    let needs = c.args.needs in
    let g = c.args.grid in
    let q = c.in_ok-queue.queue in
    let e = c.in_ok-queue.ensures in
    let needs-len : length needs.items ≡ needs.len = omega (arith, needs.ok) in
    let size : c.in_ok-waiting.waiting.len ≡ length needs.items * tile_count g = c.in_ok-waiting.ensures.size ∙ ap (λ (xs : List Need). length xs * tile_count g) c.deref.ensures.value in
    let readers-size : c.in_ok-readers.readers.len ≡ length needs.items * tile_count g = c.in_ok-readers.ensures.size ∙ ap (λ (xs : List Need). length xs * tile_count g) c.deref-2.ensures.value in
    let small = product_small (length needs.items) (tile_count g) (omega (arith, c.requires, needs-len)) (omega (arith, c.len-tiles.ensures.value, c.len-tiles.ensures.small)) in
    let fin : c.in_ok-finished.finished.items ≡ replicate c.in_ok-waiting.waiting.len false = search rules in
    let started : q.started ≡ replicate (length needs.items * tile_count g) false = e.started ∙ ap (λ (k : ℕ). replicate (k * c.len-tiles.result) false) (c.len-2.ensures ∙ sym needs-len) ∙ ap (λ (k : ℕ). replicate (length needs.items * k) false) c.len-tiles.ensures.value in (
      keeps_fresh needs.items g q c.in_ok-finished.finished.items c.len-remaining.result (omega (arith, small)) started (fin ∙ ap (λ (k : ℕ). replicate k false) size)
          (ap (λ (xs : List ℕ). length xs) e.waiting ∙ (let ok = c.in_ok-waiting.waiting.ok in omega (arith, size))) (c.len-remaining.ensures ∙ size)
          (λ t lt. ap (λ (xs : List ℕ). get_or xs t 0) e.waiting ∙ subst (λ (xs : List Need). get_or c.in_ok-waiting.waiting.items t 0 ≡ read_count xs g (length xs * tile_count g) t) c.deref.ensures.value (c.in_ok-waiting.ensures.each t (omega (arith, size)))),
      e.tiles ∙ c.len-tiles.ensures.value,
      omega (arith, c.requires, needs-len),
      readers_fresh needs.items g q c.in_ok-finished.finished.items c.in_ok-readers.readers.items (fin ∙ ap (λ (k : ℕ). replicate k false) size) (let ok = c.in_ok-readers.readers.ok in omega (arith, readers-size))
          (λ u lt. subst (λ (xs : List Need). get_or c.in_ok-readers.readers.items u 0 ≡ reader_count xs g (length xs * tile_count g) u) c.deref-2.ensures.value (c.in_ok-readers.ensures.each u (omega (arith, readers-size)))),
      subst (λ (xs : List Need). Linked xs c.in_ok-links.links.items 0) c.deref-3.ensures.value c.in_ok-links.ensures,
    )
