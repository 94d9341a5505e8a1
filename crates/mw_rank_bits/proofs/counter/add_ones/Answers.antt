use Rattle.std.proofs.Common.{ℕ, ◌+◌, ◌*◌, ◌/◌, length, take, ap, sym, arith, ◌∙◌}
use Rattle.mw_rank_bits.specs.Numbers.{bits_at, three_digits}
use Rattle.mw_rank_bits.proofs.Sums.{added_both, front_step}
use Rattle.mw_rank_bits.proofs.counter.add_ones.Goals as goal

pub loop-i-preserved : goal.loop-i-preserved
loop-i-preserved g c =
    let cells = c.args.cells.now in
    let places = c.args.places.now in
    let at = c.args.at in
    let i = c.loop-i.i in
    added_both g.W.Way.seen (length c.args.planes.now / 2) (length c.loop-i.planes / 2) (λ q. bits_at cells (take (1 * i) places) (64 * at + q)) (three_digits c.sum_at_one.result) (λ q. bits_at cells (take (1 * (i + 1)) places) (64 * at + q))
    c.args.planes.now c.loop-i.planes c.add.new.planes (omega arith)
    (λ q lt. front_step cells places 1 i (i) (64 * at + q) (omega arith) ∙ ap (λ (t : ℕ). bits_at cells (take (1 * i) places) (64 * at + q) + t) (sym (c.sum_at_one.ensures q lt)))
    c.loop-i.invariant c.add.ensures
