use Rattle.std.proofs.Common.{◌≡◌, ℕ, ◌+◌, ◌*◌, ◌/◌, length, take, ap, sym, arith, ◌∙◌}
use Rattle.mw_rank_bits.specs.Numbers.{bits_at, three_digits}
use Rattle.mw_rank_bits.proofs.Sums.{added_both, added_rest, front_step}
use Rattle.mw_rank_bits.proofs.counter.add_bits.Goals as goal

pub loop-i-preserved : goal.loop-i-preserved
loop-i-preserved g c =
    let cells = c.args.cells.now in
    let places = c.args.places.now in
    let at = c.args.at in
    let i = c.loop-i.i in
    added_both g.W.Way.seen (length c.args.planes.now / 2) (length c.loop-i.planes / 2) (λ q. bits_at cells (take (7 * i) places) (64 * at + q)) (three_digits c.sum_at_seven.result) (λ q. bits_at cells (take (7 * (i + 1)) places) (64 * at + q))
    c.args.planes.now c.loop-i.planes c.add.new.planes (omega arith)
    (λ q lt. front_step cells places 7 i (7 * i) (64 * at + q) (omega arith) ∙ ap (λ (t : ℕ). bits_at cells (take (7 * i) places) (64 * at + q) + t) (sym (c.sum_at_seven.ensures q lt)))
    c.loop-i.invariant c.add.ensures

pub returns : goal.returns
returns g c =
    let places = c.args.places.now in
    let i = c.loop-i.i in
    let whole : 7 * (length places / 7) ≡ 7 * i = omega arith in
    added_rest g.W.Way.seen (length c.args.planes.now / 2) (length c.loop-i.planes / 2) c.args.cells.now places 7 i (7 * (length places / 7)) c.args.at c.args.planes.now c.loop-i.planes c.add_threes.new.planes (omega arith) whole c.loop-i.invariant c.add_threes.ensures
