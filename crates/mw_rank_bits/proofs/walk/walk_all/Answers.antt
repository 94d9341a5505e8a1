use Rattle.std.proofs.Common.{◌≡◌, ℕ, ◌+◌, ◌-◌, ◌*◌, ◌/◌, ◌<◌, ◌^◌, length, ap, subst, sym, arith, ◌∙◌}
use Rattle.mw_rank_bits.specs.Walks.{is_below}
use Rattle.mw_rank_bits.proofs.Walks.{columns_more, room_less}
use Rattle.mw_rank_bits.proofs.walk.walk_all.Goals as goal

pub loop-i-init : goal.loop-i-init
loop-i-init c = λ x y lt less. absurd (omega arith)

pub walk_down-requires : goal.walk_down-requires
walk_down-requires c =
    let rows = c.args.rows in
    let cells = c.args.cells.now in
    let places = c.args.places in
    let i = c.loop-i.i in
    let m-is : length c.loop-i.planes / 2 ≡ length c.args.planes.now / 2 = omega arith in
    record {
      digits = omega (arith, m-is, c.requires.digits);
      few = omega (arith, m-is, c.requires.few);
      small = subst (λ (t : ℕ). rows.start + length places.seen.now < 2 ^ t) (sym m-is) c.requires.small;
      moves = c.requires.moves;
      seen = room_less cells places.seen.now (2 * rows.pairs - 2) (2 * i) (omega arith) c.requires.seen;
      left = λ y lt. room_less cells places.left.now (y * rows.wide + (2 * rows.pairs - 2)) (y * rows.wide + 2 * i) (omega arith) (c.requires.left y lt);
      entered = λ y lt. room_less cells places.entered.now (y * rows.wide + (2 * rows.pairs - 2)) (y * rows.wide + 2 * i) (omega arith) (c.requires.entered y lt);
      inside = omega arith;
      some = c.requires.some;
      room = omega (arith, c.requires.room);
      fits = c.requires.fits;
    }

pub loop-i-preserved : goal.loop-i-preserved
loop-i-preserved c =
    let rows = c.args.rows in
    let cells = c.args.cells.now in
    let seen = c.args.places.seen.now in
    let i = c.loop-i.i in
    let n = length c.args.planes.now / 2 in
    let m = length c.loop-i.planes / 2 in
    let m-is : m ≡ n = omega arith in
    columns_more (λ x y. is_below n rows.start cells seen (y * (64 * rows.wide) + x)) (λ q y. is_below m rows.start cells seen (64 * (y * rows.wide + 2 * i) + q)) rows.pairs i rows.high c.loop-i.out c.walk_down.new.out c.loop-i-test.true
    (λ q y lt less.
    let place : 64 * (y * rows.wide + 2 * i) + q ≡ y * (64 * rows.wide) + (128 * i + q) = omega arith in
    ap (λ (t : ℕ). is_below t rows.start cells seen (64 * (y * rows.wide + 2 * i) + q)) m-is ∙ ap (is_below n rows.start cells seen) place)
    c.walk_down.ensures c.loop-i.invariant

pub returns : goal.returns
returns c = λ x y lt less. c.loop-i.invariant x y (omega arith) less
