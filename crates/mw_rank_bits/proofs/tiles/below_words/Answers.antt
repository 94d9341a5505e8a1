use Rattle.std.proofs.Common.{◌≡◌, ℕ, ◌+◌, ◌*◌, ◌/◌, ◌<◌, ◌^◌, List, length, ap, subst, sym, arith, ◌∙◌}
use Rattle.std.proofs.lemmas.List.{length-replicate}
use Rattle.mw_model.proofs.mw_facts.Elements.{take-written}
use Rattle.mw_rank_bits.specs.Walks.{is_below}
use Rattle.mw_rank_bits.proofs.Walks.{moves_same, room_same}
use Rattle.mw_rank_bits.proofs.tiles.below_words.Goals as goal

pub walk_all-requires : goal.walk_all-requires
walk_all-requires c =
    let planes = c.as_mut_slice.result.now in
    let digits = c.args.digits in
    let rows = c.args.rows in
    let cells = c.args.cells.now in
    let moves = c.args.moves.now in
    let size : length planes ≡ 2 * digits = ap length (c.as_mut_slice.ensures.value ∙ c.in_ok-planes.ensures) ∙ length-replicate (2 * digits) 0 in
    let half : length planes / 2 ≡ digits = omega arith in
    let out_size : length c.as_mut_slice-2.result.now ≡ rows.high * (2 * rows.pairs) = ap length (c.as_mut_slice-2.ensures.value ∙ c.in_ok-out.ensures) ∙ length-replicate (rows.high * (2 * rows.pairs)) 0 in
    let seen-is = c.as_slice.ensures.value in
    let entered-is = c.as_slice-2.ensures.value in
    let left-is = c.as_slice-3.ensures.value in
    let seen_size = ap length seen-is in
    record {
      digits = omega (arith, half, c.requires.digits);
      few = omega (arith, half, c.requires.few);
      small = subst (λ (t : ℕ). rows.start + length c.as_slice.result.now < 2 ^ t) (sym half) (omega (arith, seen_size, c.requires.small));
      moves = moves_same (64 * rows.wide) c.as_slice.result.now c.as_slice-2.result.now c.as_slice-3.result.now moves.seen.items moves.changes.entered.items moves.changes.left.items seen-is entered-is left-is c.requires.moves;
      seen = room_same cells c.as_slice.result.now moves.seen.items _ seen-is c.requires.seen;
      left = λ y lt. room_same cells c.as_slice-3.result.now moves.changes.left.items _ left-is (c.requires.left y lt);
      entered = λ y lt. room_same cells c.as_slice-2.result.now moves.changes.entered.items _ entered-is (c.requires.entered y lt);
      some = c.requires.some;
      room = omega arith;
      fits = c.requires.rows;
    }

pub returns-clause-bits : goal.returns-clause-bits
returns-clause-bits c =
    let rows = c.args.rows in
    let digits = c.args.digits in
    let cells = c.args.cells.now in
    let out = c.walk_all.new.out in
    let whole : length out ≡ c.in_ok-out.out.len = omega arith in
    let size : length c.as_mut_slice.result.now ≡ 2 * digits = ap length (c.as_mut_slice.ensures.value ∙ c.in_ok-planes.ensures) ∙ length-replicate (2 * digits) 0 in
    let half : length c.as_mut_slice.result.now / 2 ≡ digits = omega arith in
    rw (take-written c.in_ok-out.out.items out c.in_ok-out.out.len whole)
    (λ x y lt less.
    let p = y * (64 * rows.wide) + x in
    c.walk_all.ensures x y lt less ∙ ap (λ (t : ℕ). is_below t rows.start cells c.as_slice.result.now p) half ∙ ap (λ (s : List ℕ). is_below digits rows.start cells s p) c.as_slice.ensures.value)
