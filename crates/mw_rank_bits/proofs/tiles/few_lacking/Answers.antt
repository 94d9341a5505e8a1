use Rattle.std.proofs.Common.{◌≡◌, ℕ, ℤ, ◌+◌, ◌-◌, ◌*◌, ◌/◌, ◌^◌, ◌<◌, ◌≤◌, ◌-ℤ◌, cond, List, length, to_z, of_z, w64, refl, ap, subst, sym, arith, ◌∙◌}
use Rattle.std.specs.Prelude.{nat_lt}
use Rattle.std.specs.List.{AllByRecursion}
use Rattle.std.proofs.Math.Nat.{mul-le-mul_right}
use Rattle.std.proofs.lemmas.Int.{ints}
use Rattle.std.proofs.lemmas.List.{length-map}
use Rattle.std.proofs.lemmas.Nat.{mul-le}
use Rattle.mw_model.specs.Rectangles.{nonnegative}
use Rattle.mw_model.specs.Windows.{seen_at}
use Rattle.mw_model.specs.declared.offsets.Rect.{Rect}
use Rattle.mw_bits.specs.mw_pixel_words.Packed.{bit_of}
use Rattle.mw_bits.specs.mw_element_runs.Runs.{start_of, RunIsInside}
use Rattle.mw_rank_bits.specs.Elements.{lacks_under}
use Rattle.mw_rank_bits.specs.Walks.{WordsHaveRoom}
use Rattle.mw_rank_bits.proofs.Around.{all_mapped, start_below, limit_room, rows_room, runs_lack, few_are, HasLacks}
use Rattle.mw_rank_bits.proofs.tiles.few_lacking.Goals as goal

pub below_words-requires : goal.below_words-requires
below_words-requires c =
    let tile = c.args.tile in
    let e = c.args.extent in
    let runs = c.args.runs.now in
    let pairs = (tile.width + 127) / 128 in
    let columns = c.columns_after.result in
    let below = c.rows_after.result in
    let wide = 2 * pairs + columns / 64 + 1 in
    let high = tile.height + below in
    let cells = c.as_slice.result.now in
    let moves = c.in_ok-moves.moves in
    let digits = c.digits_for-digits.ensures in
    let rows-is = c.rows_after.ensures.value in
    let columns-is = c.columns_after.ensures.value in
    let size : length cells ≡ high * wide + 1 = omega (arith, c.as_slice.ensures.len, c.in_ok-cells.ensures.size) in
    let count : length moves.seen.items ≡ length runs = ap length c.in_ok-moves.ensures.seen ∙ length-map runs (start_of e (64 * wide)) in
    let some : 0 < pairs = omega (arith, c.requires.some.0) in
    let limit = below * (64 * wide) + (columns + 1) in
    let all : AllByRecursion (λ (s : ℕ). s < limit) moves.seen.items =
    subst (AllByRecursion (λ (s : ℕ). s < limit)) (sym c.in_ok-moves.ensures.seen)
    (all_mapped (RunIsInside e) (λ (s : ℕ). s < limit) (start_of e (64 * wide)) runs (λ r inside. start_below e (64 * wide) below columns r inside rows-is columns-is) c.requires.inside) in
    let more = (below + 1) * (64 * wide) + (columns + 1) in
    let more-is : (nonnegative (e.bottom -ℤ e.top) + 1) * (64 * wide) + (nonnegative (e.right -ℤ e.left) + 1) ≡ more =
    ap (λ (t : ℕ). (t + 1) * (64 * wide) + (nonnegative (e.right -ℤ e.left) + 1)) (sym rows-is) ∙ ap (λ (t : ℕ). (below + 1) * (64 * wide) + (t + 1)) (sym columns-is) in
    let next : (places : List ℕ) → AllByRecursion (λ (s : ℕ). s < more) places → (y : ℕ) → y + 1 < tile.height → WordsHaveRoom cells places (y * wide + (2 * pairs - 2)) =
    λ places under y lt.
    limit_room cells places more (y * wide + (2 * pairs - 2)) (λ s less. rows_room s (below + 1) y high wide pairs columns (length cells) less refl some (omega arith) size) under in
    let high_few : tile.height ≤ 2147483648 = c.requires.small.1 in
    let pairs_few : 2 * pairs ≤ 33554436 = omega (arith, c.requires.small.0) in
    let columns_few : columns ≤ 4294967296 = c.columns_after.ensures.small in
    let wide_few : wide ≤ 134217728 = omega arith in
    let out_few = mul-le tile.height (2 * pairs) 2147483648 33554436 high_few pairs_few in
    let cells_few = mul-le tile.height wide 2147483648 134217728 high_few wide_few in
    record {
      digits = digits.some;
      few = digits.few;
      small = omega (arith, count, digits.whole, digits.room);
      moves = c.in_ok-moves.ensures.moves;
      seen = limit_room cells moves.seen.items limit (2 * pairs - 2) (λ s lt. let there = rows_room s below 0 high wide pairs columns (length cells) lt refl some (omega (arith, c.requires.some.1)) size in omega (arith, there)) all;
      left = next moves.changes.left.items (subst (λ (t : ℕ). AllByRecursion (λ (s : ℕ). s < t) moves.changes.left.items) more-is c.in_ok-moves.ensures.left);
      entered = next moves.changes.entered.items (subst (λ (t : ℕ). AllByRecursion (λ (s : ℕ). s < t) moves.changes.entered.items) more-is c.in_ok-moves.ensures.entered);
      some = c.requires.some.1;
      fits = omega (arith, out_few);
      rows = omega (arith, cells_few, pairs_few);
    }

pub trimmed-requires : goal.trimmed-requires
trimmed-requires c =
    let tile = c.args.tile in
    let pairs = (tile.width + 127) / 128 in
    record {
      narrow = omega arith;
      words = λ y lt. let le : y + 1 ≤ tile.height = omega arith in let rows = mul-le-mul_right (2 * pairs) le in omega (arith, rows, c.as_slice-2.ensures.len, c.in_ok-out.ensures.size);
    }

pub returns-clause-cells : goal.returns-clause-cells
returns-clause-cells c = λ x y lt less.
    let tile = c.args.tile in
    let e = c.args.extent in
    let w = c.args.set.now in
    let runs = c.args.runs.now in
    let pairs = (tile.width + 127) / 128 in
    let columns = c.columns_after.result in
    let below = c.rows_after.result in
    let wide = 2 * pairs + columns / 64 + 1 in
    let high = tile.height + below in
    let cells = c.as_slice.result.now in
    let digits = c.digits_for-digits.result in
    let is = c.digits_for-digits.ensures in
    let number = c.args.number in
    let start = digits.half - c.from.result in
    let place_x = ap (λ (t : Rect). t.x) c.place-place.ensures.value in
    let place_y = ap (λ (t : Rect). t.y) c.place-place.ensures.value in
    let column : ℤ = to_z w64 (of_z w64 c.first_column-column.result) in
    let row : ℤ = to_z w64 (of_z w64 c.first_row-row.result) in
    let laid : HasLacks w tile e wide high column row cells = record {
      column_is = omega (arith, ints, c.first_column-column.ensures, place_x);
      row_is = omega (arith, ints, c.first_row-row.ensures, place_y);
      high_is = ap (λ (t : ℕ). tile.height + t) c.rows_after.ensures.value;
      cells_are = λ p q inside down. ap (λ (t : List ℕ). bit_of t (q * (64 * wide) + p)) c.as_slice.ensures.value ∙ c.in_ok-cells.ensures.cells p q inside down;
    } in
    let half = 2 ^ (digits.count - 1) in
    let below_half : ℕ → ℕ = λ t. cond (nat_lt (start + t) half) 1 0 in
    let z = lacks_under (seen_at w) runs (tile.x + x) (tile.y + y) in
    let lacks = runs_lack w tile e wide high column row cells c.in_ok-moves.moves.seen.items runs x y laid (omega (arith, c.columns_after.ensures.value)) less c.in_ok-moves.ensures.seen c.requires.inside in
    c.in_ok-made.ensures.bits x y lt less
    ∙ ap (λ (t : List ℕ). bit_of t (y * (64 * (2 * pairs)) + x)) c.as_slice-2.ensures.value
    ∙ c.in_ok-out.ensures.bits x y (omega arith) less
    ∙ ap below_half lacks
    ∙ few_are half start number z (omega (arith, is.half, c.from.ensures)) (omega (arith, is.half, is.room, c.requires.number))
