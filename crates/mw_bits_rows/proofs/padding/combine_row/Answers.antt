use Rattle.std.proofs.Common.{◌≡◌, ℤ, ◌+◌, ◌*◌, ◌/◌, ◌%◌, pos, ◌+ℤ◌, ◌-ℤ◌, get_or, to_z, of_z, w64, ap, arith, refl, ◌∙◌}
use Rattle.std.specs.Int.{bit_at}
use Rattle.std.proofs.lemmas.Int.{ints}
use Rattle.std.proofs.lemmas.Nat.Bits.{bit_at-lt}
use Rattle.mw_line.specs.mw_lane.Shifted.{merge_at}
use Rattle.mw_bits_rows.specs.Rows.{pixel_at, words_before}
use Rattle.mw_line.proofs.mw_pixel_words.Done.{words_more}
use Rattle.mw_line.proofs.mw_pixel_words.Funnels.{IsFunnel}
use Rattle.mw_bits_rows.proofs.Paddings.{IsNeutral, padded_at, merge_padded, funnel_padded}
use Rattle.mw_bits_rows.proofs.padding.combine_row.Goals as goal

pub loop-i-init : goal.loop-i-init
loop-i-init g c =
    record {
      done = record { size = refl; done = λ q lt. absurd (omega arith); rest = λ k from. refl };
      low = λ i lt.
          let place : c.places_to-from.result / 64 + 0 ≡ c.places_to-from.result / 64 = omega arith in
          rw place (c.padded_word-low.ensures i lt);
    }

pub loop-i-preserved : goal.loop-i-preserved
loop-i-preserved g c =
    let f = g.E.Extremum.merge in
    let n = g.E.Extremum.neutral_of 1 in
    let laws : IsNeutral f n = record { commutes = g.met.E.Extremum.commutes; changes_none = g.met.E.Extremum.neutral_changes_none 1 } in
    let row = c.args.row.now in
    let width = c.args.width in
    let from = c.places_to-from.result in
    let i = c.loop-i.i in
    let at = from / 64 + i in
    let out = c.loop-i.out in
    let to_x : ℤ = to_z w64 (of_z w64 c.args.column) in
    let column-is : to_x ≡ pos from -ℤ pos (64 * words_before) = omega (arith, ints, c.places_to-from.ensures.value) in
    let funnel : IsFunnel c.loop-i.low c.padded_word-high.result (from % 64) c.funnel.result = record { below = c.funnel.ensures.below; above = c.funnel.ensures.above } in
    let ahead = funnel_padded (padded_at f n row width) c.loop-i.low c.padded_word-high.result (from % 64) c.funnel.result at (omega arith) funnel c.loop-i.invariant.low c.padded_word-high.ensures in
    record {
      done = words_more (λ best x. merge_at f best (pixel_at row width (to_x +ℤ pos x))) i c.args.out.now out c.combine_words.result (omega arith)
          (λ b lt.
          let small = bit_at-lt (get_or out i 0) b in
          let place : pos (64 * at + from % 64 + b) -ℤ pos (64 * words_before) ≡ to_x +ℤ pos (64 * i + b) = omega (arith, ints) in
          c.combine_words.ensures b lt
          ∙ ap (f (bit_at (get_or out i 0) b)) (ahead b lt ∙ ap (padded_at f n row width) place)
          ∙ merge_padded f n laws row width (bit_at (get_or out i 0) b) (to_x +ℤ pos (64 * i + b)) (omega arith))
          c.loop-i.invariant.done;
      low = λ b lt.
          let place : from / 64 + (i + 1) ≡ from / 64 + i + 1 = omega arith in
          rw place (c.padded_word-high.ensures b lt);
    }
