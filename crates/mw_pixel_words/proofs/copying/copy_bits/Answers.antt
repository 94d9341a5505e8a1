use Rattle.std.proofs.Common.{◌+◌, ◌/◌, ◌%◌, refl, arith}
use Rattle.mw_pixel_words.proofs.Copies.{copied_more}
use Rattle.mw_pixel_words.proofs.copying.copy_bits.Goals as goal

pub parts-preserved : goal.parts-preserved
parts-preserved c =
    let at = c.args.place + c.parts.done in (
      omega (arith, c.min-part.ensures, c.parts.invariant.0),
      copied_more c.args.place c.args.from c.parts.done c.min-part.result (at / 64) (at % 64) at c.bits_from-bits.result c.blended.result c.args.other.now c.args.words.now c.parts.words
          refl refl refl (omega (arith, c.min-part.ensures, c.parts-test.true)) (omega (arith, c.min-part.ensures)) (omega (arith, c.parts.invariant.1.size, c.requires.room, c.parts-test.true))
          c.bits_from-bits.ensures c.blended.ensures c.parts.invariant.1,
    )
