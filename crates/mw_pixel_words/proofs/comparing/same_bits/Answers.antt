use Rattle.std.proofs.Common.{IsTrue, Bool, false, subst, rules, arith}
use Rattle.mw_pixel_words.specs.Runs.{HasSame}
use Rattle.mw_pixel_words.proofs.Compared.{same_more, same_part}
use Rattle.mw_pixel_words.proofs.comparing.same_bits.Goals as goal

pub returns-then-not-low_same : goal.returns-then-not-low_same
returns-then-not-low_same c =
    let differ : HasSame c.args.place c.args.from c.args.count c.args.words.now c.args.other.now → IsTrue false = λ all.
    subst (λ (t : Bool). IsTrue t) c.if-not-low_same.true
    (c.low_same.ensures.1 (same_part c.args.place c.args.from c.parts.done c.min-part.result c.args.count c.bits_from-bits.result c.bits_from-others.result c.args.words.now c.args.other.now
    (omega (arith, c.min-part.ensures)) (omega (arith, c.min-part.ensures, c.parts-test.true)) c.bits_from-bits.ensures c.bits_from-others.ensures all)) in
    (λ no. search rules, differ)

pub parts-preserved : goal.parts-preserved
parts-preserved c = (
  omega (arith, c.min-part.ensures, c.parts.invariant.0),
  same_more c.args.place c.args.from c.parts.done c.min-part.result c.bits_from-bits.result c.bits_from-others.result c.args.words.now c.args.other.now
      (omega (arith, c.min-part.ensures)) c.bits_from-bits.ensures c.bits_from-others.ensures (c.low_same.ensures.0 c.if-not-low_same.false) c.parts.invariant.1,
)
