use Rattle.std.proofs.Common.{◌*◌, ap, sym, ◌∙◌}
use Rattle.mw_model.specs.declared.offsets.Rect.{Rect}
use Rattle.mw_offset.specs.mw_pixel_words.Packed.{stride_of, samples_of}
use Rattle.mw_bits.proofs.Pairings.{paired_none, within_bits}
use Rattle.mw_bits.proofs.pairs.is_within.Goals as goal

pub are_within-requires : goal.are_within-requires
are_within-requires c = c.words_of.ensures.packed.size ∙ ap (λ (t : Rect). t.height * stride_of t.width) c.requires ∙ sym c.words_of-2.ensures.packed.size

pub returns-clause-within : goal.returns-clause-within
returns-clause-within c =
    let place = c.args.a.now.place in
    let words = c.words_of.result.now in
    let others = c.words_of-2.result.now in
    let a = c.args.a.now.cells in
    let b = c.args.b.now.cells in
    let b-is = c.words_of-2.ensures.samples ∙ ap (λ (t : Rect). samples_of t.width t.height others) (sym c.requires) in (
      λ yes. paired_none place.width place.height words others a b c.words_of.ensures.samples b-is (c.are_within.ensures.0 yes),
      λ only. c.are_within.ensures.1 (within_bits place.width place.height words others a b c.words_of.ensures.samples b-is c.words_of.ensures.packed only),
    )
