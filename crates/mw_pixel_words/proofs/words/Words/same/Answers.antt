use Rattle.std.proofs.Common.{◌≡◌, ℕ, ◌*◌, length, refl, ap, sym, ◌∙◌}
use Rattle.mw_model.specs.Rasters.{Raster, raster}
use Rattle.mw_pixel_words.specs.Packed.{samples_of, IsPacked}
use Rattle.mw_pixel_words.proofs.Compared.{samples_same, all_bits_same}
use Rattle.mw_pixel_words.proofs.words.Words.same.Goals as goal

same_raster : (a b : Raster ℕ) → a.width ≡ b.width → a.height ≡ b.height → a.cells ≡ b.cells → a ≡ b
same_raster a b width-is height-is cells-is =
    ap (λ (t : ℕ). raster t a.height a.cells) width-is ∙ ap (λ (t : ℕ). raster b.width t a.cells) height-is ∙ ap (raster b.width b.height) cells-is

pub returns : goal.returns
returns c =
    let self = c.args.self.now in
    let other = c.args.other.now in
    let words = c.words-words.result.now in
    let others = c.words.result.now in
    let n = 64 * length words in
    let width-is : self.width ≡ other.width = sym c.width.ensures.value ∙ c.if-width.false ∙ c.width-2.ensures.value in
    let height-is : self.height ≡ other.height = sym c.height.ensures ∙ c.if-height.false ∙ c.height-2.ensures in
    let packed : IsPacked self.width self.height others = rw (width-is, height-is) c.words.ensures.packed in
    let others-are : samples_of self.width self.height others ≡ other.cells =
    ap (λ (t : ℕ). samples_of t self.height others) width-is ∙ ap (λ (t : ℕ). samples_of other.width t others) height-is ∙ sym c.words.ensures.samples in (
      λ yes. same_raster self other width-is height-is
          (c.words-words.ensures.samples ∙ samples_same self.width self.height n words others refl c.words-words.ensures.packed (c.same_bits.ensures.0 yes) ∙ others-are),
      λ same. c.same_bits.ensures.1 (all_bits_same self.width self.height n words others refl c.words-words.ensures.packed packed
          (sym c.words-words.ensures.samples ∙ ap (λ (t : Raster ℕ). t.cells) same ∙ sym others-are)),
    )
