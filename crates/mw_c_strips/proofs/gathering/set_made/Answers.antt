use Rattle.std.proofs.Common.{◌≡◌, ℕ, ap, subst, sym, ◌∙◌}
use Rattle.std.proofs.lemmas.Result.{IfOk-weaker}
use Rattle.mw_model.specs.Pictures.{Picture}
use Rattle.mw_c_arrays.specs.Sources.{picture_in}
use Rattle.mw_pixel.specs.mw_pixel_words.Packed.{samples_of, IsPacked}
use Rattle.mw_pixel.specs.Images.{set_of}
use Rattle.mw_c_layers.specs.Layers.{rule_picture}
use Rattle.mw_c_strips.proofs.Gathered.{set_is}
use Rattle.mw_c_strips.proofs.gathering.set_made.Goals as goal

pub new-requires : goal.new-requires
new-requires c =
    let items = c.in_ok-words.words.items in
    subst (λ (m : ℕ). IsPacked m c.height.result items) (sym c.width.ensures) (subst (λ (n : ℕ). IsPacked (picture_in c.args.f).width n items) (sym c.height.ensures) c.in_ok-words.ensures.packed)

pub returns : goal.returns
returns c =
    let f = picture_in c.args.f in
    let p = rule_picture c.args.rule f in
    let items = c.in_ok-words.words.items in
    let w = c.width.result in
    let h = c.height.result in
    let same : samples_of w h items ≡ p.samples = ap (λ (m : ℕ). samples_of m h items) c.width.ensures ∙ ap (λ (n : ℕ). samples_of f.width n items) c.height.ensures ∙ c.in_ok-words.ensures.samples in
    IfOk-weaker c.image_of.result (λ (g : Picture). g ≡ set_of c.new.result) (λ (g : Picture). g ≡ p)
    (λ g e. e ∙ ap set_of c.new.ensures ∙ set_is p w h (samples_of w h items) c.requires.set c.requires.top c.width.ensures c.height.ensures same) c.image_of.ensures
