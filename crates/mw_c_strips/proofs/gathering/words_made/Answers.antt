use Rattle.std.proofs.Common.{◌≡◌, ℕ, List, ◌+◌, ◌*◌, ◌≤◌, ◌++◌, length, ap, arith, subst, sym, ◌∙◌}
use Rattle.std.proofs.lemmas.List.{take_all}
use Rattle.mw_model.specs.Pictures.{Picture, sample}
use Rattle.mw_model.specs.Tasks.{cells_in}
use Rattle.mw_c_arrays.specs.Sources.{picture_in}
use Rattle.mw_c_arrays.proofs.SourceImages.{source_image}
use Rattle.mw_pixel.specs.mw_pixel_words.Packed.{samples_of, IsPacked}
use Rattle.mw_c_layers.specs.Layers.{rule_picture}
use Rattle.mw_c_lent.proofs.Steps.{rule_is_picture, strip_above}
use Rattle.mw_c_strips.proofs.Gathered.{packed_more, packed_none, samples_more, samples_none, taken_more}
use Rattle.mw_c_strips.proofs.gathering.words_made.Goals as goal

pub strips-init : goal.strips-init
strips-init c =
    let w = c.width-width.result in
    let items = c.in_ok-words.ensures.items in
    record {
      packed = subst (λ (ws : List ℕ). IsPacked w 0 ws) (sym items) (packed_none w);
      samples = ap (λ (ws : List ℕ). samples_of w 0 ws) items ∙ samples_none w (rule_picture c.args.rule (picture_in c.args.f)).samples;
      within = omega arith;
    }

pub strip_from-strip-requires : goal.strip_from-strip-requires
strip_from-strip-requires c = record { some = omega (arith, c.rows_of_layer-rows.ensures); within = c.strips-test.true }

pub by_rule-requires : goal.by_rule-requires
by_rule-requires c = record { sound = c.requires.sound; strip = c.strip_from-strip.ensures.strip (picture_in c.args.f) c.width-width.ensures (omega (arith, c.height-height.ensures)) }

pub words_in-requires : goal.words_in-requires
words_in-requires c = ap (λ (h : Picture). h.kind) c.in_ok-image.ensures ∙ c.requires.set

pub strips-preserved-in_ok-extend_from_slice : goal.strips-preserved-in_ok-extend_from_slice
strips-preserved-in_ok-extend_from_slice c =
    let f = picture_in c.args.f in
    let p = rule_picture c.args.rule f in
    let r = c.strip_from-strip.result in
    let w = c.width-width.result in
    let done = c.strips.done in
    let strip = c.strip_from-strip.ensures.strip f c.width-width.ensures (omega (arith, c.height-height.ensures)) in
    let low = strip.low in
    let place = c.strip_from-strip.ensures.place in
    let image = c.in_ok-image.image in
    let a = c.strips.words.items in
    let b = c.words_in.result.now in
    let m-is : image.width ≡ w = ap (λ (h : Picture). h.width) c.in_ok-image.ensures ∙ strip.wide ∙ sym c.width-width.ensures in
    let n-is : image.height ≡ r.height = ap (λ (h : Picture). h.height) c.in_ok-image.ensures in
    let own : IsPacked w r.height b = subst (λ (m : ℕ). IsPacked m r.height b) m-is (subst (λ (n : ℕ). IsPacked image.width n b) n-is c.words_in.ensures.packed) in
    let part : samples_of w r.height b ≡ cells_in r (sample p) =
    ap (λ (m : ℕ). samples_of m r.height b) (sym m-is)
    ∙ ap (λ (n : ℕ). samples_of image.width n b) (sym n-is)
    ∙ c.words_in.ensures.samples
    ∙ ap (λ (h : Picture). h.samples) c.in_ok-image.ensures in
    let items = c.in_ok-extend_from_slice.ensures.items in
    record {
      packed = subst (λ (ws : List ℕ). IsPacked w (done + r.height) ws) (sym items) (packed_more w done r.height a b c.strips.invariant.packed own);
      samples =
          ap (λ (ws : List ℕ). samples_of w (done + r.height) ws) items
          ∙ samples_more w done r.height a b c.strips.invariant.packed
          ∙ ap (λ (ns : List ℕ). ns ++ samples_of w r.height b) c.strips.invariant.samples
          ∙ taken_more p r done w (samples_of w r.height b) (strip_above c.args.rule f r strip) (rule_is_picture c.args.rule f (source_image c.args.f c.requires.sound).picture).size place c.width-width.ensures part;
      within = omega (arith, low, place);
    }

pub strips-smaller-in_ok-extend_from_slice : goal.strips-smaller-in_ok-extend_from_slice
strips-smaller-in_ok-extend_from_slice c =
    let some = (c.strip_from-strip.ensures.strip (picture_in c.args.f) c.width-width.ensures (omega (arith, c.height-height.ensures))).some in
    omega (arith, some, c.strips-test.true)

pub overflow_add-done : goal.overflow_add-done
overflow_add-done c =
    let f = picture_in c.args.f in
    let low = (c.strip_from-strip.ensures.strip f c.width-width.ensures (omega (arith, c.height-height.ensures))).low in
    let place = c.strip_from-strip.ensures.place in
    let most : f.height ≤ 8192 = (source_image c.args.f c.requires.sound).height.1 in
    omega (arith, low, place, most)

pub returns-clause-packed : goal.returns-clause-packed
returns-clause-packed c =
    let f = picture_in c.args.f in
    let high : c.height-height.result ≡ f.height = c.height-height.ensures in
    let whole : c.strips.done ≡ f.height = omega (arith, c.strips-test.false, c.strips.invariant.within, high) in
    let items = c.strips.words.items in
    subst (λ (m : ℕ). IsPacked m f.height items) c.width-width.ensures (subst (λ (n : ℕ). IsPacked c.width-width.result n items) whole c.strips.invariant.packed)

pub returns-clause-samples : goal.returns-clause-samples
returns-clause-samples c =
    let f = picture_in c.args.f in
    let p = rule_picture c.args.rule f in
    let w = c.width-width.result in
    let done = c.strips.done in
    let items = c.strips.words.items in
    let size = (rule_is_picture c.args.rule f (source_image c.args.f c.requires.sound).picture).size in
    let high : c.height-height.result ≡ f.height = c.height-height.ensures in
    let whole : done ≡ f.height = omega (arith, c.strips-test.false, c.strips.invariant.within, high) in
    let all : length p.samples ≤ done * w = omega (arith, size, ap (λ (t : ℕ). t * w) whole, ap (λ (t : ℕ). f.height * t) c.width-width.ensures) in
    ap (λ (m : ℕ). samples_of m f.height items) (sym c.width-width.ensures)
    ∙ ap (λ (n : ℕ). samples_of w n items) (sym whole)
    ∙ c.strips.invariant.samples
    ∙ take_all (done * w) p.samples all
