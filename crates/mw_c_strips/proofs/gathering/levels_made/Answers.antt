use Rattle.std.proofs.Common.{◌≡◌, ℕ, ◌*◌, ◌≤◌, map, length, ap, arith, subst, sym, ◌∙◌}
use Rattle.std.proofs.lemmas.List.{take_all}
use Rattle.mw_model.specs.Pictures.{Picture}
use Rattle.mw_c_arrays.specs.Sources.{picture_in}
use Rattle.mw_c_arrays.proofs.SourceImages.{source_image}
use Rattle.mw_c_layers.specs.Layers.{rule_picture}
use Rattle.mw_c_lent.proofs.Steps.{rule_is_picture, strip_above}
use Rattle.mw_c_strips.proofs.Gathered.{levels_more, none_taken}
use Rattle.mw_c_strips.proofs.gathering.levels_made.Goals as goal

pub strips-init : goal.strips-init
strips-init g c = record {
  rows = ap (map g.P.Pixel.level) c.in_ok-plane.ensures.items ∙ none_taken c.width-width.result (rule_picture c.args.rule (picture_in c.args.f)).samples;
  within = omega arith;
}

pub strip_from-strip-requires : goal.strip_from-strip-requires
strip_from-strip-requires g c = record { some = omega (arith, c.rows_of_layer-rows.ensures); within = c.strips-test.true }

pub by_rule-requires : goal.by_rule-requires
by_rule-requires g c = record { sound = c.requires.sound; strip = c.strip_from-strip.ensures.strip (picture_in c.args.f) c.width-width.ensures (omega (arith, c.height-height.ensures)) }

pub levels-requires : goal.levels-requires
levels-requires g c = record {
  grey = ap (λ (h : Picture). h.kind) c.in_ok-image.ensures ∙ c.requires.grey;
  stands = subst (λ (m : ℕ). g.P.Sample.stands m) (sym (ap (λ (h : Picture). h.maxval) c.in_ok-image.ensures)) c.requires.stands;
}

pub strips-preserved : goal.strips-preserved
strips-preserved g c =
    let level = g.P.Pixel.level in
    let f = picture_in c.args.f in
    let r = c.strip_from-strip.result in
    let own = c.strip_from-strip.ensures.strip f c.width-width.ensures (omega (arith, c.height-height.ensures)) in
    let low = own.low in
    let place = c.strip_from-strip.ensures.place in
    record {
      rows = levels_more level (rule_picture c.args.rule f) r c.strips.done c.width-width.result c.strips.plane.items c.levels.result.now c.extend_from_slice.new.self.items c.in_ok-extend_from_slice.ensures.items c.strips.invariant.rows
          (strip_above c.args.rule f r own) (rule_is_picture c.args.rule f (source_image c.args.f c.requires.sound).picture).size place c.width-width.ensures (c.levels.ensures ∙ ap (λ (h : Picture). h.samples) c.in_ok-image.ensures);
      within = omega (arith, low, place);
    }

pub strips-preserved-in_ok-extend_from_slice-2 : goal.strips-preserved-in_ok-extend_from_slice-2
strips-preserved-in_ok-extend_from_slice-2 g c =
    let level = g.P.Pixel.level in
    let f = picture_in c.args.f in
    let r = c.strip_from-strip.result in
    let own = c.strip_from-strip.ensures.strip f c.width-width.ensures (omega (arith, c.height-height.ensures)) in
    let low = own.low in
    let place = c.strip_from-strip.ensures.place in
    record {
      rows = levels_more level (rule_picture c.args.rule f) r c.strips.done c.width-width.result c.strips.plane.items c.levels.result.now c.extend_from_slice.new.self.items c.in_ok-extend_from_slice.ensures.items c.strips.invariant.rows
          (strip_above c.args.rule f r own) (rule_is_picture c.args.rule f (source_image c.args.f c.requires.sound).picture).size place c.width-width.ensures (c.levels.ensures ∙ ap (λ (h : Picture). h.samples) c.in_ok-image.ensures);
      within = omega (arith, low, place);
    }

pub strips-smaller : goal.strips-smaller
strips-smaller g c =
    let some = (c.strip_from-strip.ensures.strip (picture_in c.args.f) c.width-width.ensures (omega (arith, c.height-height.ensures))).some in
    omega (arith, some, c.strips-test.true)

pub strips-smaller-in_ok-extend_from_slice-2 : goal.strips-smaller-in_ok-extend_from_slice-2
strips-smaller-in_ok-extend_from_slice-2 g c =
    let some = (c.strip_from-strip.ensures.strip (picture_in c.args.f) c.width-width.ensures (omega (arith, c.height-height.ensures))).some in
    omega (arith, some, c.strips-test.true)

pub overflow_add-done : goal.overflow_add-done
overflow_add-done g c =
    let f = picture_in c.args.f in
    let low = (c.strip_from-strip.ensures.strip f c.width-width.ensures (omega (arith, c.height-height.ensures))).low in
    let place = c.strip_from-strip.ensures.place in
    let most : f.height ≤ 8192 = (source_image c.args.f c.requires.sound).height.1 in
    omega (arith, low, place, most)

pub returns : goal.returns
returns g c =
    let f = picture_in c.args.f in
    let p = rule_picture c.args.rule f in
    let w = c.width-width.result in
    let done = c.strips.done in
    let size = (rule_is_picture c.args.rule f (source_image c.args.f c.requires.sound).picture).size in
    let high : c.height-height.result ≡ f.height = c.height-height.ensures in
    let whole : done ≡ f.height = omega (arith, c.strips-test.false, c.strips.invariant.within, high) in
    let all : length p.samples ≤ done * w = omega (arith, size, ap (λ (t : ℕ). t * w) whole, ap (λ (t : ℕ). f.height * t) c.width-width.ensures) in
    c.strips.invariant.rows ∙ take_all (done * w) p.samples all
