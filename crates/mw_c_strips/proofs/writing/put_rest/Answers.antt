use Rattle.std.proofs.Common.{◌≡◌, ℕ, ◌+◌, length, ap, arith, subst, sym, ◌∙◌}
use Rattle.mw_c_layers.specs.declared.origins.Origin.{Origin}
use Rattle.mw_c_layers.specs.Origins.{origin_picture}
use Rattle.mw_c_layers.specs.Layers.{formula_picture}
use Rattle.mw_c_layers.specs.Parts.{HasImageRows}
use Rattle.mw_c_strips.specs.Rows.{EndAt, rows_from}
use Rattle.mw_c_layers.proofs.Formulas.{formula_frame, formula_is_picture, formula_sides}
use Rattle.mw_c_strips.proofs.SomeRows.{strip_room}
use Rattle.mw_c_lent.proofs.Written.{all_cells}
use Rattle.mw_c_strips.proofs.writing.put_rest.Goals as goal

pub strip_from-strip-requires : goal.strip_from-strip-requires
strip_from-strip-requires g c =
    record { some = omega (arith, c.rows_of-rows.ensures); within = c.strips-test.true }

pub put_strip-requires : goal.put_strip-requires
put_strip-requires g c =
    let f = formula_picture c.args.formula in
    let wide : c.width-width.result ≡ f.width = c.width-width.ensures ∙ ap (λ (s : Origin). (origin_picture s).width) c.first_origin-f.ensures ∙ sym (formula_frame c.args.formula).0 in
    let r = c.strip_from-strip.result in
    let ends = c.strips.invariant.ends in
    let place = c.strip_from-strip.ensures.place in
    let strip = c.strip_from-strip.ensures.strip f wide ends.within in
    record {
      sound = c.requires.sound;
      strip = strip;
      behind = omega (arith, c.strips.invariant.behind, place);
      room = strip_room c.args.first c.args.end (length c.strips.out) f r strip ends c.strip_from-strip.ensures.before;
      stands = c.requires.stands;
      before = subst (λ (n : ℕ). HasImageRows g.P.Pixel.level f c.args.first n c.strips.out) (sym place) c.strips.invariant.rows;
    }

pub strips-preserved : goal.strips-preserved
strips-preserved g c =
    let f = formula_picture c.args.formula in
    let r = c.strip_from-strip.result in
    let place = c.strip_from-strip.ensures.place in
    record {
      rows = subst (λ (n : ℕ). HasImageRows g.P.Pixel.level f c.args.first (n + r.height) c.put_strip.new.out) place c.put_strip.ensures;
      ends = subst (λ (n : ℕ). EndAt c.args.first c.args.end n f) (sym c.put_strip.auto.out) c.strips.invariant.ends;
      behind = omega (arith, c.strips.invariant.behind);
      within = omega (arith, c.strip_from-strip.ensures.before, place);
    }

pub strips-smaller : goal.strips-smaller
strips-smaller g c =
    let f = formula_picture c.args.formula in
    let wide : c.width-width.result ≡ f.width = c.width-width.ensures ∙ ap (λ (s : Origin). (origin_picture s).width) c.first_origin-f.ensures ∙ sym (formula_frame c.args.formula).0 in
    let some = (c.strip_from-strip.ensures.strip f wide c.strips.invariant.ends.within).some in
    omega (arith, some, c.strips-test.true)

pub overflow_add-done : goal.overflow_add-done
overflow_add-done g c =
    let sides = (formula_sides c.args.formula c.requires.sound).high.1 in
    omega (arith, c.strip_from-strip.ensures.before, c.strip_from-strip.ensures.place, c.strips.invariant.ends.within, sides)

pub returns : goal.returns
returns g c =
    let f = formula_picture c.args.formula in
    let first = c.args.first in
    let out = c.strips.out in
    let end : c.strips.done ≡ c.args.end = omega (arith, c.strips-test.false, c.strips.invariant.within) in
    let rows : HasImageRows g.P.Pixel.level f first c.args.end out = subst (λ (n : ℕ). HasImageRows g.P.Pixel.level f first n out) end c.strips.invariant.rows in
    let count : length out ≡ length c.args.out.now = omega (arith, c.strips.invariant.ends.samples, c.requires.ends.samples) in
    all_cells g.P.Pixel.level f first c.args.end out (formula_is_picture c.args.formula c.requires.sound).size c.strips.invariant.ends rows ∙ ap (λ (n : ℕ). rows_from first n f) count
