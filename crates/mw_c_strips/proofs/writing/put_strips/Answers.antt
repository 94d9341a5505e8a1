use Rattle.std.proofs.Common.{◌≡◌, ℕ, ◌+◌, length, ap, arith, subst, sym, ◌∙◌}
use Rattle.mw_c_layers.specs.declared.origins.Origin.{Origin}
use Rattle.mw_c_layers.specs.Origins.{origin_picture}
use Rattle.mw_c_layers.specs.Layers.{formula_picture}
use Rattle.mw_c_layers.specs.Parts.{HasImageRows}
use Rattle.mw_c_strips.specs.Rows.{EndAt, rows_from}
use Rattle.mw_c_layers.proofs.Formulas.{formula_frame, formula_sides}
use Rattle.mw_c_strips.proofs.SomeRows.{room_behind, strip_room}
use Rattle.mw_c_lent.proofs.Written.{no_rows}
use Rattle.mw_c_strips.proofs.writing.put_strips.Goals as goal

pub strip_from-strip-requires : goal.strip_from-strip-requires
strip_from-strip-requires g c = record { some = omega (arith, c.rows_of-rows.ensures); within = c.requires.ends.some }

pub put_made-requires-clause-strip : goal.put_made-requires-clause-strip
put_made-requires-clause-strip g c =
    let f = formula_picture c.args.formula in
    let wide : c.width-width.result ≡ f.width = c.width-width.ensures ∙ ap (λ (s : Origin). (origin_picture s).width) c.first_origin-f.ensures ∙ sym (formula_frame c.args.formula).0 in
    c.strip_from-strip.ensures.strip f wide c.requires.ends.within

pub put_made-requires-clause-room : goal.put_made-requires-clause-room
put_made-requires-clause-room g c =
    let f = formula_picture c.args.formula in
    let r = c.strip_from-strip.result in
    let first = c.args.first in
    let count = length c.args.out.now in
    let wide : c.width-width.result ≡ f.width = c.width-width.ensures ∙ ap (λ (s : Origin). (origin_picture s).width) c.first_origin-f.ensures ∙ sym (formula_frame c.args.formula).0 in
    let strip = c.strip_from-strip.ensures.strip f wide c.requires.ends.within in
    let row : r.y ≡ first + 0 = omega (arith, c.strip_from-strip.ensures.place) in
    room_behind first 0 r.y r.height r.width count row (strip_room first c.args.end count f r strip c.requires.ends c.strip_from-strip.ensures.before)

pub overflow_add-done : goal.overflow_add-done
overflow_add-done g c =
    let sides = (formula_sides c.args.formula c.requires.sound).high.1 in
    omega (arith, c.strip_from-strip.ensures.before, c.strip_from-strip.ensures.place, c.requires.ends.within, sides)

pub put_rest-requires : goal.put_rest-requires
put_rest-requires g c =
    let f = formula_picture c.args.formula in
    let r = c.strip_from-strip.result in
    let first = c.args.first in
    let wide : c.width-width.result ≡ f.width = c.width-width.ensures ∙ ap (λ (s : Origin). (origin_picture s).width) c.first_origin-f.ensures ∙ sym (formula_frame c.args.formula).0 in
    let place : r.y ≡ first = c.strip_from-strip.ensures.place in
    let strip = c.strip_from-strip.ensures.strip f wide c.requires.ends.within in
    let row : r.y ≡ first + 0 = omega (arith, place) in
    let rows = c.in_ok-put_made.ensures.made first row (no_rows g.P.Pixel.level f first r.y c.args.out.now place) in
    record {
      sound = c.requires.sound;
      behind = omega arith;
      within = omega (arith, c.strip_from-strip.ensures.before, place);
      ends = subst (λ (n : ℕ). EndAt first c.args.end n f) (sym c.put_made.auto.out) c.requires.ends;
      stands = c.requires.stands;
      before = subst (λ (n : ℕ). HasImageRows g.P.Pixel.level f first (n + r.height) c.put_made.new.out) place rows;
    }

pub returns-clause-made : goal.returns-clause-made
returns-clause-made g c = c.put_rest.ensures ∙ ap (λ (n : ℕ). rows_from c.args.first n (formula_picture c.args.formula)) c.put_made.auto.out
