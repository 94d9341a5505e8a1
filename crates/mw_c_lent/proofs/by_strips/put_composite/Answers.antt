use Rattle.std.proofs.Common.{◌≡◌, ℕ, ◌+◌, ◌-◌, ◌*◌, ◌≤◌, min, List, length, ap, sym, subst, arith, rules, ◌∙◌}
use Rattle.std.proofs.lemmas.List.{length-replicate}
use Rattle.std.proofs.lemmas.Nat.{mul-le}
use Rattle.std.proofs.lemmas.Result.{IfOk-weaker}
use Rattle.mw_c_arrays.specs.declared.sources.ArrayImage.{ArrayImage}
use Rattle.mw_c_arrays.specs.Sources.{picture_in}
use Rattle.mw_c_arrays.proofs.SourceImages.{source_image}
use Rattle.mw_c_lent.specs.declared.composites.Composite.{Composite}
use Rattle.mw_c_lent.specs.Composites.{composite_picture}
use Rattle.mw_c_lent.specs.InPlace.{IsWholeView}
use Rattle.mw_c_lent.specs.Rows.{EndAt, HasImageRows}
use Rattle.mw_c_lent.proofs.InStrips.{first_size, held_room, near_element, near_low, near_suits}
use Rattle.mw_c_lent.proofs.Views.{whole_is}
use Rattle.mw_c_lent.specs.Composites.{first_rule, last_rule}
use Rattle.mw_c_lent.specs.Suited.{SuitComposite, rows_beside}
use Rattle.mw_c_lent.proofs.by_strips.put_composite.Goals as goal

pub overflow_mul-held : goal.overflow_mul-held
overflow_mul-held g c =
    let image = source_image c.args.f c.requires.sound in
    omega (arith, mul-le c.min-held.result c.width-width.result 8192 8192 (omega (arith, c.min-held.ensures, c.height-height.ensures, image.height.1)) (omega (arith, c.width-width.ensures, image.width.1)))

pub put_strips-requires-clause-view : goal.put_strips-requires-clause-view
put_strips-requires-clause-view g c =
    let level = g.P.Pixel.level in
    let f = picture_in c.args.f in
    let w = c.new-lent.result in
    let image = source_image c.args.f c.requires.sound in
    let whole : IsWholeView level w f =
    whole_is level w f c.width-width.result c.height-height.result c.whole_frame.result c.in-Some.samples.now c.width-width.ensures c.height-height.ensures c.whole_frame.ensures.value c.new-lent.ensures c.in-Some.ensures.samples image.picture.size in
    subst (λ (a : ArrayImage). IsWholeView level w (picture_in a)) (sym c.in-Some-composition_of.ensures.image) whole

pub put_strips-requires-clause-top : goal.put_strips-requires-clause-top
put_strips-requires-clause-top g c = ap (λ (a : ArrayImage). (picture_in a).maxval) c.in-Some-composition_of.ensures.image ∙ sym (c.in-Some-of.ensures.level ∙ c.maxval.ensures)

pub put_strips-requires-clause-rows : goal.put_strips-requires-clause-rows
put_strips-requires-clause-rows g c = subst (λ (a : ArrayImage). EndAt c.args.first c.args.end (length c.args.out.now) (picture_in a)) (sym c.in-Some-composition_of.ensures.image) c.requires.rows

pub put_strips-requires-clause-between : goal.put_strips-requires-clause-between
put_strips-requires-clause-between g c =
    let k = c.in-Some-composition_of.composition in
    let f = picture_in c.args.f in
    let beyond : ℕ = k.reach.up + k.reach.down in
    let rows = c.in-Some-rows_of.rows in
    let n : ℕ = length c.as_mut_slice.result.now in
    let held : c.min-held.result ≡ min (rows + beyond) f.height = omega (arith, c.min-held.ensures, c.height-height.ensures) in
    let room : min (rows + beyond) f.height * f.width ≤ n =
    held_room c.min-held.result (min (rows + beyond) f.height) c.width-width.result f.width n held c.width-width.ensures (ap (λ (xs : List _). length xs) (c.as_mut_slice.ensures.value ∙ c.in_ok-between.ensures) ∙ length-replicate (c.min-held.result * c.width-width.result) c.in-Some-of.top) in
    subst (λ (a : ArrayImage). min (rows + beyond) (picture_in a).height * (picture_in a).width ≤ n) (sym c.in-Some-composition_of.ensures.image) room

pub returns-clause-made : goal.returns-clause-made
returns-clause-made g c =
    let level = g.P.Pixel.level in
    let k = c.in-Some-composition_of.composition in
    let first = c.args.first in
    let out = c.put_strips.new.out in
    IfOk-weaker c.put_strips.result (λ to. HasImageRows level (composite_picture k.composite (picture_in k.f)) first to out)
    (λ to. HasImageRows level (composite_picture c.args.composite (picture_in c.args.f)) first to out)
    (λ to made.
    subst (λ (x : Composite). HasImageRows level (composite_picture x (picture_in c.args.f)) first to out) c.in-Some-composition_of.ensures.composite
    (subst (λ (a : ArrayImage). HasImageRows level (composite_picture k.composite (picture_in a)) first to out) c.in-Some-composition_of.ensures.image made))
    c.put_strips.ensures.made

pub returns-in_default-clause-taken : goal.returns-in_default-clause-taken
returns-in_default-clause-taken g c = λ m. absurd (c.in_default.ensures.none m.levels)

pub returns-in_default-of-clause-taken : goal.returns-in_default-of-clause-taken
returns-in_default-of-clause-taken g c = λ m.
    let yes = c.in_default-of.ensures.fits.1 (omega (arith, m.maxval, c.maxval.ensures)) in
    search rules

pub returns-then-is_small-clause-taken : goal.returns-then-is_small-clause-taken
returns-then-is_small-clause-taken g c = λ m.
    let no = c.is_small.ensures (omega (arith, m.wide, c.width-width.ensures)) m.some in
    absurd (cc (no, c.if-is_small.true))

pub returns-in_default-composition_of-clause-taken : goal.returns-in_default-composition_of-clause-taken
returns-in_default-composition_of-clause-taken g c = λ m.
    absurd (c.in_default-composition_of.ensures.none (near_element (first_rule c.args.composite) m.first_is, near_element (last_rule c.args.composite) m.last_is) (omega (arith, near_low (last_rule c.args.composite) m.last_is)) (omega (arith, m.wide)))

pub returns-in_default-rows_of-clause-taken : goal.returns-in_default-rows_of-clause-taken
returns-in_default-rows_of-clause-taken g c = λ m.
    let k = c.in-Some-composition_of.composition in
    let beyond : ℕ = rows_beside (last_rule c.args.composite) in
    let wide : (picture_in k.f).width ≡ (picture_in c.args.f).width = ap (λ (a : ArrayImage). (picture_in a).width) c.in-Some-composition_of.ensures.image in
    absurd (c.in_default-rows_of.ensures.none
    (omega (arith, mul-le (5 * (k.reach.up + k.reach.down) + 16) (2 * (picture_in k.f).width) (5 * beyond + 16) (2 * (picture_in c.args.f).width) (omega (arith, c.in-Some-composition_of.ensures.low)) (omega (arith, wide)), m.few)))

pub returns-clause-taken : goal.returns-clause-taken
returns-clause-taken g c = λ m.
    let k = c.in-Some-composition_of.composition in
    let rows = c.in-Some-rows_of.rows in
    let count : ℕ = c.args.end - c.args.first in
    let image = source_image c.args.f c.requires.sound in
    let wide : (picture_in k.f).width ≡ (picture_in c.args.f).width = ap (λ (a : ArrayImage). (picture_in a).width) c.in-Some-composition_of.ensures.image in
    let top : (picture_in k.f).maxval ≤ g.P.Pixel.top_level = omega (arith, m.maxval, ap (λ (a : ArrayImage). (picture_in a).maxval) c.in-Some-composition_of.ensures.image) in
    c.put_strips.ensures.taken top (λ r across high.
    let size = first_size (picture_in k.f).width rows count r.height (omega (arith, m.wide, wide)) (omega (arith, wide, image.width.1)) m.some c.in-Some-rows_of.ensures.many high in
    let broad : 128 ≤ r.width = omega (arith, across, wide, m.wide) in
    let many : 8192 ≤ r.width * r.height = subst (λ (t : ℕ). 8192 ≤ t * r.height) (sym across) size.1 in
    subst (λ (x : Composite). SuitComposite x r) (sym c.in-Some-composition_of.ensures.composite)
    (near_suits (first_rule c.args.composite) r m.first_is broad size.0 many, near_suits (last_rule c.args.composite) r m.last_is broad size.0 many))
