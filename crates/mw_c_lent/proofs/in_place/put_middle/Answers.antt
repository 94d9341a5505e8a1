use Rattle.std.proofs.Common.{sym, ◌≡◌, ℕ, ◌-◌, true, map, length, arith, refl, ap, subst, ◌∙◌}
use Rattle.std.proofs.lemmas.Result.{IfOk-weaker}
use Rattle.mw_model.specs.declared.offsets.Rect.{Rect}
use Rattle.mw_model.specs.Pictures.{Picture, sample}
use Rattle.mw_model.specs.Rectangles.{rect}
use Rattle.mw_model.specs.Tasks.{cells_in}
use Rattle.mw_model.specs.Windows.{View}
use Rattle.mw_c_arrays.specs.Sources.{picture_in}
use Rattle.mw_c_arrays.proofs.SourceImages.{source_image}
use Rattle.mw_c_lent.specs.InPlace.{IsWholeView}
use Rattle.mw_c_lent.specs.Rules.{rule_picture}
use Rattle.mw_c_lent.specs.Rows.{IsStrip, rows_from}
use Rattle.mw_c_lent.specs.Suited.{SuitPlace, middle_tile}
use Rattle.mw_c_lent.proofs.Steps.{rule_is_picture, strip_above}
use Rattle.mw_c_lent.proofs.Rows.{between_count, strip_rows}
use Rattle.mw_c_lent.proofs.Views.{whole_count, whole_is}
use Rattle.mw_c_lent.proofs.in_place.put_middle.Goals as goal

pub new-lent-requires : goal.new-lent-requires
new-lent-requires g c =
    let f = picture_in c.args.middle.f in
    record {
      within = c.whole_frame.ensures.within;
      size = whole_count g.P.Pixel.level f c.width-width.result c.height-height.result c.whole_frame.result c.in-Some.samples.now (source_image c.args.middle.f c.requires.sound).picture.size c.width-width.ensures c.height-height.ensures c.whole_frame.ensures.value c.in-Some.ensures.samples;
    }

pub put_tile-requires : goal.put_tile-requires
put_tile-requires g c =
    let m = c.args.middle in
    record { room = between_count m.from m.to c.width-width.result (picture_in m.f).width (length c.args.out.now) c.requires.rows.some c.width-width.ensures c.requires.rows.samples }

pub returns-clause-made : goal.returns-clause-made
returns-clause-made g c =
    let level = g.P.Pixel.level in
    let m = c.args.middle in
    let f = picture_in m.f in
    let made = rule_picture m.rule f in
    let out = c.put_tile.new.out in
    let count = length c.args.out.now in
    let w = c.new-lent.result in
    let image = source_image m.f c.requires.sound in
    let tile : Rect = record { x = 0; y = m.from; width = c.width-width.result; height = m.to - m.from } in
    let strip : IsStrip tile f = record { left = refl; wide = c.width-width.ensures; some = omega (arith, c.requires.rows.some); low = omega (arith, c.requires.rows.some, c.requires.rows.within) } in
    let whole : IsWholeView level w f = whole_is level w f c.width-width.result c.height-height.result c.whole_frame.result c.in-Some.samples.now c.width-width.ensures c.height-height.ensures c.whole_frame.ensures.value c.new-lent.ensures c.in-Some.ensures.samples image.picture.size in
    IfOk-weaker c.put_tile.result (λ done. done ≡ true → (h : Picture) → IsWholeView level w h → IsStrip tile h → h.maxval ≡ c.maxval.result → map level out ≡ cells_in tile (sample (rule_picture m.rule h)))
    (λ done. done ≡ true → map level out ≡ rows_from m.from count made)
    (λ done is yes. is yes f whole strip (sym c.maxval.ensures)
    ∙ strip_rows made tile count (strip_above m.rule f tile strip) (rule_is_picture m.rule f image.picture).size
    (between_count m.from m.to c.width-width.result f.width count c.requires.rows.some c.width-width.ensures c.requires.rows.samples))
    c.put_tile.ensures.made

pub returns-in_default-clause-taken : goal.returns-in_default-clause-taken
returns-in_default-clause-taken g c = λ suit. absurd (c.in_default.ensures.none suit.levels)

pub returns-clause-taken : goal.returns-clause-taken
returns-clause-taken g c = λ suit.
    let level = g.P.Pixel.level in
    let m = c.args.middle in
    let f = picture_in m.f in
    let w = c.new-lent.result in
    let image = source_image m.f c.requires.sound in
    let tile : Rect = record { x = 0; y = m.from; width = c.width-width.result; height = m.to - m.from } in
    let whole : IsWholeView level w f = whole_is level w f c.width-width.result c.height-height.result c.whole_frame.result c.in-Some.samples.now c.width-width.ensures c.height-height.ensures c.whole_frame.ensures.value c.new-lent.ensures c.in-Some.ensures.samples image.picture.size in
    let there : middle_tile m ≡ tile = ap (λ (n : ℕ). rect 0 m.from n (m.to - m.from)) (sym c.width-width.ensures) in
    c.put_tile.ensures.lent (omega (arith, suit.maxval, c.maxval.ensures))
    (subst (λ (r : Rect). SuitPlace w.place m.rule r) there (subst (λ (p : Rect). SuitPlace p m.rule (middle_tile m)) (sym (ap (λ (v : View _). v.place) whole.view)) suit.rule))
