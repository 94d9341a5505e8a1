use Rattle.std.proofs.Common.{◌≡◌, ℕ, ◌+◌, ◌-◌, ◌*◌, ◌≤◌, true, map, length, refl, ap, sym, subst, arith, ◌∙◌}
use Rattle.std.proofs.lemmas.Result.{IfOk-weaker}
use borrow.Rule.Slice.PartMut.{put_mid}
use Rattle.mw_model.specs.declared.offsets.Rect.{Rect}
use Rattle.mw_model.specs.Pictures.{Picture, sample}
use Rattle.mw_model.specs.Tasks.{cells_in}
use Rattle.mw_c_arrays.specs.Sources.{picture_in}
use Rattle.mw_c_arrays.proofs.SourceImages.{source_image}
use Rattle.mw_c_lent.specs.InPlace.{IsWholeView}
use Rattle.mw_c_lent.specs.Rows.{HasImageRows, IsStrip}
use Rattle.mw_c_lent.specs.Rules.{rule_picture}
use Rattle.mw_c_lent.proofs.Steps.{rule_is_picture, strip_above}
use Rattle.mw_c_lent.proofs.Stood.{fewer_rows, rows_behind, two_parts}
use Rattle.mw_c_lent.proofs.InStrips.{rule_more_rows}
use Rattle.mw_c_lent.proofs.lacking.make_lacking.Goals as goal

pub slice_bounds-rows-end : goal.slice_bounds-rows-end
slice_bounds-rows-end g c =
    let s = c.args.standing in
    let from = c.made_from-from.result in
    let m = c.width-width.result in
    let held : (c.args.end - s.from) * m ≤ length c.args.between.now = subst (λ (t : ℕ). (c.args.end - s.from) * t ≤ length c.args.between.now) (sym c.width-width.ensures) c.requires.held in
    omega (arith, held, two_parts s.from from c.args.end m c.made_from-from.ensures.behind (omega (arith, c.made_from-from.ensures.before)))

pub returns-then-standing-end-clause-made : goal.returns-then-standing-end-clause-made
returns-then-standing-end-clause-made g c = λ yes.
    let s = c.args.standing in
    fewer_rows g.P.Pixel.level (rule_picture c.args.source.rule (picture_in c.args.source.f)) s.from s.to c.args.end c.args.between.now (omega arith) c.requires.stands

pub returns-clause-made : goal.returns-clause-made
returns-clause-made g c =
    let level = g.P.Pixel.level in
    let rule = c.args.source.rule in
    let f = picture_in c.args.source.f in
    let s = c.args.standing in
    let m = c.width-width.result in
    let end = c.args.end in
    let from = c.made_from-from.result in
    let before = c.made_from-from.ensures.before in
    let behind = c.made_from-from.ensures.behind in
    let old = c.args.between.now in
    let part = c.put_tile.new.out in
    let tile : Rect = record { x = 0; y = from; width = m; height = end - from } in
    let strip : IsStrip tile f = record { left = refl; wide = c.width-width.ensures; some = omega (arith, before); low = omega (arith, before, c.requires.low) } in
    let held : (end - s.from) * m ≤ length old = subst (λ (t : ℕ). (end - s.from) * t ≤ length old) (sym c.width-width.ensures) c.requires.held in
    let a : ℕ = (from - s.from) * m in
    let k : ℕ = (end - from) * m in
    let same : a + k - a ≡ k = omega arith in
    IfOk-weaker c.put_tile.result (λ done. done ≡ true → (h : Picture) → IsWholeView level c.args.lent.now h → IsStrip tile h → h.maxval ≡ c.maxval.result → map level part ≡ cells_in tile (sample (rule_picture rule h)))
    (λ done. done ≡ true → HasImageRows level (rule_picture rule f) s.from end (put_mid a (a + k - a) old part))
    (λ done is yes.
    rows_behind level (rule_picture rule f) tile s.from end old part (put_mid a (a + k - a) old part) (strip_above rule f tile strip) (rule_is_picture rule f (source_image c.args.source.f c.requires.sound).picture).size behind (omega (arith, before))
    (omega (arith, held, two_parts s.from from end m behind (omega (arith, before)))) (is yes f c.requires.view strip (sym c.maxval.ensures)) (ap (λ (n : ℕ). put_mid a n old part) same)
    (fewer_rows level (rule_picture rule f) s.from s.to from old before c.requires.stands))
    c.put_tile.ensures.made

pub returns-clause-taken : goal.returns-clause-taken
returns-clause-taken g c = λ none fits r across low suit.
    let from = c.made_from-from.result in
    let tile : Rect = record { x = 0; y = from; width = c.width-width.result; height = c.args.end - from } in
    c.put_tile.ensures.taken (omega (arith, fits, c.maxval.ensures)) (rule_more_rows c.args.source.rule r tile suit (across ∙ sym c.width-width.ensures) (omega (arith, low, none, c.made_from-from.ensures.before)))
