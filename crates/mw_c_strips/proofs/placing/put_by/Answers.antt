use Rattle.std.proofs.Common.{◌≡◌, true, map, length, ap, sym, subst, ◌∙◌}
use Rattle.std.proofs.lemmas.Result.{IfOk-weaker}
use Rattle.mw_model.specs.Pictures.{sample}
use Rattle.mw_model.specs.Tasks.{cells_in}
use Rattle.mw_c_arrays.specs.Sources.{IsArrayImage, picture_in}
use Rattle.mw_c_lent.specs.Rows.{IsStrip, rows_from}
use Rattle.mw_c_lent.specs.Rules.{rule_picture}
use Rattle.mw_c_layers.specs.declared.origins.Origin.{Origin}
use Rattle.mw_c_layers.specs.Origins.{IsOrigin, origin_picture}
use Rattle.mw_c_strips.proofs.Placed.{middle_end, middle_made}
use Rattle.mw_c_strips.proofs.placing.put_by.Goals as goal

pub put_middle-requires-clause-rows : goal.put_middle-requires-clause-rows
put_middle-requires-clause-rows g c =
    let strip : IsStrip c.args.strip (picture_in c.in-Array.f) = subst (λ (o : Origin). IsStrip c.args.strip (origin_picture o)) c.in-Array.is c.requires.strip in
    middle_end c.middle.result c.in-Array.f c.args.strip (length c.args.out.now) c.middle.ensures.image c.middle.ensures.from c.middle.ensures.to strip c.requires.room

pub returns-in-Array-clause-made : goal.returns-in-Array-clause-made
returns-in-Array-clause-made g c =
    let level = g.P.Pixel.level in
    let r = c.args.strip in
    let out = c.put_middle.new.out in
    let m = c.middle.result in
    let n = length c.args.out.now in
    let sound : IsArrayImage c.in-Array.f = subst (λ (o : Origin). IsOrigin o) c.in-Array.is c.requires.sound in
    let strip : IsStrip r (picture_in c.in-Array.f) = subst (λ (o : Origin). IsStrip r (origin_picture o)) c.in-Array.is c.requires.strip in
    IfOk-weaker c.put_middle.result (λ done. done ≡ true → map level out ≡ rows_from m.from n (rule_picture m.rule (picture_in m.f)))
    (λ done. done ≡ true → map level out ≡ cells_in r (sample (rule_picture c.args.rule (origin_picture c.args.f))))
    (λ done is yes.
    middle_made level out m c.args.rule c.in-Array.f r n c.middle.ensures.rule c.middle.ensures.image c.middle.ensures.from sound strip c.requires.room (is yes)
    ∙ ap (λ (o : Origin). cells_in r (sample (rule_picture c.args.rule (origin_picture o)))) (sym c.in-Array.is))
    c.put_middle.ensures.made
