use Rattle.std.proofs.Common.{◌≡◌, true, map, ap, sym, ◌∙◌}
use Rattle.std.proofs.lemmas.Result.{IfOk-weaker}
use Rattle.mw_model.specs.Flat.{minus}
use Rattle.mw_c_arrays.specs.Sources.{picture_in}
use Rattle.mw_c_forms.specs.declared.forms.Rest.{Rest}
use Rattle.mw_c_forms.specs.Forms.{rest_picture}
use Rattle.mw_c_layers.specs.Layers.{rule_picture}
use Rattle.mw_c_strips.proofs.applying.put_left_over.Goals as goal

pub returns-in-Taken-clause-made : goal.returns-in-Taken-clause-made
returns-in-Taken-clause-made g c =
    let level = g.P.Pixel.level in
    let f = picture_in c.args.f in
    let h = rule_picture c.args.second (rule_picture c.args.first f) in
    let out = c.put_what_is_taken.new.out in
    IfOk-weaker c.put_what_is_taken.result (λ done. done ≡ true → map level out ≡ (minus f h).samples) (λ done. done ≡ true → map level out ≡ (rest_picture c.args.rest f h).samples)
    (λ done made is. made is ∙ ap (λ (x : Rest). (rest_picture x f h).samples) (sym c.in-Taken.is)) c.put_what_is_taken.ensures.made

pub returns-in-Added-clause-made : goal.returns-in-Added-clause-made
returns-in-Added-clause-made g c =
    let level = g.P.Pixel.level in
    let f = picture_in c.args.f in
    let h = rule_picture c.args.second (rule_picture c.args.first f) in
    let out = c.put_what_is_added.new.out in
    IfOk-weaker c.put_what_is_added.result (λ done. done ≡ true → map level out ≡ (minus h f).samples) (λ done. done ≡ true → map level out ≡ (rest_picture c.args.rest f h).samples)
    (λ done made is. made is ∙ ap (λ (x : Rest). (rest_picture x f h).samples) (sym c.in-Added.is)) c.put_what_is_added.ensures.made
