use Rattle.std.proofs.Common.{◌≡◌, ℕ, true, map, refl, ap, sym, subst, ◌∙◌}
use Rattle.std.proofs.lemmas.Result.{IfOk-weaker}
use Rattle.mw_model.specs.Flat.{minus}
use Rattle.mw_c_arrays.specs.Sources.{picture_in}
use Rattle.mw_c_forms.specs.declared.forms.Rest.{Rest}
use Rattle.mw_c_forms.specs.Forms.{rest_picture}
use Rattle.mw_c_layers.specs.Layers.{rule_picture}
use Rattle.mw_c_strips.proofs.Filtered.{in_turn_shape}
use Rattle.mw_c_strips.proofs.applying.write_left_over.Goals as goal

pub write_composite-requires : goal.write_composite-requires
write_composite-requires g c =
    let f = picture_in c.args.f in
    record {
      image = c.requires.sound;
      sound = (c.requires.sound, c.requires.sound, in_turn_shape c.args.first c.args.second f (rule_picture c.args.first f) c.requires.first c.requires.second refl);
      same = refl;
      size = c.requires.room;
      stands = c.requires.stands;
    }

pub write_composite-requires-in-Added : goal.write_composite-requires-in-Added
write_composite-requires-in-Added g c =
    let f = picture_in c.args.f in
    let shape = in_turn_shape c.args.first c.args.second f (rule_picture c.args.first f) c.requires.first c.requires.second refl in
    record {
      image = c.requires.sound;
      sound = (c.requires.sound, c.requires.sound, record { kind = sym shape.kind; width = sym shape.width; height = sym shape.height; maxval = sym shape.maxval });
      same = refl;
      size = c.requires.room;
      stands = subst (λ (m : ℕ). g.P.Sample.stands m) (sym shape.maxval) c.requires.stands;
    }

pub returns-in-Taken-clause-made : goal.returns-in-Taken-clause-made
returns-in-Taken-clause-made g c =
    let level = g.P.Pixel.level in
    let f = picture_in c.args.f in
    let h = rule_picture c.args.second (rule_picture c.args.first f) in
    let out = c.write_composite.new.out in
    IfOk-weaker c.write_composite.result (λ done. done ≡ true → map level out ≡ (minus f h).samples) (λ done. done ≡ true → map level out ≡ (rest_picture c.args.rest f h).samples)
    (λ done made is. made is ∙ ap (λ (x : Rest). (rest_picture x f h).samples) (sym c.in-Taken.is)) c.write_composite.ensures.made

pub returns-in-Added-clause-made : goal.returns-in-Added-clause-made
returns-in-Added-clause-made g c =
    let level = g.P.Pixel.level in
    let f = picture_in c.args.f in
    let h = rule_picture c.args.second (rule_picture c.args.first f) in
    let out = c.write_composite-in-Added.new.out in
    IfOk-weaker c.write_composite-in-Added.result (λ done. done ≡ true → map level out ≡ (minus h f).samples) (λ done. done ≡ true → map level out ≡ (rest_picture c.args.rest f h).samples)
    (λ done made is. made is ∙ ap (λ (x : Rest). (rest_picture x f h).samples) (sym c.in-Added.is)) c.write_composite-in-Added.ensures.made
