use Rattle.std.proofs.Common.{◌≡◌, ℕ, ◌*◌, map, ap, sym, subst, ◌∙◌}
use Rattle.std.proofs.lemmas.Result.{IfOk-weaker}
use Rattle.mw_model.specs.Pictures.{IsImage, Picture}
use Rattle.mw_c_arrays.specs.Sources.{picture_in}
use Rattle.mw_c_arrays.proofs.SourceImages.{source_image}
use Rattle.mw_c_layers.specs.Layers.{rule_picture}
use Rattle.mw_c_strips.proofs.Filtered.{fills, in_turn_shape, rule_shape}
use Rattle.mw_c_layers.proofs.OriginImages.{between_image, set_top}
use Rattle.mw_c_strips.proofs.applying.in_turn_of_set.Goals as goal

pub set_made-requires : goal.set_made-requires
set_made-requires g c =
    let f = picture_in c.args.f in
    let shape = rule_shape c.args.first f c.requires.first in
    record { sound = c.requires.sound; set = shape.kind ∙ c.requires.set; top = shape.maxval ∙ set_top f (source_image c.args.f c.requires.sound) c.requires.set }

pub write_all-requires : goal.write_all-requires
write_all-requires g c =
    let f = picture_in c.args.f in
    let is = c.in_ok-image.ensures in
    let shape = in_turn_shape c.args.first c.args.second f c.in_ok-image.image c.requires.first c.requires.second is in
    record {
      sound = subst IsImage (sym is) (between_image c.args.first c.args.f c.requires.sound);
      size = c.requires.room ∙ fills c.args.f c.requires.sound ∙ ap (λ (p : Picture). p.height * p.width) (sym is);
      stands = subst (λ (m : ℕ). g.P.Sample.stands m) (sym shape.maxval) c.requires.stands;
    }

pub returns-clause-made : goal.returns-clause-made
returns-clause-made g c =
    let level = g.P.Pixel.level in
    let f = picture_in c.args.f in
    let out = c.write_all.new.out in
    IfOk-weaker c.write_all.result (λ _. map level out ≡ (rule_picture c.args.second c.in_ok-image.image).samples) (λ _. map level out ≡ (rule_picture c.args.second (rule_picture c.args.first f)).samples)
    (λ _ is. is ∙ ap (λ (p : Picture). (rule_picture c.args.second p).samples) c.in_ok-image.ensures) c.write_all.ensures.made
