use Rattle.std.proofs.Common.{◌≡◌, map, ap, sym, subst, ◌∙◌}
use Rattle.std.proofs.lemmas.Result.{IfOk-weaker}
use Rattle.mw_model.specs.Pictures.{IsImage, Picture}
use Rattle.mw_c_arrays.specs.Sources.{picture_in}
use Rattle.mw_c_arrays.proofs.SourceImages.{source_image}
use Rattle.mw_c_forms.specs.Forms.{rest_picture}
use Rattle.mw_c_layers.specs.Layers.{rule_picture}
use Rattle.mw_c_strips.proofs.Filtered.{in_turn_shape, rule_shape}
use Rattle.mw_c_layers.proofs.OriginImages.{between_image, set_top}
use Rattle.mw_c_strips.proofs.applying.residue_of_set.Goals as goal

pub set_made-requires : goal.set_made-requires
set_made-requires g c =
    let f = picture_in c.args.f in
    let shape = rule_shape c.args.first f c.requires.first in
    record { sound = c.requires.sound; set = shape.kind ∙ c.requires.set; top = shape.maxval ∙ set_top f (source_image c.args.f c.requires.sound) c.requires.set }

pub left_over-requires : goal.left_over-requires
left_over-requires g c =
    let f = picture_in c.args.f in
    let is = c.in_ok-image.ensures in
    record {
      sound = c.requires.sound;
      layer = subst IsImage (sym is) (between_image c.args.first c.args.f c.requires.sound);
      alike = in_turn_shape c.args.first c.args.second f c.in_ok-image.image c.requires.first c.requires.second is;
      room = c.requires.room;
      stands = c.requires.stands;
    }

pub returns-clause-made : goal.returns-clause-made
returns-clause-made g c =
    let level = g.P.Pixel.level in
    let f = picture_in c.args.f in
    let out = c.left_over.new.out in
    IfOk-weaker c.left_over.result (λ _. map level out ≡ (rest_picture c.args.rest f (rule_picture c.args.second c.in_ok-image.image)).samples) (λ _. map level out ≡ (rest_picture c.args.rest f (rule_picture c.args.second (rule_picture c.args.first f))).samples)
    (λ _ is. is ∙ ap (λ (p : Picture). (rest_picture c.args.rest f (rule_picture c.args.second p)).samples) c.in_ok-image.ensures) c.left_over.ensures.made
