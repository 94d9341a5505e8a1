use Rattle.std.proofs.Common.{◌≡◌, ◌<◌, sym, subst}
use Rattle.mw_model.specs.Pictures.{sample}
use Rattle.mw_c_layers.specs.Origins.{IsOrigin}
use Rattle.mw_c_layers.specs.declared.layers.Layer.{Layer}
use Rattle.mw_c_layers.specs.Layers.{layer_picture, origin_of}
use Rattle.mw_c_layers.proofs.OriginImages.{between_image}
use Rattle.mw_c_strips.proofs.by_pixel.layer_at.Goals as goal

pub level_in-requires : goal.level_in-requires
level_in-requires c = record {
  sound = subst (λ (l : Layer). IsOrigin (origin_of l)) c.in-Itself.is c.requires.sound;
  across = subst (λ (l : Layer). c.args.x < (layer_picture l).width) c.in-Itself.is c.requires.across;
  down = subst (λ (l : Layer). c.args.y < (layer_picture l).height) c.in-Itself.is c.requires.down;
}

pub returns-in-Itself : goal.returns-in-Itself
returns-in-Itself c = subst (λ (l : Layer). c.level_in.result ≡ sample (layer_picture l) c.args.x c.args.y) (sym c.in-Itself.is) c.level_in.ensures

pub by_rule_at-requires : goal.by_rule_at-requires
by_rule_at-requires c = record {
  sound = subst (λ (l : Layer). IsOrigin (origin_of l)) c.in-By.is c.requires.sound;
  across = subst (λ (l : Layer). c.args.x < (layer_picture l).width) c.in-By.is c.requires.across;
  down = subst (λ (l : Layer). c.args.y < (layer_picture l).height) c.in-By.is c.requires.down;
}

pub returns-in-By : goal.returns-in-By
returns-in-By c = subst (λ (l : Layer). c.by_rule_at.result ≡ sample (layer_picture l) c.args.x c.args.y) (sym c.in-By.is) c.by_rule_at.ensures

pub made_at-requires : goal.made_at-requires
made_at-requires c = record {
  sound = subst (λ (l : Layer). IsOrigin (origin_of l)) c.in-Twice.is c.requires.sound;
  image = between_image c.in-Twice.first c.in-Twice.f (subst (λ (l : Layer). IsOrigin (origin_of l)) c.in-Twice.is c.requires.sound);
  across = subst (λ (l : Layer). c.args.x < (layer_picture l).width) c.in-Twice.is c.requires.across;
  down = subst (λ (l : Layer). c.args.y < (layer_picture l).height) c.in-Twice.is c.requires.down;
}

pub returns-in-Twice : goal.returns-in-Twice
returns-in-Twice c = subst (λ (l : Layer). c.made_at.result ≡ sample (layer_picture l) c.args.x c.args.y) (sym c.in-Twice.is) c.made_at.ensures
