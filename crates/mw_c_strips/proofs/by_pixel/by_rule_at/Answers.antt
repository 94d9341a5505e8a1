use Rattle.std.proofs.Common.{◌≡◌, ◌<◌, sym, subst}
use Rattle.mw_model.specs.Pictures.{sample}
use Rattle.mw_c_arrays.proofs.SourceImages.{source_image}
use Rattle.mw_c_layers.specs.declared.origins.Origin.{Origin}
use Rattle.mw_c_layers.specs.Layers.{rule_picture}
use Rattle.mw_c_layers.specs.Origins.{IsOrigin, origin_picture}
use Rattle.mw_c_strips.proofs.by_pixel.by_rule_at.Goals as goal

pub made_at-requires : goal.made_at-requires
made_at-requires c =
    let sound = subst IsOrigin c.in-Array.is c.requires.sound in
    record {
      sound = sound;
      image = source_image c.in-Array.f sound;
      across = subst (λ (o : Origin). c.args.x < (origin_picture o).width) c.in-Array.is c.requires.across;
      down = subst (λ (o : Origin). c.args.y < (origin_picture o).height) c.in-Array.is c.requires.down;
    }

pub returns-in-Array : goal.returns-in-Array
returns-in-Array c = subst (λ (o : Origin). c.made_at.result ≡ sample (rule_picture c.args.rule (origin_picture o)) c.args.x c.args.y) (sym c.in-Array.is) c.made_at.ensures

pub made_at-requires-in-Made : goal.made_at-requires-in-Made
made_at-requires-in-Made c =
    let sound = subst IsOrigin c.in-Made.is c.requires.sound in
    record {
      sound = sound;
      image = sound;
      across = subst (λ (o : Origin). c.args.x < (origin_picture o).width) c.in-Made.is c.requires.across;
      down = subst (λ (o : Origin). c.args.y < (origin_picture o).height) c.in-Made.is c.requires.down;
    }

pub returns-in-Made : goal.returns-in-Made
returns-in-Made c = subst (λ (o : Origin). c.made_at-in-Made.result ≡ sample (rule_picture c.args.rule (origin_picture o)) c.args.x c.args.y) (sym c.in-Made.is) c.made_at-in-Made.ensures
