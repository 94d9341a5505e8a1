use Rattle.std.proofs.Common.{ℕ, refl, sym, subst, ◌∙◌}
use Rattle.mw_c_arrays.specs.Sources.{picture_in}
use Rattle.mw_c_strips.proofs.Filtered.{fills, less_alike, rule_shape}
use Rattle.mw_c_strips.proofs.applying.difference.Goals as goal

pub put_difference-requires : goal.put_difference-requires
put_difference-requires g c = record { sound = c.requires.sound; room = c.requires.room ∙ fills c.args.f c.requires.sound }

pub write_composite-requires : goal.write_composite-requires
write_composite-requires g c =
    let f = picture_in c.args.f in
    record {
      image = c.requires.sound;
      sound = (c.requires.sound, c.requires.sound, less_alike c.args.upper c.args.lower f c.requires.upper c.requires.lower);
      same = refl;
      size = c.put_difference.auto.out ∙ c.requires.room ∙ fills c.args.f c.requires.sound;
      stands = subst (λ (m : ℕ). g.P.Sample.stands m) (sym (rule_shape c.args.upper f c.requires.upper).maxval) c.requires.stands;
    }

pub write_all-requires : goal.write_all-requires
write_all-requires g c =
    let f = picture_in c.args.f in
    record {
      sound = (c.requires.sound, c.requires.sound, less_alike c.args.upper c.args.lower f c.requires.upper c.requires.lower);
      size = c.write_composite.auto.out ∙ c.put_difference.auto.out ∙ c.requires.room ∙ fills c.args.f c.requires.sound;
      stands = subst (λ (m : ℕ). g.P.Sample.stands m) (sym (rule_shape c.args.upper f c.requires.upper).maxval) c.requires.stands;
    }
