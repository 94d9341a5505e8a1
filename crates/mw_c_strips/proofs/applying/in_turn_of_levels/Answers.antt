use Rattle.std.proofs.Common.{◌≡◌, ℕ, List, map, ap, sym, subst, refl, ◌∙◌}
use Rattle.std.proofs.lemmas.Result.{IfOk-weaker}
use Rattle.mw_model.specs.Pictures.{Picture}
use Rattle.mw_c_arrays.specs.Sources.{picture_in}
use Rattle.mw_c_arrays.proofs.SourceImages.{source_image}
use Rattle.mw_c_layers.specs.Layers.{rule_picture}
use Rattle.mw_c_strips.proofs.Filtered.{fills, in_turn_shape, refilled_image, refilled_is, rule_shape, same_count}
use Rattle.mw_c_strips.proofs.applying.in_turn_of_levels.Goals as goal

pub put_two_steps-requires : goal.put_two_steps-requires
put_two_steps-requires g c = record { sound = c.requires.sound; room = c.requires.room ∙ fills c.args.f c.requires.sound }

pub write_composite-requires : goal.write_composite-requires
write_composite-requires g c =
    let f = picture_in c.args.f in
    let shape = in_turn_shape c.args.first c.args.second f (rule_picture c.args.first f) c.requires.first c.requires.second refl in
    record {
      image = c.requires.sound;
      sound = c.requires.sound;
      same = refl;
      size = c.put_two_steps.auto.out ∙ c.requires.room ∙ fills c.args.f c.requires.sound;
      stands = subst (λ (m : ℕ). g.P.Sample.stands m) (sym shape.maxval) c.requires.stands;
    }

pub write_all-requires : goal.write_all-requires
write_all-requires g c =
    let f = picture_in c.args.f in
    let shape = in_turn_shape c.args.first c.args.second f (rule_picture c.args.first f) c.requires.first c.requires.second refl in
    record {
      sound = c.requires.sound;
      size = c.write_composite.auto.out ∙ c.put_two_steps.auto.out ∙ c.requires.room ∙ fills c.args.f c.requires.sound;
      stands = subst (λ (m : ℕ). g.P.Sample.stands m) (sym shape.maxval) c.requires.stands;
    }

pub levels_made-requires : goal.levels_made-requires
levels_made-requires g c =
    let shape = rule_shape c.args.first (picture_in c.args.f) c.requires.first in
    record { sound = c.requires.sound; grey = shape.kind ∙ c.requires.grey; stands = subst (λ (m : ℕ). g.P.Sample.stands m) (sym shape.maxval) c.requires.stands }

pub like-between-requires : goal.like-between-requires
like-between-requires g c =
    let f = picture_in c.args.f in
    let samples = map g.P.Pixel.level c.as_slice.result.now in
    let same : samples ≡ (rule_picture c.args.first f).samples = ap (λ (xs : List _). map g.P.Pixel.level xs) c.as_slice.ensures.value ∙ c.in_ok-plane.ensures in
    record { sound = c.requires.sound; stands = c.requires.stands; image = refilled_image c.args.first f samples c.requires.first (source_image c.args.f c.requires.sound) same }

pub one-requires : goal.one-requires
one-requires g c =
    let f = picture_in c.args.f in
    let between = picture_in c.like-between.result in
    let samples = map g.P.Pixel.level c.as_slice.result.now in
    let same : samples ≡ (rule_picture c.args.first f).samples = ap (λ (xs : List _). map g.P.Pixel.level xs) c.as_slice.ensures.value ∙ c.in_ok-plane.ensures in
    let is : between ≡ rule_picture c.args.first f = c.like-between.ensures.image ∙ refilled_is c.args.first f samples c.requires.first same in
    let shape = in_turn_shape c.args.first c.args.second f between c.requires.first c.requires.second is in
    record {
      sound = c.like-between.ensures.sound;
      room = c.write_composite.auto.out ∙ c.put_two_steps.auto.out ∙ c.requires.room ∙ same_count c.args.f c.like-between.result samples c.requires.sound c.like-between.ensures.sound c.like-between.ensures.image;
      stands = subst (λ (m : ℕ). g.P.Sample.stands m) (sym shape.maxval) c.requires.stands;
    }

pub returns-clause-made : goal.returns-clause-made
returns-clause-made g c =
    let level = g.P.Pixel.level in
    let f = picture_in c.args.f in
    let out = c.one.new.out in
    let between = picture_in c.like-between.result in
    let samples = map level c.as_slice.result.now in
    let same : samples ≡ (rule_picture c.args.first f).samples = ap (λ (xs : List _). map level xs) c.as_slice.ensures.value ∙ c.in_ok-plane.ensures in
    let is : between ≡ rule_picture c.args.first f = c.like-between.ensures.image ∙ refilled_is c.args.first f samples c.requires.first same in
    IfOk-weaker c.one.result (λ _. map level out ≡ (rule_picture c.args.second between).samples) (λ _. map level out ≡ (rule_picture c.args.second (rule_picture c.args.first f)).samples)
    (λ _ made. made ∙ ap (λ (p : Picture). (rule_picture c.args.second p).samples) is) c.one.ensures.made
