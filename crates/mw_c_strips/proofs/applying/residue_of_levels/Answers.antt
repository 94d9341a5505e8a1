use Rattle.std.proofs.Common.{◌≡◌, ℕ, List, map, ap, sym, subst, refl, ◌∙◌}
use Rattle.std.proofs.lemmas.Result.{IfOk-weaker}
use Rattle.mw_model.specs.Pictures.{Picture}
use Rattle.mw_c_arrays.specs.Sources.{picture_in}
use Rattle.mw_c_arrays.proofs.SourceImages.{source_image}
use Rattle.mw_c_forms.specs.Forms.{rest_picture}
use Rattle.mw_c_layers.specs.Layers.{rule_picture}
use Rattle.mw_c_strips.proofs.Filtered.{fills, in_turn_shape, refilled_image, refilled_is, rule_shape}
use Rattle.mw_c_strips.proofs.applying.residue_of_levels.Goals as goal

pub put_left_over-requires : goal.put_left_over-requires
put_left_over-requires g c = record { sound = c.requires.sound; room = c.requires.room ∙ fills c.args.f c.requires.sound }

pub write_left_over-requires : goal.write_left_over-requires
write_left_over-requires g c = record {
  sound = c.requires.sound;
  room = c.put_left_over.auto.out ∙ c.requires.room ∙ fills c.args.f c.requires.sound;
  first = c.requires.first;
  second = c.requires.second;
  stands = c.requires.stands;
}

pub left_over-requires : goal.left_over-requires
left_over-requires g c =
    let f = picture_in c.args.f in
    record {
      sound = c.requires.sound;
      layer = c.requires.sound;
      alike = in_turn_shape c.args.first c.args.second f (rule_picture c.args.first f) c.requires.first c.requires.second refl;
      room = c.write_left_over.auto.out ∙ c.put_left_over.auto.out ∙ c.requires.room;
      stands = c.requires.stands;
    }

pub levels_made-requires : goal.levels_made-requires
levels_made-requires g c =
    let shape = rule_shape c.args.first (picture_in c.args.f) c.requires.first in
    record { sound = c.requires.sound; grey = shape.kind ∙ c.requires.grey; stands = subst (λ (m : ℕ). g.P.Sample.stands m) (sym shape.maxval) c.requires.stands }

pub like-between-requires : goal.like-between-requires
like-between-requires g c =
    let f = picture_in c.args.f in
    let samples = map g.P.Pixel.level c.as_slice.result.now in
    let same : samples ≡ (rule_picture c.args.first f).samples = ap (λ (xs : List _). map g.P.Pixel.level xs) c.as_slice.ensures.value ∙ c.in_ok-plane.ensures in
    record { sound = c.requires.sound; stands = c.requires.stands; image = refilled_image c.args.first f samples c.requires.first (source_image c.args.f c.requires.sound) same }

pub left_over-requires-2 : goal.left_over-requires-2
left_over-requires-2 g c =
    let f = picture_in c.args.f in
    let between = picture_in c.like-between.result in
    let samples = map g.P.Pixel.level c.as_slice.result.now in
    let same : samples ≡ (rule_picture c.args.first f).samples = ap (λ (xs : List _). map g.P.Pixel.level xs) c.as_slice.ensures.value ∙ c.in_ok-plane.ensures in
    let is : between ≡ rule_picture c.args.first f = c.like-between.ensures.image ∙ refilled_is c.args.first f samples c.requires.first same in
    record {
      sound = c.requires.sound;
      layer = c.like-between.ensures.sound;
      alike = in_turn_shape c.args.first c.args.second f between c.requires.first c.requires.second is;
      room = c.write_left_over.auto.out ∙ c.put_left_over.auto.out ∙ c.requires.room;
      stands = c.requires.stands;
    }

pub returns-clause-made : goal.returns-clause-made
returns-clause-made g c =
    let level = g.P.Pixel.level in
    let f = picture_in c.args.f in
    let out = c.left_over-2.new.out in
    let between = picture_in c.like-between.result in
    let samples = map level c.as_slice.result.now in
    let same : samples ≡ (rule_picture c.args.first f).samples = ap (λ (xs : List _). map level xs) c.as_slice.ensures.value ∙ c.in_ok-plane.ensures in
    let is : between ≡ rule_picture c.args.first f = c.like-between.ensures.image ∙ refilled_is c.args.first f samples c.requires.first same in
    IfOk-weaker c.left_over-2.result (λ _. map level out ≡ (rest_picture c.args.rest f (rule_picture c.args.second between)).samples) (λ _. map level out ≡ (rest_picture c.args.rest f (rule_picture c.args.second (rule_picture c.args.first f))).samples)
    (λ _ made. made ∙ ap (λ (p : Picture). (rest_picture c.args.rest f (rule_picture c.args.second p)).samples) is) c.left_over-2.ensures.made
