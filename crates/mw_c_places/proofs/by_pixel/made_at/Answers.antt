use Rattle.std.proofs.Common.{◌≡◌, ◌∙◌, sym, subst}
use Rattle.std.specs.Arc.{arc_value}
use Rattle.mw_model.specs.Pictures.{sample}
use Rattle.mw_c_lent.specs.declared.rules.Rule.{Rule}
use Rattle.mw_c_lent.specs.Rules.{rule_picture}
use Rattle.mw_c_lent.proofs.Steps.{greatest_box_there, greatest_there, least_box_there, least_there, ranked_there}
use Rattle.mw_c_places.proofs.PixelValues.{upper_there}
use Rattle.mw_c_places.proofs.by_pixel.made_at.Goals as goal

pub returns-in-Least : goal.returns-in-Least
returns-in-Least g c =
    let f = g.S.Levels.image c.args.f.now in
    subst (λ (r : Rule). c.least_under.result ≡ sample (rule_picture r f) c.args.x c.args.y) (sym c.in-Least.is)
    (least_there (arc_value c.in-Least.element.now).offsets c.offsets_of.result.now f c.args.x c.args.y c.least_under.result c.requires.across c.requires.down c.offsets_of.ensures.value c.least_under.ensures)

pub returns-in-Greatest : goal.returns-in-Greatest
returns-in-Greatest g c =
    let f = g.S.Levels.image c.args.f.now in
    subst (λ (r : Rule). c.greatest_under.result ≡ sample (rule_picture r f) c.args.x c.args.y) (sym c.in-Greatest.is)
    (greatest_there (arc_value c.in-Greatest.element.now).offsets c.offsets_of-in-Greatest.result.now f c.args.x c.args.y c.greatest_under.result c.requires.across c.requires.down c.offsets_of-in-Greatest.ensures.value c.greatest_under.ensures)

pub returns-in-LeastBox : goal.returns-in-LeastBox
returns-in-LeastBox g c =
    let f = g.S.Levels.image c.args.f.now in
    subst (λ (r : Rule). c.least_in_box.result ≡ sample (rule_picture r f) c.args.x c.args.y) (sym c.in-LeastBox.is)
    (least_box_there c.in-LeastBox.offsets f c.args.x c.args.y c.least_in_box.result c.requires.across c.requires.down c.least_in_box.ensures)

pub returns-in-GreatestBox : goal.returns-in-GreatestBox
returns-in-GreatestBox g c =
    let f = g.S.Levels.image c.args.f.now in
    subst (λ (r : Rule). c.greatest_in_box.result ≡ sample (rule_picture r f) c.args.x c.args.y) (sym c.in-GreatestBox.is)
    (greatest_box_there c.in-GreatestBox.offsets f c.args.x c.args.y c.greatest_in_box.result c.requires.across c.requires.down c.greatest_in_box.ensures)

pub returns-in-Nth : goal.returns-in-Nth
returns-in-Nth g c =
    let f = g.S.Levels.image c.args.f.now in
    subst (λ (r : Rule). c.nth_under.result ≡ sample (rule_picture r f) c.args.x c.args.y) (sym c.in-Nth.is)
    (ranked_there (arc_value c.in-Nth.element.now).offsets c.offsets_of-in-Nth.result.now c.in-Nth.k f c.args.x c.args.y c.nth_under.result c.requires.across c.requires.down c.offsets_of-in-Nth.ensures.value c.nth_under.ensures)

pub returns-in-AtLeast : goal.returns-in-AtLeast
returns-in-AtLeast g c =
    let f = g.S.Levels.image c.args.f.now in
    subst (λ (r : Rule). c.one_if.result ≡ sample (rule_picture r f) c.args.x c.args.y) (sym c.in-AtLeast.is)
    (upper_there c.in-AtLeast.k f c.args.x c.args.y c.from.result c.one_if.result c.requires.across c.requires.down (c.from.ensures ∙ c.level_in.ensures) c.one_if.ensures)
