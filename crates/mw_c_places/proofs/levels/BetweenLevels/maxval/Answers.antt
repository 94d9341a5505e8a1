use Rattle.std.proofs.Common.{◌≡◌, refl, sym, subst}
use Rattle.mw_c_arrays.specs.Sources.{picture_in}
use Rattle.mw_c_lent.specs.declared.rules.Rule.{Rule}
use Rattle.mw_c_lent.specs.Rules.{rule_picture}
use Rattle.mw_c_places.proofs.levels.BetweenLevels.maxval.Goals as goal

pub returns-in-Least : goal.returns-in-Least
returns-in-Least c = subst (λ (r : Rule). c.maxval.result ≡ (rule_picture r (picture_in c.args.self.now.f)).maxval) (sym c.in-Least.is) c.maxval.ensures

pub returns-in-Greatest : goal.returns-in-Greatest
returns-in-Greatest c = subst (λ (r : Rule). c.maxval-in-Greatest.result ≡ (rule_picture r (picture_in c.args.self.now.f)).maxval) (sym c.in-Greatest.is) c.maxval-in-Greatest.ensures

pub returns-in-LeastBox : goal.returns-in-LeastBox
returns-in-LeastBox c = subst (λ (r : Rule). c.maxval-in-LeastBox.result ≡ (rule_picture r (picture_in c.args.self.now.f)).maxval) (sym c.in-LeastBox.is) c.maxval-in-LeastBox.ensures

pub returns-in-GreatestBox : goal.returns-in-GreatestBox
returns-in-GreatestBox c = subst (λ (r : Rule). c.maxval-in-GreatestBox.result ≡ (rule_picture r (picture_in c.args.self.now.f)).maxval) (sym c.in-GreatestBox.is) c.maxval-in-GreatestBox.ensures

pub returns-in-Nth : goal.returns-in-Nth
returns-in-Nth c = subst (λ (r : Rule). c.maxval-in-Nth.result ≡ (rule_picture r (picture_in c.args.self.now.f)).maxval) (sym c.in-Nth.is) c.maxval-in-Nth.ensures

pub returns-in-AtLeast : goal.returns-in-AtLeast
returns-in-AtLeast c = subst (λ (r : Rule). 1 ≡ (rule_picture r (picture_in c.args.self.now.f)).maxval) (sym c.in-AtLeast.is) refl
