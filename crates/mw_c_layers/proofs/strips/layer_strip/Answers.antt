use Rattle.std.proofs.Common.{◌≡◌, sym, subst}
use Rattle.std.specs.Prelude.{IfOk}
use Rattle.mw_c_arrays.specs.Sources.{picture_in}
use Rattle.mw_c_layers.specs.Origins.{IsOrigin, origin_picture}
use Rattle.mw_c_layers.specs.declared.layers.Layer.{Layer}
use Rattle.mw_c_layers.specs.Layers.{layer_picture, origin_of, rule_picture}
use Rattle.mw_c_layers.specs.Parts.{IsStrip, part_of}
use Rattle.mw_c_layers.proofs.Formulas.{strip_below}
use Rattle.mw_c_layers.proofs.strips.layer_strip.Goals as goal

pub rows-requires : goal.rows-requires
rows-requires c = record {
  sound = subst (λ (l : Layer). IsOrigin (origin_of l)) c.in-Itself.is c.requires.sound;
  strip = subst (λ (l : Layer). IsStrip c.args.strip (layer_picture l)) c.in-Itself.is c.requires.strip;
}

pub returns-in-Itself : goal.returns-in-Itself
returns-in-Itself c = subst (λ (l : Layer). IfOk c.rows.result (λ g. g ≡ part_of (layer_picture l) c.args.strip)) (sym c.in-Itself.is) c.rows.ensures

pub by_rule-requires : goal.by_rule-requires
by_rule-requires c = record {
  sound = subst (λ (l : Layer). IsOrigin (origin_of l)) c.in-By.is c.requires.sound;
  strip = strip_below c.in-By.rule (origin_picture c.in-By.f) c.args.strip (subst (λ (l : Layer). IsStrip c.args.strip (layer_picture l)) c.in-By.is c.requires.strip);
}

pub returns-in-By : goal.returns-in-By
returns-in-By c = subst (λ (l : Layer). IfOk c.by_rule.result (λ g. g ≡ part_of (layer_picture l) c.args.strip)) (sym c.in-By.is) c.by_rule.ensures

pub by_two_rules-requires : goal.by_two_rules-requires
by_two_rules-requires c = record {
  sound = subst (λ (l : Layer). IsOrigin (origin_of l)) c.in-Twice.is c.requires.sound;
  strip =
      strip_below c.in-Twice.first (picture_in c.in-Twice.f) c.args.strip
      (strip_below c.in-Twice.second (rule_picture c.in-Twice.first (picture_in c.in-Twice.f)) c.args.strip (subst (λ (l : Layer). IsStrip c.args.strip (layer_picture l)) c.in-Twice.is c.requires.strip));
}

pub returns-in-Twice : goal.returns-in-Twice
returns-in-Twice c = subst (λ (l : Layer). IfOk c.by_two_rules.result (λ g. g ≡ part_of (layer_picture l) c.args.strip)) (sym c.in-Twice.is) c.by_two_rules.ensures
