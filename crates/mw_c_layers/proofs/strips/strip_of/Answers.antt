use Rattle.std.proofs.Common.{◌≡◌, sym, subst}
use Rattle.std.specs.Prelude.{IfOk}
use Rattle.mw_c_layers.specs.declared.layers.Formula.{Formula}
use Rattle.mw_c_layers.specs.Layers.{IsFormula, formula_picture, layer_picture}
use Rattle.mw_c_layers.specs.Parts.{IsStrip, part_of}
use Rattle.mw_c_layers.proofs.Formulas.{strip_first}
use Rattle.mw_c_layers.proofs.strips.strip_of.Goals as goal

pub layer_strip-requires : goal.layer_strip-requires
layer_strip-requires c = record {
  sound = subst IsFormula c.in-One.is c.requires.sound;
  strip = subst (λ (x : Formula). IsStrip c.args.strip (formula_picture x)) c.in-One.is c.requires.strip;
}

pub returns-in-One : goal.returns-in-One
returns-in-One c = subst (λ (x : Formula). IfOk c.layer_strip.result (λ g. g ≡ part_of (formula_picture x) c.args.strip)) (sym c.in-One.is) c.layer_strip.ensures

pub strip_of_both-requires : goal.strip_of_both-requires
strip_of_both-requires c =
    let sound = subst IsFormula c.in-Less.is c.requires.sound in
    let strip = subst (λ (x : Formula). IsStrip c.args.strip (formula_picture x)) c.in-Less.is c.requires.strip in
    record { first = sound.0; second = sound.1; alike = sound.2; strip = strip_first (layer_picture c.in-Less.first) (layer_picture c.in-Less.second) c.args.strip strip }

pub returns-in-Less : goal.returns-in-Less
returns-in-Less c = subst (λ (x : Formula). IfOk c.strip_of_both.result (λ g. g ≡ part_of (formula_picture x) c.args.strip)) (sym c.in-Less.is) c.strip_of_both.ensures
