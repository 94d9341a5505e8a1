use Rattle.std.proofs.Common.{◌≡◌, ◌<◌, sym, subst}
use Rattle.mw_model.specs.Pictures.{sample}
use Rattle.mw_c_layers.specs.declared.layers.Formula.{Formula}
use Rattle.mw_c_layers.specs.Layers.{IsFormula, formula_picture, layer_picture}
use Rattle.mw_c_strips.proofs.PixelValues.{difference_there}
use Rattle.mw_c_strips.proofs.by_pixel.level_at.Goals as goal

pub layer_at-requires : goal.layer_at-requires
layer_at-requires c = record {
  sound = subst IsFormula c.in-One.is c.requires.sound;
  across = subst (λ (x : Formula). c.args.x < (formula_picture x).width) c.in-One.is c.requires.across;
  down = subst (λ (x : Formula). c.args.y < (formula_picture x).height) c.in-One.is c.requires.down;
}

pub returns-in-One : goal.returns-in-One
returns-in-One c = subst (λ (x : Formula). c.layer_at.result ≡ sample (formula_picture x) c.args.x c.args.y) (sym c.in-One.is) c.layer_at.ensures

pub returns-in-Less : goal.returns-in-Less
returns-in-Less c =
    let a = layer_picture c.in-Less.first in
    let b = layer_picture c.in-Less.second in
    let across : c.args.x < a.width = subst (λ (x : Formula). c.args.x < (formula_picture x).width) c.in-Less.is c.requires.across in
    let down : c.args.y < a.height = subst (λ (x : Formula). c.args.y < (formula_picture x).height) c.in-Less.is c.requires.down in
    subst (λ (x : Formula). c.saturating_sub.result ≡ sample (formula_picture x) c.args.x c.args.y) (sym c.in-Less.is)
    (difference_there a b c.args.x c.args.y c.layer_at-in-Less.result c.layer_at-in-Less-2.result c.saturating_sub.result across down c.layer_at-in-Less.ensures c.layer_at-in-Less-2.ensures c.saturating_sub.ensures)
