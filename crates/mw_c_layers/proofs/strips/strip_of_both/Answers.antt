use Rattle.std.proofs.Common.{◌≡◌, ◌∙◌}
use Rattle.std.proofs.lemmas.Result.{IfOk-weaker}
use Rattle.mw_model.specs.Flat.{minus}
use Rattle.mw_model.specs.Pictures.{Picture}
use Rattle.mw_c_layers.specs.Layers.{layer_picture}
use Rattle.mw_c_layers.specs.Parts.{part_of}
use Rattle.mw_c_layers.proofs.Cutting.{part_minus}
use Rattle.mw_c_layers.proofs.Formulas.{layer_sides, part_sides, parts_alike}
use Rattle.mw_c_layers.proofs.strips.strip_of_both.Goals as goal

pub less-requires : goal.less-requires
less-requires c =
    let f = layer_picture c.args.first in
    let h = layer_picture c.args.second in
    let sides = part_sides f c.in_ok-upper.upper c.args.strip c.requires.strip (layer_sides c.args.first c.requires.first) c.in_ok-upper.ensures in
    record { alike = parts_alike f h c.in_ok-upper.upper c.in_ok-lower.lower c.args.strip c.requires.alike c.in_ok-upper.ensures c.in_ok-lower.ensures; wide = sides.wide; high = sides.high }

pub returns-then-is_itself : goal.returns-then-is_itself
returns-then-is_itself c =
    let f = layer_picture c.args.first in
    let h = layer_picture c.args.second in
    IfOk-weaker c.less.result (λ (g : Picture). g ≡ minus c.in_ok-upper.upper c.in_ok-lower.lower) (λ (g : Picture). g ≡ part_of (minus f h) c.args.strip)
    (λ g e. e ∙ part_minus f h c.in_ok-upper.upper c.in_ok-lower.lower c.args.strip c.requires.alike c.requires.strip c.in_ok-upper.ensures c.in_ok-lower.ensures) c.less.ensures

pub less-requires-2 : goal.less-requires-2
less-requires-2 c =
    let f = layer_picture c.args.first in
    let h = layer_picture c.args.second in
    let sides = part_sides f c.in_ok-a.a c.args.strip c.requires.strip (layer_sides c.args.first c.requires.first) c.in_ok-a.ensures in
    record { alike = parts_alike f h c.in_ok-a.a c.in_ok-b.b c.args.strip c.requires.alike c.in_ok-a.ensures c.in_ok-b.ensures; wide = sides.wide; high = sides.high }

pub returns : goal.returns
returns c =
    let f = layer_picture c.args.first in
    let h = layer_picture c.args.second in
    IfOk-weaker c.less-2.result (λ (g : Picture). g ≡ minus c.in_ok-a.a c.in_ok-b.b) (λ (g : Picture). g ≡ part_of (minus f h) c.args.strip)
    (λ g e. e ∙ part_minus f h c.in_ok-a.a c.in_ok-b.b c.args.strip c.requires.alike c.requires.strip c.in_ok-a.ensures c.in_ok-b.ensures) c.less-2.ensures
