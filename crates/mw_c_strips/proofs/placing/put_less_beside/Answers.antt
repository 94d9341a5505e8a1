use Rattle.std.proofs.Common.{map}
use Rattle.mw_c_layers.specs.Layers.{layer_picture}
use Rattle.mw_c_lent.proofs.Lessened.{strip_less}
use Rattle.mw_c_strips.proofs.placing.put_less_beside.Goals as goal

pub returns-clause-made : goal.returns-clause-made
returns-clause-made g c = λ _.
    let level = g.P.Pixel.level in
    strip_less level (layer_picture c.args.first) (layer_picture c.args.second) c.args.strip c.subtract_row.new.row (map level c.put_layer-2.new.out) (map level c.put_layer.new.out) c.requires.strip c.subtract_row.ensures
    (c.in_ok-put_layer-2.ensures.made c.if-not-branch-2.false) (c.in_ok-put_layer.ensures.made c.if-not-branch.false)
