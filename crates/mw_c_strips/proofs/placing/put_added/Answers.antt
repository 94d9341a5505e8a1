use Rattle.std.proofs.Common.{map}
use Rattle.mw_c_arrays.specs.Sources.{picture_in}
use Rattle.mw_c_layers.specs.Layers.{layer_picture}
use Rattle.mw_c_lent.proofs.Lessened.{strip_less}
use Rattle.mw_c_strips.proofs.placing.put_added.Goals as goal

pub returns-clause-made : goal.returns-clause-made
returns-clause-made g c = λ _.
    let level = g.P.Pixel.level in
    strip_less level (layer_picture c.args.layer) (picture_in c.args.f) c.args.strip c.subtract_row.new.row (map level c.put_layer.new.out) (map level c.in-Some.own.now) c.requires.strip c.subtract_row.ensures
    (c.in_ok-put_layer.ensures.made c.if-not-branch.false) c.in-Some.ensures.rows
