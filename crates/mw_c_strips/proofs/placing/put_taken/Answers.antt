use Rattle.std.proofs.Common.{map}
use Rattle.mw_c_arrays.specs.Sources.{picture_in}
use Rattle.mw_c_layers.specs.Layers.{layer_picture}
use Rattle.mw_c_lent.proofs.Lessened.{strip_less}
use Rattle.mw_c_strips.proofs.placing.put_taken.Goals as goal

pub returns-clause-made : goal.returns-clause-made
returns-clause-made g c = λ _.
    let level = g.P.Pixel.level in
    strip_less level (picture_in c.args.f) (layer_picture c.args.layer) c.args.strip c.subtract_from_row.new.row (map level c.in-Some.own.now) (map level c.put_layer.new.out) c.requires.strip c.subtract_from_row.ensures
    c.in-Some.ensures.rows (c.in_ok-put_layer.ensures.made c.if-not-branch.false)
