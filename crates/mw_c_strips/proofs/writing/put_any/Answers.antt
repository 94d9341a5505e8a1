use Rattle.std.proofs.Common.{arith, refl}
use Rattle.mw_c_layers.specs.Layers.{formula_picture}
use Rattle.mw_c_strips.proofs.InPlace.{none_made}
use Rattle.mw_c_lent.proofs.Written.{no_rows}
use Rattle.mw_c_strips.proofs.writing.put_any.Goals as goal

pub put_rest-requires : goal.put_rest-requires
put_rest-requires g c = record {
  sound = c.requires.sound;
  behind = omega arith;
  within = omega (arith, c.if-first-end.true);
  ends = c.requires.ends c.if-first-end.true;
  stands = c.requires.stands;
  before = no_rows g.P.Pixel.level (formula_picture c.args.formula) c.args.first c.args.first c.args.out.now refl;
}

pub returns-else-first-end : goal.returns-else-first-end
returns-else-first-end g c = none_made g.P.Pixel.level (formula_picture c.args.formula) c.args.first c.args.out.now (c.requires.none c.if-first-end.false)
