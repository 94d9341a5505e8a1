use Rattle.std.proofs.Common.{◌≡◌, ◌+◌}
use Rattle.mw_model.specs.declared.shapes.Kind.TheVariants.{Grey}
use Rattle.mw_model.specs.Pictures.{drawn}
use Rattle.mw_model.specs.Flat.{erosion}
use Rattle.mw_model.specs.Iterates.{times, residue_mark}
use Rattle.mw_reference.proofs.iterated.skeleton.Given as goal

abbrev pub invariant-loop-n : goal.invariant-loop-n
invariant-loop-n l = record {
  marked : l.marks ≡ drawn Grey l.image.width l.image.height (l.depth + 1) (residue_mark l.element l.image l.n);
  eroded : l.eroded ≡ times l.n (erosion l.element) l.image;
}
