use Rattle.std.proofs.Common.{take}
use Rattle.std.specs.List.{AllByRecursion}
use Rattle.mw_model.specs.declared.offsets.OffsetBox.{OffsetBox}
use Rattle.mw_element.specs.Figures.{InBox, LiesIn}
use Rattle.mw_element.proofs.offsets.bounds.Given as goal

abbrev pub invariant-offsets : goal.invariant-offsets
invariant-offsets l = record {
  inside : AllByRecursion (λ b. InBox l.bounds b) (take l.b-index l.offsets);
  least : (box : OffsetBox) → AllByRecursion (λ b. InBox box b) l.offsets → LiesIn l.bounds box;
}
