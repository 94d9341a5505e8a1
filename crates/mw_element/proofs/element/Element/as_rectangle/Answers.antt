use Rattle.std.proofs.Common.{subst}
use Rattle.std.specs.Prelude.{IfNone}
use Rattle.mw_model.specs.declared.offsets.OffsetBox.{OffsetBox}
use Rattle.mw_model.specs.Elements.{Figure}
use Rattle.mw_element.specs.Figures.{FillsBox}
use Rattle.mw_element.proofs.element.Element.as_rectangle.Goals as goal

pub returns-clause-none : goal.returns-clause-none
returns-clause-none c = subst (λ (f : Figure). IfNone c.self.inside.rectangle ((box : OffsetBox) → FillsBox box f.offsets → ⊥)) c.self.view_is c.self.invariant.4.none
