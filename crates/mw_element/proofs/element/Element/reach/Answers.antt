use Rattle.std.proofs.Common.{sym, subst}
use Rattle.mw_model.specs.declared.offsets.Reach.{Reach}
use Rattle.mw_model.specs.Elements.{Figure}
use Rattle.mw_model.specs.Rectangles.{WithinReach}
use Rattle.mw_element.proofs.Lists.{reach_within}
use Rattle.mw_element.proofs.element.Element.reach.Goals as goal

pub returns-clause-within : goal.returns-clause-within
returns-clause-within c =
    let offsets = c.self.inside.offsets.items in
    let within = subst (λ (r : Reach). WithinReach r offsets) (sym c.self.invariant.3) (reach_within offsets) in
    subst (λ (f : Figure). WithinReach c.self.inside.reach f.offsets) c.self.view_is within
