use Rattle.std.proofs.Common.{ap, ◌∙◌}
use Rattle.mw_model.specs.Elements.{Figure, reach_of}
use Rattle.mw_model.specs.Flat.{reflected}
use Rattle.mw_element.specs.Told.{turned_reach}
use Rattle.mw_element.proofs.Turned.{reach_turned}
use Rattle.mw_element.proofs.element.Element.turned_reach.Goals as goal

pub returns : goal.returns
returns c = ap turned_reach c.self.invariant.3 ∙ reach_turned c.self.inside.offsets.items ∙ ap (λ (f : Figure). reach_of (reflected f.offsets)) c.self.view_is
