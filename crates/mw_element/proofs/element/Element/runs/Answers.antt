use Rattle.std.proofs.Common.{subst, sym}
use Rattle.mw_model.specs.Elements.{Figure}
use Rattle.mw_element_runs.specs.Runs.{AreEitherWay}
use Rattle.mw_element.proofs.Turned.{either_way}
use Rattle.mw_element.proofs.element.Element.runs.Goals as goal

pub returns-clause-offsets : goal.returns-clause-offsets
returns-clause-offsets c =
    let e = c.self.inside in
    let either = either_way e.is_turned e.offsets.items e.runs.items c.self.invariant.5 in
    subst (AreEitherWay c.args.self.now.offsets) (sym c.deref.ensures.value) (subst (λ (f : Figure). AreEitherWay f.offsets e.runs.items) c.self.view_is either)
