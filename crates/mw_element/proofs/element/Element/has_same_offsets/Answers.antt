use Rattle.std.proofs.Common.{Bool, List, ◌≡◌, ap, refl, sym, subst, ◌∙◌}
use Rattle.std.specs.Cmp.{booleans_Decides}
use Rattle.mw_model.specs.Elements.{Figure}
use Rattle.mw_element_runs.specs.declared.runs.Run.{Run}
use Rattle.mw_element.specs.Told.{TellsRuns}
use Rattle.mw_element.proofs.Turned.{same_offsets}
use Rattle.mw_element.proofs.element.Element.has_same_offsets.Goals as goal

pub returns-then-same : goal.returns-then-same
returns-then-same c =
    let a = c.self.inside in
    let b = c.other.inside in
    let runs : a.runs.items ≡ b.runs.items = sym c.deref.ensures.value ∙ c.same.ensures c.if-same.true ∙ c.deref-then-self-other.ensures.value in
    let turned : a.is_turned ≡ b.is_turned = (booleans_Decides a.is_turned b.is_turned).0 c.if-self-other.true in
    let told = subst (λ (t : Bool). TellsRuns t a.runs.items b.offsets.items) (sym turned) (subst (λ (rs : List Run). TellsRuns b.is_turned rs b.offsets.items) (sym runs) c.other.invariant.5) in
    let same = same_offsets a.is_turned a.offsets.items b.offsets.items a.runs.items c.self.invariant.5 told in
    ((λ yes. sym (ap (λ (f : Figure). f.offsets) c.self.view_is) ∙ same ∙ ap (λ (f : Figure). f.offsets) c.other.view_is), (λ equal. refl))
