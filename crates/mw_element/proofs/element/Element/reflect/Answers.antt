use Rattle.std.proofs.Common.{List, not, length, sym, ◌∙◌, ap, subst, arith}
use Rattle.std.proofs.lemmas.List.{length-map}
use Rattle.std.specs.List.{AllByRecursion}
use Rattle.mw_model.specs.declared.offsets.Offset.{Offset}
use Rattle.mw_element_runs.specs.declared.runs.Run.{Run}
use Rattle.mw_model.specs.Elements.{Figure, IsFigure, reach_of}
use Rattle.mw_model.specs.Flat.{reflected}
use Rattle.mw_element.specs.Figures.{OffsetsRise, by_rows, figure, turned}
use Rattle.mw_element.specs.Told.{IsNearRun, TellsBox, TellsRuns, turned_runs}
use Rattle.mw_element.proofs.Lists.{reflected_figure}
use Rattle.mw_element.proofs.Order.{reflected_rise}
use Rattle.mw_element.proofs.Turned.{near_runs, runs_turned}
use Rattle.mw_element.proofs.element.Element.reflect.Goals as goal

pub invariant_of-result : goal.invariant_of-result
invariant_of-result c =
    let e = c.self.inside in
    let same = c.in_ok-turned.ensures ∙ ap reflected c.deref.ensures.value in
    let few = c.self.invariant.1 in
    let seen = sym (same ∙ ap (λ (f : Figure). reflected f.offsets) c.self.view_is) in (
      subst (λ (xs : List Offset). IsFigure (figure e.width e.height xs)) (sym same) (reflected_figure e.width e.height e.offsets.items c.self.invariant.0),
      omega (arith, few, ap (λ (xs : List Offset). length xs) same ∙ length-map e.offsets.items turned),
      subst (λ (xs : List Offset). OffsetsRise (by_rows (not e.is_turned) xs)) (sym same) (reflected_rise e.is_turned e.offsets.items c.self.invariant.2),
      c.turned_reach-reach.ensures ∙ ap reach_of seen,
      subst (TellsBox c.turned_rectangle-rectangle.result) c.deref-3.ensures.value c.turned_rectangle-rectangle.ensures,
      subst (TellsRuns (not e.is_turned) c.in_ok-runs.runs.items) (sym same)
          (subst (λ (rs : List Run). TellsRuns (not e.is_turned) rs (reflected e.offsets.items)) (sym (c.in_ok-runs.ensures ∙ ap turned_runs c.deref-2.ensures.value)) (runs_turned e.is_turned e.offsets.items e.runs.items c.self.invariant.5)),
    )

pub turn-requires-2 : goal.turn-requires-2
turn-requires-2 c =
    subst (AllByRecursion IsNearRun) (sym c.deref-2.ensures.value) (near_runs c.self.inside.is_turned c.self.inside.offsets.items c.self.inside.runs.items c.self.invariant.0.near c.self.invariant.5)
