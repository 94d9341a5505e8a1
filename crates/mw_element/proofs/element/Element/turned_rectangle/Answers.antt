use Rattle.std.proofs.Common.{List, Option, sym, ap, subst, ◌∙◌}
use Rattle.std.specs.Prelude.{IfNone}
use Rattle.std.specs.List.{AllByRecursion, IsDistinct}
use Rattle.mw_model.specs.declared.offsets.Offset.{Offset}
use Rattle.mw_model.specs.declared.offsets.OffsetBox.{OffsetBox}
use Rattle.mw_model.specs.Elements.{Figure, IsNear, same_offset}
use Rattle.mw_model.specs.Flat.{reflected}
use Rattle.mw_element.specs.Figures.{FillsBox}
use Rattle.mw_element.proofs.Lists.{reflected_figure}
use Rattle.mw_element.proofs.Turned.{no_box_turned}
use Rattle.mw_element.proofs.element.Element.turned_rectangle.Goals as goal

pub as_box-requires-clause-near : goal.as_box-requires-clause-near
as_box-requires-clause-near c =
    let same = c.requires ∙ ap (λ (f : Figure). reflected f.offsets) (sym c.self.view_is) in
    subst (AllByRecursion IsNear) (sym same) (reflected_figure c.self.inside.width c.self.inside.height c.self.inside.offsets.items c.self.invariant.0).near

pub as_box-requires-clause-distinct : goal.as_box-requires-clause-distinct
as_box-requires-clause-distinct c =
    let same = c.requires ∙ ap (λ (f : Figure). reflected f.offsets) (sym c.self.view_is) in
    subst (IsDistinct same_offset) (sym same) (reflected_figure c.self.inside.width c.self.inside.height c.self.inside.offsets.items c.self.invariant.0).distinct

pub returns-in-None : goal.returns-in-None
returns-in-None c =
    let offsets = c.self.inside.offsets.items in
    let same = c.requires ∙ ap (λ (f : Figure). reflected f.offsets) (sym c.self.view_is) in
    let none = subst (λ (found : Option OffsetBox). IfNone found ((box : OffsetBox) → FillsBox box offsets → ⊥)) c.in-None.is c.self.invariant.4.none in
    record { some = tt; none = subst (λ (xs : List Offset). (box : OffsetBox) → FillsBox box xs → ⊥) (sym same) (no_box_turned offsets none) }
