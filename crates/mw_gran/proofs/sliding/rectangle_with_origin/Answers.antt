use Rattle.std.proofs.Common.{Option, Some, None, IfSome}
use Rattle.mw_model.specs.declared.offsets.OffsetBox.{OffsetBox}
use Rattle.mw_model.specs.Laws.{HoldsOrigin}
use Rattle.mw_plan.specs.mw_element.Figures.{FillsBox}
use Rattle.mw_plan.specs.Steps.{IsNearBox}
use Rattle.mw_plan.proofs.Boxes.{near_box}
use Rattle.mw_gran.proofs.Origins.{origin_held}
use Rattle.mw_gran.proofs.sliding.rectangle_with_origin.Goals as goal

some_holds : (o : Option OffsetBox) (P : Type 0) → P → IfSome o (λ box. P)
some_holds (Some box) P p = p
some_holds None P p = tt

some_near : (o : Option OffsetBox) (P Q : OffsetBox → Type 0) → ((box : OffsetBox) → P box → Q box) → IfSome o P → IfSome o Q
some_near (Some box) P Q each p = each box p
some_near None P Q each p = tt

pub returns-clause-holds : goal.returns-clause-holds
returns-clause-holds c = some_holds c.as_rectangle.result (HoldsOrigin c.args.element.now.offsets) (origin_held c.args.element.now.offsets c.holds_origin.result c.holds_origin.ensures c.if-not-holds_origin.false)

pub returns-clause-near : goal.returns-clause-near
returns-clause-near c =
    some_near c.as_rectangle.result (λ box. FillsBox box c.args.element.now.offsets) IsNearBox (λ box fills. near_box box c.args.element.now c.offsets-figure.ensures.figure fills) c.as_rectangle.ensures.some
