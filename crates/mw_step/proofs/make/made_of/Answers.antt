use Rattle.std.proofs.Common.{List, ap, sym, refl, subst, ◌∙◌}
use Rattle.std.proofs.lemmas.Result.{IfOk-weaker}
use Rattle.mw_model.specs.Elements.{Figure}
use Rattle.mw_model.specs.declared.offsets.Offset.{Offset}
use Rattle.mw_model.specs.PlanSteps as plan
use Rattle.mw_model.specs.PlanSteps.{PlanStep}
use Rattle.mw_step_task.specs.Meanings.{meaning}
use Rattle.mw_step_task.specs.WindowTasks.{window_at, KindsFit}
use Rattle.mw_step_task.specs.Products.{HoldsImage, IsMade}
use Rattle.mw_step.proofs.Images.{made_of_one, tile_by}
use Rattle.mw_step.proofs.OfTasks.{made_of_here, sum_of_here}
use Rattle.mw_step.proofs.make.made_of.Goals as goal

pub returns-in-Erode : goal.returns-in-Erode
returns-in-Erode c =
    let t = c.args.work.now in
    let e = c.deref.result.now.offsets in
    let u = c.source.result.now in
    let step-is = sym c.step.ensures ∙ ap meaning c.in-Erode.is ∙ ap plan.Erode (sym (ap (λ (f : Figure). f.offsets) c.deref.ensures)) in
    IfOk-weaker c.slide.result (HoldsImage (tile_by (plan.Erode e) u (window_at t.windows 1) (window_at t.windows 2) c.rect-tile.result)) (IsMade t)
    (λ m holds. made_of_one t (plan.Erode e) u c.rect-tile.result m refl step-is c.source.ensures.window c.rect-tile.ensures holds) c.slide.ensures

pub returns-in-Dilate : goal.returns-in-Dilate
returns-in-Dilate c =
    let t = c.args.work.now in
    let e = c.deref-in-Dilate.result.now.offsets in
    let u = c.source-in-Dilate.result.now in
    let step-is = sym c.step.ensures ∙ ap meaning c.in-Dilate.is ∙ ap plan.Dilate (sym (ap (λ (f : Figure). f.offsets) c.deref-in-Dilate.ensures)) in
    IfOk-weaker c.slide-in-Dilate.result (HoldsImage (tile_by (plan.Dilate e) u (window_at t.windows 1) (window_at t.windows 2) c.rect-tile.result)) (IsMade t)
    (λ m holds. made_of_one t (plan.Dilate e) u c.rect-tile.result m refl step-is c.source-in-Dilate.ensures.window c.rect-tile.ensures holds) c.slide-in-Dilate.ensures

pub returns-in-ErodeBox : goal.returns-in-ErodeBox
returns-in-ErodeBox c =
    let t = c.args.work.now in
    let s = plan.ErodeBox c.in-ErodeBox.sides in
    let u = c.source-in-ErodeBox.result.now in
    IfOk-weaker c.slide_box.result (HoldsImage (tile_by s u (window_at t.windows 1) (window_at t.windows 2) c.rect-tile.result)) (IsMade t)
    (λ m holds. made_of_one t s u c.rect-tile.result m refl (sym c.step.ensures ∙ ap meaning c.in-ErodeBox.is) c.source-in-ErodeBox.ensures.window c.rect-tile.ensures holds) c.slide_box.ensures

pub returns-in-DilateBox : goal.returns-in-DilateBox
returns-in-DilateBox c =
    let t = c.args.work.now in
    let s = plan.DilateBox c.in-DilateBox.sides in
    let u = c.source-in-DilateBox.result.now in
    IfOk-weaker c.slide_box-in-DilateBox.result (HoldsImage (tile_by s u (window_at t.windows 1) (window_at t.windows 2) c.rect-tile.result)) (IsMade t)
    (λ m holds. made_of_one t s u c.rect-tile.result m refl (sym c.step.ensures ∙ ap meaning c.in-DilateBox.is) c.source-in-DilateBox.ensures.window c.rect-tile.ensures holds) c.slide_box-in-DilateBox.ensures

pub returns-in-Minus : goal.returns-in-Minus
returns-in-Minus c =
    let t = c.args.work.now in
    IfOk-weaker c.minus.result (HoldsImage (tile_by plan.Minus c.source-in-Minus.result.now c.source-in-Minus-2.result.now (window_at t.windows 2) c.source-in-Minus.result.now.view.place)) (IsMade t)
    (λ m holds. made_of_here t plan.Minus c.source-in-Minus.result.now c.source-in-Minus-2.result.now (window_at t.windows 2) m (record { image = refl; at = refl; step = sym c.step.ensures ∙ ap meaning c.in-Minus.is; first = c.source-in-Minus.ensures.window; second = c.source-in-Minus-2.ensures.window; third = refl; read = (_, _, c.source-in-Minus.ensures.read) }) holds) c.minus.ensures

pub returns-in-AtLeast : goal.returns-in-AtLeast
returns-in-AtLeast c =
    let t = c.args.work.now in
    IfOk-weaker c.at_least.result (HoldsImage (tile_by (plan.AtLeast c.in-AtLeast.k) c.source-in-AtLeast.result.now (window_at t.windows 1) (window_at t.windows 2) c.source-in-AtLeast.result.now.view.place)) (IsMade t)
    (λ m holds. made_of_here t (plan.AtLeast c.in-AtLeast.k) c.source-in-AtLeast.result.now (window_at t.windows 1) (window_at t.windows 2) m (record { image = refl; at = refl; step = sym c.step.ensures ∙ ap meaning c.in-AtLeast.is; first = c.source-in-AtLeast.ensures.window; second = refl; third = refl; read = (_, _, c.source-in-AtLeast.ensures.read) }) holds) c.at_least.ensures

pub returns-in-Invert : goal.returns-in-Invert
returns-in-Invert c =
    let t = c.args.work.now in
    IfOk-weaker c.invert.result (HoldsImage (tile_by plan.Invert c.source-in-Invert.result.now (window_at t.windows 1) (window_at t.windows 2) c.source-in-Invert.result.now.view.place)) (IsMade t)
    (λ m holds. made_of_here t plan.Invert c.source-in-Invert.result.now (window_at t.windows 1) (window_at t.windows 2) m (record { image = refl; at = refl; step = sym c.step.ensures ∙ ap meaning c.in-Invert.is; first = c.source-in-Invert.ensures.window; second = refl; third = refl; read = (_, _, c.source-in-Invert.ensures.read) }) holds) c.invert.ensures

pub returns-in-Meet : goal.returns-in-Meet
returns-in-Meet c =
    let t = c.args.work.now in
    IfOk-weaker c.merge.result (HoldsImage (tile_by plan.Meet c.source-in-Meet.result.now c.source-in-Meet-2.result.now (window_at t.windows 2) c.source-in-Meet.result.now.view.place)) (IsMade t)
    (λ m holds. made_of_here t plan.Meet c.source-in-Meet.result.now c.source-in-Meet-2.result.now (window_at t.windows 2) m (record { image = refl; at = refl; step = sym c.step.ensures ∙ ap meaning c.in-Meet.is; first = c.source-in-Meet.ensures.window; second = c.source-in-Meet-2.ensures.window; third = refl; read = (_, _, c.source-in-Meet.ensures.read) }) holds) c.merge.ensures

pub returns-in-Join : goal.returns-in-Join
returns-in-Join c =
    let t = c.args.work.now in
    IfOk-weaker c.merge-in-Join.result (HoldsImage (tile_by plan.Join c.source-in-Join.result.now c.source-in-Join-2.result.now (window_at t.windows 2) c.source-in-Join.result.now.view.place)) (IsMade t)
    (λ m holds. made_of_here t plan.Join c.source-in-Join.result.now c.source-in-Join-2.result.now (window_at t.windows 2) m (record { image = refl; at = refl; step = sym c.step.ensures ∙ ap meaning c.in-Join.is; first = c.source-in-Join.ensures.window; second = c.source-in-Join-2.ensures.window; third = refl; read = (_, _, c.source-in-Join.ensures.read) }) holds) c.merge-in-Join.ensures

pub returns-in-Mark : goal.returns-in-Mark
returns-in-Mark c =
    let t = c.args.work.now in
    IfOk-weaker c.mark.result (HoldsImage (tile_by (plan.Mark c.in-Mark.v) c.source-in-Mark.result.now c.source-in-Mark-2.result.now c.source-in-Mark-3.result.now c.source-in-Mark.result.now.view.place)) (IsMade t)
    (λ m holds. made_of_here t (plan.Mark c.in-Mark.v) c.source-in-Mark.result.now c.source-in-Mark-2.result.now c.source-in-Mark-3.result.now m (record { image = refl; at = refl; step = sym c.step.ensures ∙ ap meaning c.in-Mark.is; first = c.source-in-Mark.ensures.window; second = c.source-in-Mark-2.ensures.window; third = c.source-in-Mark-3.ensures.window; read = (_, _, c.source-in-Mark.ensures.read) }) holds) c.mark.ensures

pub returns-in-MarkLast : goal.returns-in-MarkLast
returns-in-MarkLast c =
    let t = c.args.work.now in
    IfOk-weaker c.mark_last.result (HoldsImage (tile_by (plan.MarkLast c.in-MarkLast.v) c.source-in-MarkLast.result.now c.source-in-MarkLast-2.result.now (window_at t.windows 2) c.source-in-MarkLast.result.now.view.place)) (IsMade t)
    (λ m holds. made_of_here t (plan.MarkLast c.in-MarkLast.v) c.source-in-MarkLast.result.now c.source-in-MarkLast-2.result.now (window_at t.windows 2) m (record { image = refl; at = refl; step = sym c.step.ensures ∙ ap meaning c.in-MarkLast.is; first = c.source-in-MarkLast.ensures.window; second = c.source-in-MarkLast-2.ensures.window; third = refl; read = (_, _, c.source-in-MarkLast.ensures.read) }) holds) c.mark_last.ensures

pub returns-in-Equal : goal.returns-in-Equal
returns-in-Equal c =
    let t = c.args.work.now in
    IfOk-weaker c.equal.result (HoldsImage (tile_by (plan.Equal c.in-Equal.v) c.source-in-Equal.result.now (window_at t.windows 1) (window_at t.windows 2) c.source-in-Equal.result.now.view.place)) (IsMade t)
    (λ m holds. made_of_here t (plan.Equal c.in-Equal.v) c.source-in-Equal.result.now (window_at t.windows 1) (window_at t.windows 2) m (record { image = refl; at = refl; step = sym c.step.ensures ∙ ap meaning c.in-Equal.is; first = c.source-in-Equal.ensures.window; second = refl; third = refl; read = (_, _, c.source-in-Equal.ensures.read) }) holds) c.equal.ensures

pub blank-requires : goal.blank-requires
blank-requires c =
    let t = c.args.work.now in
    subst (λ (s : PlanStep). KindsFit s t.windows) (sym c.step.ensures ∙ ap meaning c.in-Blank.is) c.windows-fits.ensures.fits.kinds

pub returns-in-Blank : goal.returns-in-Blank
returns-in-Blank c =
    let t = c.args.work.now in
    let s = plan.Blank c.in-Blank.maxval in
    let u = window_at t.windows 0 in
    IfOk-weaker c.blank.result (HoldsImage (tile_by s u (window_at t.windows 1) (window_at t.windows 2) c.rect-tile.result)) (IsMade t)
    (λ m holds. made_of_one t s u c.rect-tile.result m refl (sym c.step.ensures ∙ ap meaning c.in-Blank.is) refl c.rect-tile.ensures holds) c.blank.ensures

pub returns-in-Sum : goal.returns-in-Sum
returns-in-Sum c =
    sum_of_here c.args.work.now c.source-in-Sum.result.now _ _ c.sum_up.result (sym c.step.ensures ∙ ap meaning c.in-Sum.is) c.source-in-Sum.ensures.window c.source-in-Sum.ensures.read c.sum_up.ensures.fills c.sum_up.ensures.value

pub returns-in-Rank : goal.returns-in-Rank
returns-in-Rank c =
    let t = c.args.work.now in
    let k = c.in-Rank.k in
    let s = plan.Rank c.deref-in-Rank.result.now.offsets k in
    let u = c.source-in-Rank.result.now in
    let step-is = sym c.step.ensures ∙ ap meaning c.in-Rank.is ∙ ap (λ (e : List Offset). plan.Rank e k) (sym (ap (λ (f : Figure). f.offsets) c.deref-in-Rank.ensures)) in
    IfOk-weaker c.rank_filter.result (HoldsImage (tile_by s u (window_at t.windows 1) (window_at t.windows 2) c.rect-tile.result)) (IsMade t)
    (λ m holds. made_of_one t s u c.rect-tile.result m refl step-is c.source-in-Rank.ensures.window c.rect-tile.ensures holds) c.rank_filter.ensures
