use Rattle.std.proofs.Common.{sym, subst, ◌∙◌}
use Rattle.mw_model.specs.Elements.{IsFigure, figure_of}
use Rattle.mw_element.specs.BitmapElements.{no_ones}
use Rattle.mw_element.specs.Figures.{OffsetsRise}
use Rattle.mw_element.proofs.Few.{few_within}
use Rattle.mw_element.proofs.Found.{offsets_figure}
use Rattle.mw_element.proofs.OfBitmaps.{element_of, figure_made, not_fitting, not_placed, nothing_in}
use Rattle.mw_element.proofs.Order.{offsets_rise}
use Rattle.mw_element.proofs.element.Element.of_bitmap.Goals as goal

pub returns-then-not-sides_fit-clause-refused : goal.returns-then-not-sides_fit-clause-refused
returns-then-not-sides_fit-clause-refused c = λ n. not_fitting c.args.bitmap.now c.args.ox c.args.oy c.sides_fit.result c.sides_fit.ensures c.if-not-sides_fit.true

pub returns-then-not-holds_place-clause-refused : goal.returns-then-not-holds_place-clause-refused
returns-then-not-holds_place-clause-refused c =
    λ n. not_placed c.args.bitmap.now c.args.ox c.args.oy c.holds_place.result (c.sides_fit.ensures.0 c.if-not-sides_fit.false) c.holds_place.ensures c.if-not-holds_place.true

pub returns-then-count-eq0-clause-refused : goal.returns-then-count-eq0-clause-refused
returns-then-count-eq0-clause-refused c =
    λ n.
    let none = c.count-count.ensures c.args.ox c.args.oy ∙ c.if-count-eq0.true in
    no_ones (c.sides_fit.ensures.0 c.if-not-sides_fit.false) (c.holds_place.ensures.0 c.if-not-holds_place.false) (nothing_in c.args.bitmap.now c.args.ox c.args.oy none)

pub returns-in_err-found-clause-memory : goal.returns-in_err-found-clause-memory
returns-in_err-found-clause-memory c =
    λ e.
    let f = c.args.bitmap.now in
    let place = c.holds_place.ensures.0 c.if-not-holds_place.false in
    (figure_of f c.args.ox c.args.oy, element_of f c.args.ox c.args.oy c.count-count.result (c.sides_fit.ensures.0 c.if-not-sides_fit.false) place (c.count-count.ensures c.args.ox c.args.oy) c.if-count-eq0.false)

pub returns-in_err-made-clause-memory : goal.returns-in_err-made-clause-memory
returns-in_err-made-clause-memory c =
    λ e.
    let f = c.args.bitmap.now in
    let place = c.holds_place.ensures.0 c.if-not-holds_place.false in
    (figure_of f c.args.ox c.args.oy, element_of f c.args.ox c.args.oy c.count-count.result (c.sides_fit.ensures.0 c.if-not-sides_fit.false) place (c.count-count.ensures c.args.ox c.args.oy) c.if-count-eq0.false)

pub new-requires-clause-figure : goal.new-requires-clause-figure
new-requires-clause-figure c =
    let f = c.args.bitmap.now in
    let fits = c.sides_fit.ensures.0 c.if-not-sides_fit.false in
    let is = element_of f c.args.ox c.args.oy c.count-count.result fits (c.holds_place.ensures.0 c.if-not-holds_place.false) (c.count-count.ensures c.args.ox c.args.oy) c.if-count-eq0.false in
    subst IsFigure (sym (figure_made f c.args.ox c.args.oy c.width.result c.height.result c.in_ok-found.found.items c.width.ensures.value c.height.ensures.value c.in_ok-found.ensures.items)) (offsets_figure f c.args.ox c.args.oy fits is.origin is.some)

pub new-requires-clause-few : goal.new-requires-clause-few
new-requires-clause-few c =
    let fits = c.sides_fit.ensures.0 c.if-not-sides_fit.false in
    few_within c.args.bitmap.now c.args.ox c.args.oy c.in_ok-found.found.items fits.narrow fits.low c.in_ok-found.ensures.items

pub new-requires-clause-ordered : goal.new-requires-clause-ordered
new-requires-clause-ordered c = subst OffsetsRise (sym c.in_ok-found.ensures.items) (offsets_rise c.args.bitmap.now c.args.ox c.args.oy (c.sides_fit.ensures.0 c.if-not-sides_fit.false).narrow)
