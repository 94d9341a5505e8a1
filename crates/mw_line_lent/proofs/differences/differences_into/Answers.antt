use Rattle.std.proofs.Common.{rules, arith, ◌∙◌, sym, subst}
use Rattle.mw_model.specs.declared.offsets.Rect.{Rect}
use Rattle.mw_line.proofs.Folds.{IsExtremum}
use Rattle.mw_line_lent.specs.Near.{StandsInside}
use Rattle.mw_line_lent.proofs.Subtracted.{differences_made}
use Rattle.mw_line_lent.proofs.Near.{near_suited, side_short}
use Rattle.mw_line_lent.proofs.differences.differences_into.Goals as goal

pub returns-clause-over_window : goal.returns-clause-over_window
returns-clause-over_window g c = λ done.
    let f = g.U.Extremum.merge in
    let laws : IsExtremum f = record { commutes = g.met.U.Extremum.commutes; associates = g.met.U.Extremum.associates; is_idempotent = g.met.U.Extremum.is_idempotent } in
    let h = g.L.Extremum.merge in
    let others : IsExtremum h = record { commutes = g.met.L.Extremum.commutes; associates = g.met.L.Extremum.associates; is_idempotent = g.met.L.Extremum.is_idempotent } in
    let suited = c.is_suited.ensures.0 (search rules) in
    differences_made g.P.Pixel.level f laws c.args.ends.bottom h others c.args.ends.top c.args.lent.now c.place.result c.args.offsets c.args.tile c.boxes_of-boxes.result c.put_boxes.new.out c.place.ensures.value suited.across suited.down c.boxes_of-boxes.ensures
    (c.put_boxes.ensures.size ∙ c.requires) c.in_ok-put_boxes.ensures.made

pub returns-then-not-is_suited-clause-near : goal.returns-then-not-is_suited-clause-near
returns-then-not-is_suited-clause-near g c = λ around stands low narrow.
    let here : StandsInside c.place.result c.args.tile = subst (λ (t : Rect). StandsInside t c.args.tile) (sym c.place.ensures.value) stands in
    let yes = c.is_suited.ensures.1 (near_suited g.P.Laned.WIDTH c.place.result c.args.tile c.args.offsets c.boxes_of-boxes.result g.met.P.Laned.is_narrow around here c.boxes_of-boxes.ensures) in
    search rules

pub returns-then-boxes-gt-LOW-clause-near : goal.returns-then-boxes-gt-LOW-clause-near
returns-then-boxes-gt-LOW-clause-near g c = λ around stands low narrow.
    let tile = c.args.tile in
    let box = c.args.offsets in
    let of = c.boxes_of-boxes.ensures in
    absurd (side_short tile.y tile.height c.place.result.y c.place.result.height box.y0 box.y1 of.above c.boxes_of-boxes.result.down 18 of.down around.above around.below low (omega (arith, c.if-boxes-gt-LOW.true)))

pub returns-then-boxes-gt-NARROW-clause-near : goal.returns-then-boxes-gt-NARROW-clause-near
returns-then-boxes-gt-NARROW-clause-near g c = λ around stands low narrow.
    let tile = c.args.tile in
    let box = c.args.offsets in
    let of = c.boxes_of-boxes.ensures in
    absurd (side_short tile.x tile.width c.place.result.x c.place.result.width box.x0 box.x1 of.ahead c.boxes_of-boxes.result.across 9 of.across around.left around.right narrow (omega (arith, c.if-boxes-gt-NARROW.true)))
