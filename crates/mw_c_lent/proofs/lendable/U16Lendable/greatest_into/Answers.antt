use Rattle.std.proofs.Common.{◌≡◌, ℕ, true, max}
use Rattle.std.proofs.lemmas.Result.{IfOk-weaker}
use Rattle.mw_model.specs.Flat.{greatest}
use Rattle.mw_model.specs.Rasters.{raster}
use Rattle.mw_model.specs.Rectangles.{box_offsets}
use Rattle.mw_model.specs.Windows.{seen_at}
use Rattle.mw_model.proofs.ImageLaws.{fold-max_from_none}
use Rattle.mw_line.specs.Extrema.{IsSlidingExtremum}
use Rattle.mw_line_lent.specs.Near.{IsAround, StandsInside}
use Rattle.mw_c_lent.specs.Boxes.{IsMadeUnder}
use Rattle.mw_c_lent.proofs.UnderBoxes.{made_of_levels}
use Rattle.mw_c_lent.proofs.lendable.U16Lendable.greatest_into.Goals as goal

pub returns-clause-made : goal.returns-clause-made
returns-clause-made c =
    let sight = seen_at c.args.lent.now in
    let element = box_offsets c.args.offsets in
    let tile = c.args.tile in
    let out = c.boxes_into.new.out in
    IfOk-weaker c.boxes_into.result (λ done. done ≡ true → IsSlidingExtremum (λ (a b : ℕ). max a b) 0 sight element tile (raster tile.width tile.height out))
    (λ done. done ≡ true → IsMadeUnder greatest (λ (n : ℕ). n) sight element tile out)
    (λ done is yes. made_of_levels greatest (λ (a b : ℕ). max a b) 0 sight element tile out fold-max_from_none (is yes)) c.boxes_into.ensures.over_window

pub returns-clause-taken : goal.returns-clause-taken
returns-clause-taken c = λ around stands.
    IfOk-weaker c.boxes_into.result (λ done. IsAround c.args.offsets → StandsInside c.args.lent.now.place c.args.tile → done ≡ true) (λ done. done ≡ true)
    (λ done near. near around stands)
    c.boxes_into.ensures.near
