use Rattle.std.proofs.Common.{◌≡◌, ℕ, pos, ◌-ℤ◌, ◌<ℤ◌, true, max, min}
use Rattle.std.proofs.lemmas.Result.{IfOk-weaker}
use Rattle.mw_model.specs.Rasters.{raster}
use Rattle.mw_model.specs.Rectangles.{box_offsets}
use Rattle.mw_model.specs.Windows.{seen_at}
use Rattle.mw_line_lent.specs.Differences.{IsSlidingDifference}
use Rattle.mw_line_lent.specs.Near.{IsAround, StandsInside}
use Rattle.mw_c_lent.specs.Boxes.{IsMadeUnder}
use Rattle.mw_c_lent.specs.Slides.{range_value}
use Rattle.mw_c_lent.proofs.Ranges.{range_of_levels}
use Rattle.mw_c_lent.proofs.lendable.U16Lendable.gradient_into.Goals as goal

pub returns-clause-made : goal.returns-clause-made
returns-clause-made c =
    let sight = seen_at c.args.lent.now in
    let element = box_offsets c.args.offsets in
    let tile = c.args.tile in
    let top = c.args.top in
    let out = c.differences_into.new.out in
    IfOk-weaker c.differences_into.result (λ done. done ≡ true → IsSlidingDifference (λ (n : ℕ). n) (λ (a b : ℕ). max a b) 0 (λ (a b : ℕ). min a b) top sight element tile (raster tile.width tile.height out))
    (λ done. done ≡ true → IsMadeUnder (range_value top) (λ (n : ℕ). n) sight element tile out)
    (λ done made is. range_of_levels top sight element tile out (made is))
    c.differences_into.ensures.over_window

pub returns-clause-taken : goal.returns-clause-taken
returns-clause-taken c = λ small stands.
    let box = c.args.offsets in
    IfOk-weaker c.differences_into.result (λ done. IsAround box → StandsInside c.args.lent.now.place c.args.tile → (box.y1 -ℤ box.y0) <ℤ pos 18 → (box.x1 -ℤ box.x0) <ℤ pos 9 → done ≡ true) (λ done. done ≡ true)
    (λ done near. near small.around stands small.low small.narrow)
    c.differences_into.ensures.near
