use Rattle.std.proofs.Common.{◌≡◌, ◌-◌, ◌+ℤ◌, ◌-ℤ◌, pos, ℤ, suc, ap, arith, sym, to_z, of_z, w64}
use Rattle.std.proofs.lemmas.Int.{ints}
use Rattle.mw_model.specs.declared.offsets.Rect.{Rect}
use Rattle.mw_element_runs.specs.Runs.{start_offset}
use Rattle.mw_rank.proofs.Parts.{part_seen, part_unseen, clamp_rises}
use Rattle.mw_rank.proofs.seen.seen_part.Goals as goal

pub returns-in-None : goal.returns-in-None
returns-in-None g c = sym (part_unseen g.P.Pixel.level c.args.window.now (start_offset c.args.run) (suc (c.args.run.count - 1)) c.args.x c.args.y c.in-None.ensures)

pub returns-in-Some : goal.returns-in-Some
returns-in-Some g c =
    let w = c.args.window.now in
    let x-is = ap (λ (t : Rect). t.x) c.place-place.ensures.value in
    let width = ap (λ (t : Rect). t.width) c.place-place.ensures.value in
    let from : ℤ = to_z w64 (of_z w64 c.place_of-from.result) in
    let more : ℤ = to_z w64 (of_z w64 c.from.result) in
    let sum : ℤ = to_z w64 (of_z w64 (from +ℤ more)) in
    let to : ℤ = to_z w64 (of_z w64 (sum +ℤ pos 1)) in
    let from-is : pos c.args.x +ℤ c.args.run.dx -ℤ pos w.place.x ≡ from = omega (arith, ints, c.place_of-from.ensures.value, x-is) in
    let more-is : more ≡ pos (c.args.run.count - 1) = omega (arith, ints, c.from.ensures, c.more_of.ensures) in
    let sum-is : sum ≡ from +ℤ more = omega (arith, ints) in
    let to-is : to ≡ from +ℤ pos (suc (c.args.run.count - 1)) = omega (arith, ints) in
    part_seen g.P.Pixel.level g.P.Pixel.TOP w c.args.run c.args.x c.args.y c.in-Some.row from to c.clamped-begin.result c.clamped-end.result c.place-place.result.width c.row-samples.result.now width c.in-Some.ensures.0 c.samples-all.ensures.size c.row-samples.ensures.length
    c.row-samples.ensures.value from-is c.in-Some.ensures.1 to-is c.clamped-begin.ensures c.clamped-end.ensures

pub slice_bounds-result-count : goal.slice_bounds-result-count
slice_bounds-result-count g c =
    let from : ℤ = to_z w64 (of_z w64 c.place_of-from.result) in
    let more : ℤ = to_z w64 (of_z w64 c.from.result) in
    let sum : ℤ = to_z w64 (of_z w64 (from +ℤ more)) in
    let to : ℤ = to_z w64 (of_z w64 (sum +ℤ pos 1)) in
    let more-is : more ≡ pos (c.args.run.count - 1) = omega (arith, ints, c.from.ensures, c.more_of.ensures) in
    let sum-is : sum ≡ from +ℤ more = omega (arith, ints) in
    let to-is : to ≡ from +ℤ pos (suc (c.args.run.count - 1)) = omega (arith, ints) in
    omega (arith, clamp_rises from to (suc (c.args.run.count - 1)) c.place-place.result.width to-is, c.clamped-begin.ensures, c.clamped-end.ensures)

pub slice_bounds-result-start : goal.slice_bounds-result-start
slice_bounds-result-start g c =
    let from : ℤ = to_z w64 (of_z w64 c.place_of-from.result) in
    let more : ℤ = to_z w64 (of_z w64 c.from.result) in
    let sum : ℤ = to_z w64 (of_z w64 (from +ℤ more)) in
    let to : ℤ = to_z w64 (of_z w64 (sum +ℤ pos 1)) in
    let more-is : more ≡ pos (c.args.run.count - 1) = omega (arith, ints, c.from.ensures, c.more_of.ensures) in
    let sum-is : sum ≡ from +ℤ more = omega (arith, ints) in
    let to-is : to ≡ from +ℤ pos (suc (c.args.run.count - 1)) = omega (arith, ints) in
    omega (arith, clamp_rises from to (suc (c.args.run.count - 1)) c.place-place.result.width to-is, c.clamped-begin.ensures, c.clamped-end.ensures)
