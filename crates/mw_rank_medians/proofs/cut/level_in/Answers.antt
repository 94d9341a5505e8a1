use Rattle.std.proofs.Common.{ℕ, ℤ, ◌≡◌, ◌+◌, ◌*◌, ◌∙◌, List, get_or, ◌<◌, arith, ap, pos, to_z, of_z, w64}
use lib.IntN.{nat_abs}
use Rattle.std.proofs.lemmas.Int.{ints}
use Rattle.mw_model.specs.declared.offsets.Rect.{Rect}
use Rattle.mw_rank.proofs.Sights.{seen_inside}
use Rattle.mw_rank_medians.proofs.cut.level_in.Goals as goal

pub returns-clause-levels : goal.returns-clause-levels
returns-clause-levels g c =
    let w = c.args.window.now in
    let width = ap (λ (t : Rect). t.width) c.place-place.ensures.value in
    let height = ap (λ (t : Rect). t.height) c.place-place.ensures.value in
    let to_x : ℤ = to_z w64 (of_z w64 c.args.column) in
    let to_y : ℤ = to_z w64 (of_z w64 c.args.row) in
    let x-is : c.args.column ≡ pos (nat_abs to_x) = omega (arith, ints) in
    let y-is : c.args.row ≡ pos (nat_abs to_y) = omega (arith, ints) in
    let x-lt : nat_abs to_x < w.place.width = grind (arith, ints, width) in
    let y-lt : nat_abs to_y < w.place.height = grind (arith, ints, height) in
    seen_inside g.P.Pixel.level w.place.width w.place.height w.cells c.args.column c.args.row (nat_abs to_x) (nat_abs to_y) c.value.result c.index-samples-at.result x-is y-is x-lt y-lt c.samples.ensures.size
    (c.index-samples-at.is
    ∙ ap (λ (l : List _). get_or l (nat_abs to_y * c.place-place.result.width + nat_abs to_x) c.index-samples-at.result) c.samples.ensures.value
    ∙ ap (λ (t : ℕ). get_or w.cells (nat_abs to_y * t + nat_abs to_x) c.index-samples-at.result) width)
    c.value.ensures.level
