use Rattle.std.proofs.Common.{◌≡◌, ◌<◌, ℤ, ap, ◌∙◌, arith, pos, to_z, of_z, w64, get_or}
use lib.IntN.{nat_abs}
use Rattle.std.proofs.lemmas.Int.{ints}
use Rattle.mw_lane.specs.Shifted.{merge_at}
use Rattle.mw_line.proofs.Seen.{row_of_window}
use Rattle.mw_line.proofs.window_rows.combine_window_row.Goals as goal

pub returns-then-row-from : goal.returns-then-row-from
returns-then-row-from g c =
    let w = c.args.window.now in
    let to_x : ℤ = to_z w64 (of_z w64 c.args.column) in
    let to_y : ℤ = to_z w64 (of_z w64 c.args.row) in
    let x-is : to_x ≡ c.args.column = omega (arith, ints) in
    let y-is : pos (nat_abs to_y) ≡ c.args.row = omega (arith, ints) in
    let y-lt : nat_abs to_y < w.place.height = grind (arith, ints) in
    λ x d lt. c.combine_shifted.ensures x d lt
    ∙ ap (λ (t : _). merge_at g.E.Extremum.merge (get_or c.args.out.now x d) t)
    (row_of_window w.place.width w.place.height w.cells c.row.result.now (nat_abs to_y) x to_x c.args.column c.args.row c.row.ensures.value x-is y-is y-lt)
