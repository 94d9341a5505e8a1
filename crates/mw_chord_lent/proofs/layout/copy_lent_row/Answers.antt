use Rattle.std.proofs.Common.{◌≡◌, ◌<◌, ℤ, pos, Option, ap, ◌∙◌, get_or, arith, to_z, of_z, w64}
use lib.IntN.{nat_abs}
use Rattle.std.proofs.lemmas.Int.{ints}
use Rattle.std.specs.Option.{unwrap_or}
use Rattle.mw_line.proofs.Seen.{row_of_window}
use Rattle.mw_chord_lent.proofs.layout.copy_lent_row.Goals as goal

pub returns-then-row-from : goal.returns-then-row-from
returns-then-row-from g c = λ x d less.
    let w = c.args.lent.now in
    let row = c.lent_row.result.now in
    let to_x : ℤ = to_z w64 (of_z w64 c.args.column) in
    let to_y : ℤ = to_z w64 (of_z w64 c.args.row) in
    let x-is : to_x ≡ c.args.column = omega (arith, ints) in
    let y-is : pos (nat_abs to_y) ≡ c.args.row = omega (arith, ints) in
    let y-lt : nat_abs to_y < w.place.height = grind (arith, ints) in
    c.copy_row.ensures x d less ∙ ap (λ (t : Option g.row.P.Denot). unwrap_or t (get_or c.args.out.now x d)) (row_of_window w.place.width w.place.height w.cells row (nat_abs to_y) x to_x c.args.column c.args.row c.lent_row.ensures x-is y-is y-lt)
