use Rattle.std.proofs.Common.{◌≡◌, ◌+◌, ◌-◌, ◌*◌, ◌≤◌, length, take, drop, get_or, refl, arith, length-take, length-drop}
use Rattle.std.proofs.Math.Nat.{mul-le-mul_left}
use Rattle.mw_line.proofs.Rows.{rows_more, rows_fit}
use Rattle.mw_line.proofs.pairs.merge_rows.Goals as goal

pub merge_row-requires : goal.merge_row-requires
merge_row-requires g c =
    let width = c.args.width in
    let y = c.loop-y.y in
    let m = y * width + width - y * width in
    let above : y ≤ c.args.height - 1 = omega (arith, c.loop-y-test.true) in
    omega (arith, mul-le-mul_left c.args.wide above, c.requires.cells, length-take m (drop (y * width) c.loop-y.out))

pub loop-y-init : goal.loop-y-init
loop-y-init g c = λ e. record { size = c.requires.size; done = λ x j d less row_less. absurd (omega arith); rest = λ p d from. refl }

pub loop-y-preserved : goal.loop-y-preserved
loop-y-preserved g c = λ e.
    let f = g.E.Extremum.merge in
    let cells = c.args.cells.now in
    let wide = c.args.wide in
    let width = c.args.width in
    let y = c.loop-y.y in
    let m = y * width + width - y * width in
    let out = c.loop-y.out in
    let part = take m (drop (y * width) out) in
    let made = c.merge_row.new.out in
    let before = c.loop-y.invariant e in
    let fits = rows_fit y c.args.height width c.loop-y-test.true in
    let whole : length part ≡ width = omega (arith, length-take m (drop (y * width) out), length-drop (y * width) out, before.size, fits) in
    let size : length made ≡ width = omega (arith, c.merge_row.auto.out, whole) in
    rows_more (λ best x j. f best (f (get_or cells (j * wide + x) e) (get_or cells (j * wide + x + c.args.shift) e))) width c.args.height y m c.args.out.now out made c.loop-y-test.true (omega arith) size
    (λ x d less. c.merge_row.ensures x d e (omega (arith, whole)))
    before

pub returns : goal.returns
returns g c = λ x y d e less row_less. (c.loop-y.invariant e).done x y d less (omega arith)
