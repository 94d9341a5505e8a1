use Rattle.std.proofs.Common.{ℕ, ◌+◌, ◌*◌, ◌/◌, ◌<◌, ◌≤◌, max, min, arith}
use Rattle.std.proofs.lemmas.Nat.{mul-le}
use Rattle.std.proofs.lemmas.Option.{IfSome_then}
use Rattle.mw_c_arrays.specs.Sources.{picture_in}
use Rattle.mw_c_lent.proofs.InStrips.{bytes_within, none_then}
use Rattle.mw_c_lent.proofs.by_strips.rows_of.Goals as goal

pub returns-clause-many : goal.returns-clause-many
returns-clause-many c =
    let w = (picture_in c.args.composition.f).width in
    let bytes = c.bytes_of_strip.result in
    let row = c.row_size.result in
    let wide = c.requires.sound.wide in
    IfSome_then c.rows_within.result {P = λ rows. min c.args.count (max 16 (bytes / row)) ≤ rows} {Q = λ rows. rows < c.args.count → (16 ≤ rows) × (131072 < (rows + 1) * (2 * w))} c.rows_within.ensures.many
    (λ rows least less. (omega (arith, least, less), bytes_within bytes row rows w c.bytes_of_strip.ensures.least c.row_size.ensures.some (omega (arith, c.row_size.ensures.small, wide)) (omega (arith, least, less))))

pub returns-clause-none : goal.returns-clause-none
returns-clause-none c =
    let reach = c.args.composition.reach in
    let w = (picture_in c.args.composition.f).width in
    let row = c.row_size.result in
    let wide = c.requires.sound.wide in
    let beyond : ℕ = reach.up + reach.down in
    none_then c.rows_within.result c.rows_within.ensures.fits (λ no few. no (omega (arith, mul-le (5 * beyond + 16) row (5 * beyond + 16) (2 * w) (omega arith) (omega (arith, c.row_size.ensures.small, wide)), few)))
