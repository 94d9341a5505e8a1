use Rattle.std.proofs.Common.{◌≡◌, ℕ, ◌+◌, ◌-◌, ◌*◌, length, get_or, ap, arith, ◌∙◌}
use Rattle.mw_offset_lent.proofs.Puts.{put_longer, rows_le}
use Rattle.mw_offset_lent.specs.Places.{merged_at}
use Rattle.mw_offset_lent.proofs.Rooms.{all_fit}
use Rattle.mw_offset_lent.proofs.rows.put_some.Goals as goal

next : (a m : ℕ) → (a + 1) * m ≡ a * m + m
next a m = omega arith

pub put_one-requires-clause-inside : goal.put_one-requires-clause-inside
put_one-requires-clause-inside g c =
    let s = c.args.split in
    let fits = rows_le c.args.y (c.args.rows.high - 1) s.wide (omega (arith, c.requires.row)) in
    all_fit s.all.now (c.args.y * s.wide + s.width) ((c.args.rows.high - 1) * s.wide + s.width) (length c.args.cells.now) (omega (arith, fits)) c.requires.inside

pub put_one-requires-clause-room : goal.put_one-requires-clause-room
put_one-requires-clause-room g c =
    let s = c.args.split in
    omega (arith, rows_le (c.args.y + 1) c.args.rows.high s.width (omega (arith, c.requires.row)), next c.args.y s.width, c.requires.room)

pub put_pair-requires-clause-inside : goal.put_pair-requires-clause-inside
put_pair-requires-clause-inside g c =
    let s = c.args.split in
    let fits = rows_le (c.args.y + 1) (c.args.rows.high - 1) s.wide (omega arith) in
    all_fit s.all.now (c.args.y * s.wide + s.wide + s.width) ((c.args.rows.high - 1) * s.wide + s.width) (length c.args.cells.now) (omega (arith, fits, next c.args.y s.wide)) c.requires.inside

pub put_pair-requires-clause-room : goal.put_pair-requires-clause-room
put_pair-requires-clause-room g c =
    let s = c.args.split in
    omega (arith, rows_le (c.args.y + 2) c.args.rows.high s.width (omega arith), twice c.args.y s.width, c.requires.room)
  where
    twice : (a m : ℕ) → (a + 2) * m ≡ a * m + 2 * m
    twice a m = omega arith

pub returns-then-rows-y-lt2-clause-put : goal.returns-then-rows-y-lt2-clause-put
returns-then-rows-y-lt2-clause-put g c =
    let s = c.args.split in
    put_longer (c.args.rows.at + c.args.y * s.width) s.width (1 * s.width) c.args.out.now c.put_one.new.out (omega arith) c.put_one.ensures.put

pub returns-then-rows-y-lt2-clause-made : goal.returns-then-rows-y-lt2-clause-made
returns-then-rows-y-lt2-clause-made g c = λ r i few lt.
    let s = c.args.split in
    let n = c.args.neutral in
    let none : r ≡ 0 = omega (arith, few) in
    let at = c.args.rows.at + c.args.y * s.width in
    let here : at + (r * s.width + i) ≡ at + i = omega (arith, ap (λ (t : ℕ). t * s.width) none) in
    let there : c.args.y * s.wide + i ≡ (c.args.y + r) * s.wide + i = omega (arith, ap (λ (t : ℕ). t * s.wide) (let e : c.args.y ≡ c.args.y + r = omega (arith, none) in e)) in
    ap (λ (t : ℕ). get_or c.put_one.new.out t n) here ∙ c.put_one.ensures.made i lt ∙ ap (λ (t : ℕ). merged_at g.E.Extremum.merge c.args.cells.now n t n s.all.now) there

pub returns-clause-made : goal.returns-clause-made
returns-clause-made g c = λ r i few lt.
    let s = c.args.split in
    let there : c.args.y * s.wide + r * s.wide + i ≡ (c.args.y + r) * s.wide + i = omega arith in
    c.put_pair.ensures.made r i few lt ∙ ap (λ (t : ℕ). merged_at g.E.Extremum.merge c.args.cells.now c.args.neutral t c.args.neutral s.all.now) there

pub overflow_mul-from : goal.overflow_mul-from
overflow_mul-from g c =
    let fits = rows_le c.args.y (c.args.rows.high - 1) c.args.split.wide (omega (arith, c.requires.row)) in
    omega (arith, fits, c.requires.cells)

pub put_one-requires-clause-cells : goal.put_one-requires-clause-cells
put_one-requires-clause-cells g c =
    let fits = rows_le c.args.y (c.args.rows.high - 1) c.args.split.wide (omega (arith, c.requires.row)) in
    omega (arith, fits, c.requires.cells)

pub put_pair-requires-clause-cells : goal.put_pair-requires-clause-cells
put_pair-requires-clause-cells g c =
    let fits = rows_le (c.args.y + 1) (c.args.rows.high - 1) c.args.split.wide (omega arith) in
    omega (arith, fits, next c.args.y c.args.split.wide, c.requires.cells)
