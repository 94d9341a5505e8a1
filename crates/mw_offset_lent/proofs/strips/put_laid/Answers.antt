use Rattle.std.proofs.Common.{◌≡◌, ℕ, ℤ, pos, ◌+◌, ◌*◌, ◌+ℤ◌, ◌-ℤ◌, List, length, get_or, map, to_z, of_z, w64, ap, subst, arith, ◌∙◌}
use Rattle.std.proofs.lemmas.Int.{ints}
use Rattle.mw_line.proofs.Folds.{IsExtremum}
use Rattle.mw_line_lent.specs.Boxes.{IsPutAt}
use Rattle.mw_offset_lent.specs.Offsets.{place_among}
use Rattle.mw_offset_lent.specs.Places.{merged_at}
use Rattle.mw_offset_lent.proofs.Puts.{rows_le}
use Rattle.mw_offset_lent.proofs.Rooms.{places_fit, rows_end}
use Rattle.mw_offset_lent.proofs.Seen.{IsAround, all_seen}
use Rattle.mw_offset_lent.proofs.strips.put_laid.Goals as goal

pub lay_rows-requires-clause-room : goal.lay_rows-requires-clause-room
lay_rows-requires-clause-room g c =
    let l = c.args.work.laid in
    omega (arith, rows_le (c.args.strip.high + 2 * l.around.down) (l.most + 2 * l.around.down) l.wide (omega (arith, c.requires.strip.most)), c.requires.cells)

pub put_rows-requires-clause-inside : goal.put_rows-requires-clause-inside
put_rows-requires-clause-inside g c =
    let k = c.args.work in
    let l = k.laid in
    let work = c.requires.work in
    places_fit k.split.all.now l.around.down l.around.across l.wide l.tile.width k.split.wide k.split.width c.args.strip.high l.most (length c.lay_rows.new.cells) work.wide work.width work.laid.wide c.requires.strip.some c.requires.strip.most
    (omega (arith, c.lay_rows.ensures.size, c.requires.cells)) work.places

pub put_rows-requires-clause-room : goal.put_rows-requires-clause-room
put_rows-requires-clause-room g c =
    let k = c.args.work in
    let w = k.split.width in
    let high = c.args.strip.high in
    let y = c.args.strip.y in
    let fits = rows_le (y + high) k.laid.tile.height w c.requires.strip.within in
    omega (arith, fits, spread y high w, c.requires.room, ap (λ (t : ℕ). k.laid.tile.height * t) c.requires.work.width)
  where
    spread : (a m s : ℕ) → (a + m) * s ≡ a * s + m * s
    spread a m s = omega arith

pub returns-clause-put : goal.returns-clause-put
returns-clause-put g c =
    let k = c.args.work in
    subst (λ (t : ℕ). IsPutAt (c.args.strip.y * t) (c.args.strip.high * t) c.args.out.now c.put_rows.new.out) c.requires.work.width c.put_rows.ensures.put

pub returns-clause-made : goal.returns-clause-made
returns-clause-made g c = λ offsets laid r x few lt.
    let f = g.E.Extremum.merge in
    let laws : IsExtremum f = record { commutes = g.met.E.Extremum.commutes; associates = g.met.E.Extremum.associates; is_idempotent = g.met.E.Extremum.is_idempotent } in
    let n = c.args.neutral in
    let w = c.args.lent.now in
    let k = c.args.work in
    let l = k.laid in
    let y = c.args.strip.y in
    let work = c.requires.work in
    let high = c.args.strip.high in
    let cells = c.lay_rows.new.cells in
    let new = c.put_rows.new.out in
    let row : ℤ = to_z w64 (of_z w64 (to_z w64 (of_z w64 l.row) +ℤ to_z w64 y)) in
    let row-is : row ≡ pos (l.tile.y + y) -ℤ pos l.around.down -ℤ pos w.place.y = omega (arith, ints, work.laid.row, c.requires.strip.within, c.requires.strip.some) in
    let column : ℤ = to_z w64 (of_z w64 l.column) in
    let column-is : column ≡ pos l.tile.x -ℤ pos l.around.across -ℤ pos w.place.x = omega (arith, ints, work.laid.column) in
    let around : IsAround n w l.tile.x l.tile.y l.around column row l.wide 0 l.wide high y cells = record { column_is = column-is; row_is = row-is; cells_are = λ p q from across down. c.lay_rows.ensures.made p q across down } in
    let here : y * l.tile.width + (r * l.tile.width + x) ≡ y * k.split.width + (r * k.split.width + x) = omega (arith, ap (λ (t : ℕ). y * t) work.width, ap (λ (t : ℕ). r * t) work.width) in
    ap (λ (t : ℕ). get_or new t n) here
    ∙ c.put_rows.ensures.made r x few (omega (arith, lt, work.width))
    ∙ ap (λ (t : List ℕ). merged_at f cells n (r * k.split.wide + x) n t) laid.places
    ∙ ap (λ (t : ℕ). merged_at f cells n (r * t + x) n (map (place_among l.around l.wide) offsets)) work.wide
    ∙ all_seen f laws n w l.tile.x l.tile.y l.around column row l.wide 0 l.wide high y cells around x r (omega arith) (omega (arith, lt, work.laid.wide)) few offsets laid.within n (laws.is_idempotent n)

pub put_rows-requires-clause-cells : goal.put_rows-requires-clause-cells
put_rows-requires-clause-cells g c =
    let k = c.args.work in
    let l = k.laid in
    let work = c.requires.work in
    rows_end l.around.down l.around.across l.wide l.tile.width k.split.wide k.split.width c.args.strip.high l.most (length c.lay_rows.new.cells) work.wide work.width work.laid.wide c.requires.strip.some c.requires.strip.most
    (omega (arith, c.lay_rows.ensures.size, c.requires.cells))

pub lay_rows-requires-clause-near : goal.lay_rows-requires-clause-near
lay_rows-requires-clause-near g c = omega (arith, ints, c.requires.work.laid.row, c.requires.strip.within, c.requires.strip.some)
