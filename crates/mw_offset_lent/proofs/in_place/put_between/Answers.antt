use Rattle.std.proofs.Common.{◌≡◌, ℕ, ℤ, pos, ◌+◌, ◌-◌, ◌*◌, ◌+ℤ◌, ◌-ℤ◌, List, length, drop, get_or, ap, subst, arith, ◌∙◌}
use Rattle.std.proofs.lemmas.Int.{ints}
use Rattle.mw_model.specs.declared.offsets.Rect.{Rect}
use Rattle.mw_line.proofs.Folds.{IsExtremum}
use Rattle.mw_line_lent.specs.Boxes.{IsPutAt}
use Rattle.mw_offset_lent.specs.Places.{merged_at}
use Rattle.mw_offset_lent.proofs.Puts.{rows_le}
use Rattle.mw_offset_lent.proofs.Seen.{IsAround, all_seen}
use Rattle.mw_offset_lent.proofs.Standing.{from_fits, from_size, is_from, standing_cell, standing_end, standing_fit}
use Rattle.mw_offset_lent.proofs.in_place.put_between.Goals as goal

pub before_row-from-requires-clause-few : goal.before_row-from-requires-clause-few
before_row-from-requires-clause-few g c = omega (arith, c.requires.strip.within, c.requires.strip.some)

pub before_row-from-requires-clause-bottom : goal.before_row-from-requires-clause-bottom
before_row-from-requires-clause-bottom g c =
    let lines = c.requires.work.lines c.requires.lines.some in
    omega (arith, ints, c.requires.lines.bottom, lines.all, ap (λ (t : Rect). t.height) c.place-place.ensures.value)

pub before_row-from-requires-clause-left : goal.before_row-from-requires-clause-left
before_row-from-requires-clause-left g c =
    let lines = c.requires.work.lines c.requires.lines.some in
    omega (arith, lines.left, ap (λ (t : Rect). t.x) c.place-place.ensures.value)

pub before_row-from-requires-clause-across : goal.before_row-from-requires-clause-across
before_row-from-requires-clause-across g c =
    let lines = c.requires.work.lines c.requires.lines.some in
    omega (arith, lines.across, lines.split.room, lines.split.within, lines.wide, ap (λ (t : Rect). t.width) c.place-place.ensures.value)

pub rest_from-seen-requires : goal.rest_from-seen-requires
rest_from-seen-requires g c =
    let w = c.args.lent.now in
    let k = c.args.work in
    let work = c.requires.work in
    let lines = work.lines c.requires.lines.some in
    let l = k.laid in
    let s = c.args.strip in
    let here = is_from g.P.Laned.WIDTH w k s c.place-place.result c.before_row-from.result work c.requires.lines c.place-place.ensures.value c.before_row-from.ensures in
    omega (arith, from_fits w k s c.before_row-from.result (l.tile.y + s.y - (l.around.down + w.place.y)) (l.tile.x - w.place.x) here lines.wide c.samples-samples.ensures.size, ap length c.samples-samples.ensures.value)

pub put_rows-requires-clause-split : goal.put_rows-requires-clause-split
put_rows-requires-clause-split g c = let lines = c.requires.work.lines c.requires.lines.some in lines.split

pub put_rows-requires-clause-cells : goal.put_rows-requires-clause-cells
put_rows-requires-clause-cells g c =
    let w = c.args.lent.now in
    let k = c.args.work in
    let l = k.laid in
    let work = c.requires.work in
    let lines = work.lines c.requires.lines.some in
    let s = c.args.strip in
    let first = l.tile.y + s.y - (l.around.down + w.place.y) in
    let ahead = l.tile.x - w.place.x in
    let from = c.before_row-from.result in
    let seen = c.rest_from-seen.result.now in
    let here = is_from g.P.Laned.WIDTH w k c.args.strip c.place-place.result from work c.requires.lines c.place-place.ensures.value c.before_row-from.ensures in
    let seen-is : seen ≡ drop from w.cells = c.rest_from-seen.ensures ∙ ap (drop from) c.samples-samples.ensures.value in
    let size : from + length seen ≡ w.place.height * k.inner.wide = ap (λ (t : List g.row.P.Denot). from + length t) seen-is ∙ from_size w k s from first ahead here lines.wide c.samples-samples.ensures.size in
    omega (arith, standing_end l.around.down l.around.across k.inner.wide k.inner.width ahead s.high first w.place.height from (length seen) here.from_is here.inside here.few c.requires.strip.some here.below size)

pub put_rows-requires-clause-inside : goal.put_rows-requires-clause-inside
put_rows-requires-clause-inside g c =
    let w = c.args.lent.now in
    let k = c.args.work in
    let l = k.laid in
    let work = c.requires.work in
    let lines = work.lines c.requires.lines.some in
    let s = c.args.strip in
    let first = l.tile.y + s.y - (l.around.down + w.place.y) in
    let ahead = l.tile.x - w.place.x in
    let from = c.before_row-from.result in
    let seen = c.rest_from-seen.result.now in
    let here = is_from g.P.Laned.WIDTH w k c.args.strip c.place-place.result from work c.requires.lines c.place-place.ensures.value c.before_row-from.ensures in
    let seen-is : seen ≡ drop from w.cells = c.rest_from-seen.ensures ∙ ap (drop from) c.samples-samples.ensures.value in
    let size : from + length seen ≡ w.place.height * k.inner.wide = ap (λ (t : List g.row.P.Denot). from + length t) seen-is ∙ from_size w k s from first ahead here lines.wide c.samples-samples.ensures.size in
    standing_fit k.inner.all.now l.around.down l.around.across k.inner.wide k.inner.width c.args.strip.high (length seen)
    (standing_end l.around.down l.around.across k.inner.wide k.inner.width ahead s.high first w.place.height from (length seen) here.from_is here.inside here.few c.requires.strip.some here.below size) lines.places

pub put_rows-requires-clause-room : goal.put_rows-requires-clause-room
put_rows-requires-clause-room g c =
    let k = c.args.work in
    let lines = c.requires.work.lines c.requires.lines.some in
    let w = k.inner.width in
    let high = c.args.strip.high in
    let y = c.args.strip.y in
    let fits = rows_le (y + high) k.laid.tile.height w c.requires.strip.within in
    omega (arith, fits, spread y high w, c.requires.room, ap (λ (t : ℕ). k.laid.tile.height * t) lines.width)
  where
    spread : (a m s : ℕ) → (a + m) * s ≡ a * s + m * s
    spread a m s = omega arith

pub returns-clause-put : goal.returns-clause-put
returns-clause-put g c =
    let lines = c.requires.work.lines c.requires.lines.some in
    subst (λ (t : ℕ). IsPutAt (c.args.strip.y * t) (c.args.strip.high * t) c.args.out.now c.put_rows.new.out) lines.width c.put_rows.ensures.put

pub returns-clause-made : goal.returns-clause-made
returns-clause-made g c = λ offsets laid r x few late early.
    let f = g.E.Extremum.merge in
    let laws : IsExtremum f = record { commutes = g.met.E.Extremum.commutes; associates = g.met.E.Extremum.associates; is_idempotent = g.met.E.Extremum.is_idempotent } in
    let n = c.args.neutral in
    let w = c.args.lent.now in
    let k = c.args.work in
    let l = k.laid in
    let s = c.args.strip in
    let y = s.y in
    let work = c.requires.work in
    let lines = work.lines c.requires.lines.some in
    let across = l.around.across in
    let from = c.before_row-from.result in
    let cells = c.rest_from-seen.result.now in
    let new = c.put_rows.new.out in
    let first = l.tile.y + y - (l.around.down + w.place.y) in
    let ahead = l.tile.x - w.place.x in
    let at = is_from g.P.Laned.WIDTH w k s c.place-place.result from work c.requires.lines c.place-place.ensures.value c.before_row-from.ensures in
    let seen-is : cells ≡ drop from w.cells = c.rest_from-seen.ensures ∙ ap (drop from) c.samples-samples.ensures.value in
    let row : ℤ = l.row +ℤ pos y in
    let row-is : row ≡ pos (l.tile.y + y) -ℤ pos l.around.down -ℤ pos w.place.y = omega (arith, ints, work.laid.row) in
    let around : IsAround n w l.tile.x l.tile.y l.around l.column row k.inner.wide across (l.tile.width + across) s.high y cells =
    record {
      column_is = work.laid.column;
      row_is = row-is;
      cells_are = λ p q from_p to_p down. ap (λ (t : List g.row.P.Denot). get_or t (q * k.inner.wide + p) n) seen-is
          ∙ standing_cell n w l.column row first ahead across from k.inner.wide p q c.samples-samples.ensures.size lines.wide at.row_is at.column_is at.from_is from_p (omega (arith, to_p, at.inside, lines.width)) (omega (arith, down, at.below));
    } in
    let here : y * l.tile.width + (r * l.tile.width + x) ≡ y * k.inner.width + (r * k.inner.width + x) = omega (arith, ap (λ (t : ℕ). y * t) lines.width, ap (λ (t : ℕ). r * t) lines.width) in
    ap (λ (t : ℕ). get_or new t n) here
    ∙ c.put_rows.ensures.made r x few (omega (arith, early, lines.width))
    ∙ ap (λ (t : List ℕ). merged_at f cells n (r * k.inner.wide + x) n t) (laid.inner c.requires.lines.some)
    ∙ all_seen f laws n w l.tile.x l.tile.y l.around l.column row k.inner.wide across (l.tile.width + across) s.high y cells around x r late (omega (arith, early)) few offsets laid.within n (laws.is_idempotent n)
