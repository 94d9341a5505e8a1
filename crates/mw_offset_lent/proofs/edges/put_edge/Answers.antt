use Rattle.std.proofs.Common.{◌≡◌, ℕ, ℤ, pos, ◌+◌, ◌-◌, ◌*◌, ◌≤◌, ◌+ℤ◌, ◌-ℤ◌, List, length, fold, get_or, map, ap, refl, subst, sym, arith, inl, inr, ◌∙◌, length-drop}
use Rattle.std.specs.List.{AllByRecursion}
use Rattle.std.proofs.lemmas.Int.{ints}
use Rattle.std.proofs.lemmas.List.{get_or-drop}
use Rattle.std.proofs.lemmas.Nat.{mul-le}
use Rattle.mw_model.specs.declared.offsets.Rect.{Rect}
use Rattle.mw_model.specs.Rasters.{seen_under}
use Rattle.mw_model.specs.Windows.{seen_at}
use Rattle.mw_line.proofs.Folds.{IsExtremum}
use Rattle.mw_offset_lent.specs.EdgeCells.{edge_cell}
use Rattle.mw_offset_lent.specs.Offsets.{place_among}
use Rattle.mw_offset_lent.specs.Places.{merged_at}
use Rattle.mw_offset_lent.proofs.CellsOfEdges.{IsEdge, column_at, edge_end, edge_seen, row_at, source_fits}
use Rattle.mw_offset_lent.proofs.EdgeColumns.{beside_columns, columns_put}
use Rattle.mw_offset_lent.proofs.Puts.{rows_le}
use Rattle.mw_offset_lent.proofs.Seen.{IsAround, all_seen}
use Rattle.mw_offset_lent.proofs.Standing.{is_from, standing_fit}
use Rattle.mw_offset_lent.proofs.edges.put_edge.Goals as goal

next : (a m : ℕ) → (a + 1) * m ≡ a * m + m
next a m = omega arith

spread : (a m s : ℕ) → (a + m) * s ≡ a * s + m * s
spread a m s = omega arith

-- rows of cells of an edge have room
edge_room : (high down most wide lanes size : ℕ) → high ≤ most → 4 * lanes ≤ wide → (most + 2 * down) * wide ≤ size → (high + 2 * down) * (4 * lanes) ≤ size
edge_room high down most wide lanes size few less fits = omega (arith, mul-le (high + 2 * down) (4 * lanes) (most + 2 * down) wide (omega (arith, few)) less, fits)

pub before_row-before-requires-clause-few : goal.before_row-before-requires-clause-few
before_row-before-requires-clause-few g c = omega (arith, c.requires.strip.within, c.requires.strip.some)

pub before_row-before-requires-clause-bottom : goal.before_row-before-requires-clause-bottom
before_row-before-requires-clause-bottom g c =
    let lines = c.requires.work.lines c.requires.lines.some in
    omega (arith, ints, c.requires.lines.bottom, lines.all, ap (λ (t : Rect). t.height) c.place-place.ensures.value)

pub before_row-before-requires-clause-left : goal.before_row-before-requires-clause-left
before_row-before-requires-clause-left g c =
    let lines = c.requires.work.lines c.requires.lines.some in
    omega (arith, lines.left, ap (λ (t : Rect). t.x) c.place-place.ensures.value)

pub before_row-before-requires-clause-across : goal.before_row-before-requires-clause-across
before_row-before-requires-clause-across g c =
    let lines = c.requires.work.lines c.requires.lines.some in
    omega (arith, lines.across, lines.room, lines.right, ap (λ (t : Rect). t.width) c.place-place.ensures.value)

pub lay_edge_rows-requires-clause-samples : goal.lay_edge_rows-requires-clause-samples
lay_edge_rows-requires-clause-samples g c =
    let w = c.args.lent.now in
    let k = c.args.work in
    let l = k.laid in
    let s = c.args.edge.strip in
    let lanes = g.P.Laned.WIDTH in
    let work = c.requires.work in
    let lines = work.lines c.requires.lines.some in
    let first = l.tile.y + s.y - (l.around.down + w.place.y) in
    let before = c.before_row-before.result in
    let seen = c.min-seen.result in
    let here = is_from lanes w k s c.place-place.result before work c.requires.lines c.place-place.ensures.value c.before_row-before.ensures in
    let wide : first * k.inner.wide ≡ first * l.tile.width = ap (λ (t : ℕ). first * t) (let e : k.inner.wide ≡ l.tile.width = omega (arith, lines.wide, lines.right) in e) in
    let start-is : before + l.around.across + seen ≡ first * l.tile.width + seen = omega (arith, here.from_is, lines.left, wide) in
    let fits : seen + 2 * lanes ≤ l.tile.width = omega (arith, c.min-seen.ensures, lines.room, c.WIDTH-lanes.ensures) in
    let size : length c.samples-samples.result.now ≡ w.place.height * l.tile.width = ap length c.samples-samples.ensures.value ∙ c.samples-samples.ensures.size ∙ ap (λ (t : ℕ). w.place.height * t) (sym lines.right) in
    source_fits first s.high l.around.down l.tile.width w.place.height seen (2 * lanes) (before + l.around.across + seen) (length c.samples-samples.result.now) start-is fits c.requires.strip.some here.below size

pub lay_edge_rows-requires-clause-room : goal.lay_edge_rows-requires-clause-room
lay_edge_rows-requires-clause-room g c =
    let l = c.args.work.laid in
    let work = c.requires.work in
    let lines = work.lines c.requires.lines.some in
    edge_room c.args.edge.strip.high l.around.down l.most l.wide g.P.Laned.WIDTH (length c.args.cells.now) c.requires.strip.most (omega (arith, lines.room, work.laid.wide)) c.requires.cells

pub overflow_sub-ahead : goal.overflow_sub-ahead
overflow_sub-ahead g c =
    let lines = c.requires.work.lines c.requires.lines.some in
    omega (arith, c.min-seen.ensures, c.WIDTH-lanes.ensures, lines.across)

pub rest_from-behind-requires : goal.rest_from-behind-requires
rest_from-behind-requires g c =
    let l = c.args.work.laid in
    let s = c.args.edge.strip in
    let lanes = g.P.Laned.WIDTH in
    let work = c.requires.work in
    let lines = work.lines c.requires.lines.some in
    let room = edge_room s.high l.around.down l.most l.wide lanes (length c.args.cells.now) c.requires.strip.most (omega (arith, lines.room, work.laid.wide)) c.requires.cells in
    let one : 1 * (4 * lanes) ≤ (s.high + 2 * l.around.down) * (4 * lanes) = rows_le 1 (s.high + 2 * l.around.down) (4 * lanes) (omega (arith, c.requires.strip.some)) in
    elim c.requires.from [
      | inl left ↦ omega (arith, left, one, room, c.lay_edge_rows.ensures.size, c.min-seen.ensures, c.WIDTH-lanes.ensures)
      | inr right ↦ omega (arith, right, one, room, c.lay_edge_rows.ensures.size, c.min-seen.ensures, c.WIDTH-lanes.ensures, lines.room)
    ]

pub put_vectors-requires-clause-cells : goal.put_vectors-requires-clause-cells
put_vectors-requires-clause-cells g c =
    let k = c.args.work in
    let l = k.laid in
    let s = c.args.edge.strip in
    let lanes = g.P.Laned.WIDTH in
    let across = l.around.across in
    let work = c.requires.work in
    let lines = work.lines c.requires.lines.some in
    let seen = c.min-seen.result in
    let ahead = c.args.edge.from - seen + c.WIDTH-lanes.result - across in
    let rest = length c.rest_from-behind.result.now in
    let room = edge_room s.high l.around.down l.most l.wide lanes (length c.args.cells.now) c.requires.strip.most (omega (arith, lines.room, work.laid.wide)) c.requires.cells in
    let near : ahead + across ≤ 2 * lanes = elim c.requires.from [
      | inl left ↦ omega (arith, left, c.min-seen.ensures, c.WIDTH-lanes.ensures, lines.across)
      | inr right ↦ omega (arith, right, c.min-seen.ensures, c.WIDTH-lanes.ensures, lines.across, lines.room)
    ] in
    let one : 1 * (4 * lanes) ≤ (s.high + 2 * l.around.down) * (4 * lanes) = rows_le 1 (s.high + 2 * l.around.down) (4 * lanes) (omega (arith, c.requires.strip.some)) in
    let size : length c.lay_edge_rows.new.cells ≡ ahead + rest = omega (arith, ap length c.rest_from-behind.ensures, length-drop ahead c.lay_edge_rows.new.cells, near, one, room, c.lay_edge_rows.ensures.size) in
    let ends : 2 * l.around.down * (4 * lanes) + 2 * across + ((s.high - 1) * (4 * lanes) + lanes) ≤ rest = edge_end lanes across l.around.down s.high ahead (length c.lay_edge_rows.new.cells) rest lines.across near c.requires.strip.some (omega (arith, room, c.lay_edge_rows.ensures.size)) size in
    subst (λ (t : ℕ). (s.high - 1) * t + lanes ≤ rest) (sym lines.narrow) (omega (arith, ends))

pub put_vectors-requires-clause-inside : goal.put_vectors-requires-clause-inside
put_vectors-requires-clause-inside g c =
    let k = c.args.work in
    let l = k.laid in
    let s = c.args.edge.strip in
    let lanes = g.P.Laned.WIDTH in
    let across = l.around.across in
    let work = c.requires.work in
    let lines = work.lines c.requires.lines.some in
    let seen = c.min-seen.result in
    let ahead = c.args.edge.from - seen + c.WIDTH-lanes.result - across in
    let rest = length c.rest_from-behind.result.now in
    let room = edge_room s.high l.around.down l.most l.wide lanes (length c.args.cells.now) c.requires.strip.most (omega (arith, lines.room, work.laid.wide)) c.requires.cells in
    let near : ahead + across ≤ 2 * lanes = elim c.requires.from [
      | inl left ↦ omega (arith, left, c.min-seen.ensures, c.WIDTH-lanes.ensures, lines.across)
      | inr right ↦ omega (arith, right, c.min-seen.ensures, c.WIDTH-lanes.ensures, lines.across, lines.room)
    ] in
    let one : 1 * (4 * lanes) ≤ (s.high + 2 * l.around.down) * (4 * lanes) = rows_le 1 (s.high + 2 * l.around.down) (4 * lanes) (omega (arith, c.requires.strip.some)) in
    let size : length c.lay_edge_rows.new.cells ≡ ahead + rest = omega (arith, ap length c.rest_from-behind.ensures, length-drop ahead c.lay_edge_rows.new.cells, near, one, room, c.lay_edge_rows.ensures.size) in
    let ends : 2 * l.around.down * (4 * lanes) + 2 * across + ((s.high - 1) * (4 * lanes) + lanes) ≤ rest = edge_end lanes across l.around.down s.high ahead (length c.lay_edge_rows.new.cells) rest lines.across near c.requires.strip.some (omega (arith, room, c.lay_edge_rows.ensures.size)) size in
    subst (λ (t : ℕ). AllByRecursion (λ p. p + ((s.high - 1) * t + lanes) ≤ rest) k.edges.now) (sym lines.narrow)
    (standing_fit k.edges.now l.around.down across (4 * lanes) lanes s.high rest ends (subst (λ (t : ℕ). AllByRecursion (λ p. p ≤ 2 * l.around.down * t + 2 * across) k.edges.now) lines.narrow lines.edges))

pub put_vectors-requires-clause-apart : goal.put_vectors-requires-clause-apart
put_vectors-requires-clause-apart g c =
    let lines = c.requires.work.lines c.requires.lines.some in
    omega (arith, lines.room)

pub put_vectors-requires-clause-room : goal.put_vectors-requires-clause-room
put_vectors-requires-clause-room g c =
    let e = c.args.edge in
    let w = c.args.work.laid.tile.width in
    let high = e.strip.high in
    let lines = c.requires.work.lines c.requires.lines.some in
    let fits = rows_le (e.strip.y + high) c.args.work.laid.tile.height w c.requires.strip.within in
    let last : (high - 1) * w + w ≡ high * w = omega (arith, next (high - 1) w, ap (λ (t : ℕ). t * w) (let h : high - 1 + 1 ≡ high = omega (arith, c.requires.strip.some) in h)) in
    elim c.requires.from [
      | inl left ↦ omega (arith, fits, spread e.strip.y high w, last, left, lines.room, c.requires.room)
      | inr right ↦ omega (arith, fits, spread e.strip.y high w, last, right, lines.room, c.requires.room)
    ]

pub returns-clause-put : goal.returns-clause-put
returns-clause-put g c =
    let e = c.args.edge in
    let w = c.args.work.laid.tile.width in
    let lines = c.requires.work.lines c.requires.lines.some in
    let fits : e.from + g.P.Laned.WIDTH ≤ w = elim c.requires.from [ inl left ↦ omega (arith, left, lines.room) | inr right ↦ omega (arith, right) ] in
    columns_put e.strip.high (e.strip.y * w) e.from g.P.Laned.WIDTH w c.args.out.now c.put_vectors.new.out fits c.put_vectors.ensures.put

pub returns-clause-kept : goal.returns-clause-kept
returns-clause-kept g c = λ r x few lt out.
    let e = c.args.edge in
    let w = c.args.work.laid.tile.width in
    let lines = c.requires.work.lines c.requires.lines.some in
    let fits : e.from + g.P.Laned.WIDTH ≤ w = elim c.requires.from [ inl left ↦ omega (arith, left, lines.room) | inr right ↦ omega (arith, right) ] in
    c.put_vectors.ensures.put.kept (e.strip.y * w + (r * w + x)) c.args.neutral (λ q less. beside_columns w (e.strip.y * w) e.from g.P.Laned.WIDTH r x q fits lt out)

pub returns-clause-made : goal.returns-clause-made
returns-clause-made g c = λ offsets laid r x few late early.
    let f = g.E.Extremum.merge in
    let laws : IsExtremum f = record { commutes = g.met.E.Extremum.commutes; associates = g.met.E.Extremum.associates; is_idempotent = g.met.E.Extremum.is_idempotent } in
    let n = c.args.neutral in
    let w = c.args.lent.now in
    let k = c.args.work in
    let l = k.laid in
    let e = c.args.edge in
    let s = e.strip in
    let y = s.y in
    let work = c.requires.work in
    let lines = work.lines c.requires.lines.some in
    let lanes = g.P.Laned.WIDTH in
    let across = l.around.across in
    let first = l.tile.y + y - (l.around.down + w.place.y) in
    let before = c.before_row-before.result in
    let seen = c.min-seen.result in
    let ahead = e.from - seen + c.WIDTH-lanes.result - across in
    let start = before + across + seen in
    let laid_cells = c.lay_edge_rows.new.cells in
    let cells = c.rest_from-behind.result.now in
    let new = c.put_vectors.new.out in
    let here = is_from lanes w k s c.place-place.result before work c.requires.lines c.place-place.ensures.value c.before_row-before.ensures in
    let edge : IsEdge lanes across l.tile.width e.from seen ahead = elim c.requires.from [
      | inl left ↦
          let none : seen ≡ 0 = omega (arith, left, c.min-seen.ensures) in
          record { ahead_is = omega (arith, left, none, lines.across, c.WIDTH-lanes.ensures); side = inl (left, none); few = lines.across; wide = lines.room }
      | inr right ↦
          let last : seen + 2 * lanes ≡ l.tile.width = omega (arith, right, c.min-seen.ensures, c.WIDTH-lanes.ensures, lines.room) in
          record { ahead_is = omega (arith, right, last, lines.across, c.WIDTH-lanes.ensures); side = inr (right, last); few = lines.across; wide = lines.room }
    ] in
    let wide : first * k.inner.wide ≡ first * l.tile.width = ap (λ (t : ℕ). first * t) (let q : k.inner.wide ≡ l.tile.width = omega (arith, lines.wide, lines.right) in q) in
    let start-is : start ≡ first * l.tile.width + seen = omega (arith, here.from_is, lines.left, wide) in
    let row : ℤ = l.row +ℤ pos y in
    let row-is : row ≡ pos (l.tile.y + y) -ℤ pos l.around.down -ℤ pos w.place.y = row_at l.row l.tile.y y l.around.down w.place.y work.laid.row in
    let column : ℤ = pos e.from -ℤ pos across in
    let column-is : column ≡ pos (l.tile.x + e.from) -ℤ pos across -ℤ pos w.place.x = column_at l.tile.x e.from across w.place.x lines.left in
    let around : IsAround n w (l.tile.x + e.from) l.tile.y l.around column row (4 * lanes) 0 (2 * lanes + across) s.high y cells =
    record {
      column_is = column-is;
      row_is = row-is;
      cells_are = λ p q from_p to_p down.
          let there : ahead + (q * (4 * lanes) + p) ≡ q * (4 * lanes) + (p + ahead) = omega arith in
          ap (λ (t : List g.row.P.Denot). get_or t (q * (4 * lanes) + p) n) c.rest_from-behind.ensures
          ∙ get_or-drop ahead laid_cells (q * (4 * lanes) + p) n
          ∙ ap (λ (t : ℕ). get_or laid_cells t n) there
          ∙ c.lay_edge_rows.ensures.made q (p + ahead) down (elim c.requires.from [
            | inl left ↦ omega (arith, to_p, left, edge.ahead_is, edge.wide, lines.across)
            | inr right ↦ omega (arith, to_p, right, edge.ahead_is, c.min-seen.ensures, c.WIDTH-lanes.ensures, lines.room)
          ])
          ∙ ap (λ (t : List g.row.P.Denot). edge_cell n t lanes (start + q * l.tile.width) (p + ahead)) c.samples-samples.ensures.value
          ∙ edge_seen n w column row lanes across l.tile.width e.from seen ahead first start p q edge c.samples-samples.ensures.size lines.right here.row_is refl start-is to_p (omega (arith, down, here.below));
    } in
    let i = x - e.from in
    let at : y * l.tile.width + (r * l.tile.width + x) ≡ y * l.tile.width + e.from + r * l.tile.width + i = omega (arith, late) in
    let there : l.tile.x + e.from + i ≡ l.tile.x + x = omega (arith, late) in
    ap (λ (t : ℕ). get_or new t n) at
    ∙ c.put_vectors.ensures.made r i few (omega (arith, late, early))
    ∙ ap (λ (t : List ℕ). merged_at f cells n (r * k.narrow + i) n t) (laid.edges c.requires.lines.some)
    ∙ ap (λ (t : ℕ). merged_at f cells n (r * t + i) n (map (place_among l.around t) offsets)) lines.narrow
    ∙ all_seen f laws n w (l.tile.x + e.from) l.tile.y l.around column row (4 * lanes) 0 (2 * lanes + across) s.high y cells around i r (omega arith) (omega (arith, late, early, lines.across)) few offsets laid.within n (laws.is_idempotent n)
    ∙ ap (λ (t : ℕ). fold f n (seen_under (seen_at w) offsets t (l.tile.y + (y + r)))) there

pub overflow_add-source : goal.overflow_add-source
overflow_add-source g c =
    let w = c.args.lent.now in
    let k = c.args.work in
    let l = k.laid in
    let s = c.args.edge.strip in
    let work = c.requires.work in
    let lines = work.lines c.requires.lines.some in
    let first = l.tile.y + s.y - (l.around.down + w.place.y) in
    let before = c.before_row-before.result in
    let here = is_from g.P.Laned.WIDTH w k s c.place-place.result before work c.requires.lines c.place-place.ensures.value c.before_row-before.ensures in
    let wide : first * k.inner.wide ≡ first * l.tile.width = ap (λ (t : ℕ). first * t) (let e : k.inner.wide ≡ l.tile.width = omega (arith, lines.wide, lines.right) in e) in
    let small : first ≤ 4294967295 = omega (arith, here.below, ap (λ (t : Rect). t.height) c.place-place.ensures.value) in
    omega (arith, here.from_is, lines.left, wide, mul-le first l.tile.width 4294967295 l.tile.width small (omega arith))

pub overflow_add-source-2 : goal.overflow_add-source-2
overflow_add-source-2 g c =
    let w = c.args.lent.now in
    let k = c.args.work in
    let l = k.laid in
    let s = c.args.edge.strip in
    let work = c.requires.work in
    let lines = work.lines c.requires.lines.some in
    let first = l.tile.y + s.y - (l.around.down + w.place.y) in
    let before = c.before_row-before.result in
    let here = is_from g.P.Laned.WIDTH w k s c.place-place.result before work c.requires.lines c.place-place.ensures.value c.before_row-before.ensures in
    let wide : first * k.inner.wide ≡ first * l.tile.width = ap (λ (t : ℕ). first * t) (let e : k.inner.wide ≡ l.tile.width = omega (arith, lines.wide, lines.right) in e) in
    let small : first ≤ 4294967295 = omega (arith, here.below, ap (λ (t : Rect). t.height) c.place-place.ensures.value) in
    omega (arith, here.from_is, lines.left, wide, mul-le first l.tile.width 4294967295 l.tile.width small (omega arith), c.min-seen.ensures)
