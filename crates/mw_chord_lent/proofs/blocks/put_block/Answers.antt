use Rattle.std.proofs.Common.{◌≡◌, ℕ, ℤ, ◌+◌, ◌-◌, ◌*◌, ◌<◌, ◌+ℤ◌, ◌-ℤ◌, length, to_z, of_z, w64, ap, arith, ◌∙◌, add_assoc, fold, flat_map}
use Rattle.std.specs.Option.{unwrap_or}
use Rattle.std.proofs.lemmas.Int.{ints}
use Rattle.mw_model.specs.declared.offsets.Rect.{Rect}
use Rattle.mw_model.specs.Rasters.{seen_under}
use Rattle.mw_model.specs.Rectangles.{nonnegative}
use Rattle.mw_model.specs.Windows.{seen_at}
use Rattle.mw_line.proofs.Folds.{IsExtremum}
use Rattle.mw_offset.specs.mw_element_runs.Runs.{run_offsets}
use Rattle.mw_offset.specs.MergedAt.{run_extremum}
use Rattle.mw_offset.proofs.Seens.{IsLaidBy, gather_spread}
use Rattle.mw_chord_lent.proofs.Places.{below_gathered, placed_all, placed_fit}
use Rattle.mw_chord_lent.proofs.Puts.{rows_le}
use Rattle.mw_chord_lent.proofs.Works.{cells_fit, chunk_cells, lists_fit, rows_fit_in, runs_room}
use Rattle.mw_chord_lent.proofs.blocks.put_block.Goals as goal

pub lay_rows-requires-clause-room : goal.lay_rows-requires-clause-room
lay_rows-requires-clause-room g c =
    let work = c.requires.work.1 in
    let high : c.args.work.plan.high + c.rows_after.result ≡ c.args.work.plan.high + nonnegative (c.args.work.extent.bottom -ℤ c.args.work.extent.top) = ap (λ (t : ℕ). c.args.work.plan.high + t) c.rows_after.ensures.value in
    omega (arith, ap (λ (t : ℕ). t * c.args.work.plan.wide) high, cells_fit g.P.Laned.WIDTH c.requires.work.0 c.args.work work, lists_fit g.P.Laned.WIDTH c.requires.work.0 c.args.work work, c.requires.lists)

pub lay_rows-requires-clause-few : goal.lay_rows-requires-clause-few
lay_rows-requires-clause-few g c =
    let plan = c.requires.work.1.plan in
    omega (arith, plan.low, plan.few, c.rows_after.ensures.value)

pub lay_rows-requires-clause-near : goal.lay_rows-requires-clause-near
lay_rows-requires-clause-near g c =
    let work = c.requires.work.1 in
    omega (arith, ints, c.first_row.ensures.value, work.low, c.requires.down, work.plan.some)

pub grow-requires-clause-chain : goal.grow-requires-clause-chain
grow-requires-clause-chain g c = c.requires.work.1.chain.chain

pub grow-requires-clause-ahead : goal.grow-requires-clause-ahead
grow-requires-clause-ahead g c = λ j lt.
    let work = c.requires.work.1 in
    omega (arith, work.plan.span_is, work.chain.within j lt)

pub grow-requires-clause-room : goal.grow-requires-clause-room
grow-requires-clause-room g c = omega (arith, c.requires.lists, c.lay_rows.ensures.size)

pub put_rows-requires-clause-lanes : goal.put_rows-requires-clause-lanes
put_rows-requires-clause-lanes g c = c.requires.work.1.plan.lanes_fit

pub put_rows-requires-clause-apart : goal.put_rows-requires-clause-apart
put_rows-requires-clause-apart g c = c.requires.work.1.plan.across

pub put_rows-requires-clause-cells : goal.put_rows-requires-clause-cells
put_rows-requires-clause-cells g c =
    let lanes = g.P.Laned.WIDTH in
    let runs = c.requires.work.0 in
    let k = c.args.work in
    let work = c.requires.work.1 in
    omega (arith, rows_fit_in lanes runs k work, lists_fit lanes runs k work, c.requires.lists, c.lay_rows.ensures.size, c.grow.ensures.size)

pub put_rows-requires-clause-inside : goal.put_rows-requires-clause-inside
put_rows-requires-clause-inside g c =
    let lanes = g.P.Laned.WIDTH in
    let runs = c.requires.work.0 in
    let k = c.args.work in
    let work = c.requires.work.1 in
    placed_fit k.sizes.now k.plan.span (k.plan.chunks * (32 * lanes)) (length c.grow.new.lists) work.chain.chain (omega (arith, work.plan.span_is)) (omega (arith, c.requires.lists, c.lay_rows.ensures.size, c.grow.ensures.size))
    k.extent k.plan.wide ((k.plan.high - 1) * k.plan.wide + k.plan.width) runs k.places.now (runs_room lanes runs k work) work.placed

pub put_rows-requires-clause-room : goal.put_rows-requires-clause-room
put_rows-requires-clause-room g c =
    let k = c.args.work in
    let work = c.requires.work.1 in
    let apart = k.tile.width in
    let y = c.args.corner.y in
    let high = k.plan.high in
    let rows = rows_le (y + (high - 1) + 1) k.tile.height apart (omega (arith, c.requires.down, work.plan.some)) in
    omega (arith, rows, spread y (high - 1) apart, c.requires.across, c.requires.room)
  where
    spread : (a b m : ℕ) → (a + b + 1) * m ≡ a * m + b * m + m
    spread a b m = omega arith

pub returns-clause-lists : goal.returns-clause-lists
returns-clause-lists g c = c.grow.ensures.size ∙ c.lay_rows.ensures.size

pub returns-clause-put : goal.returns-clause-put
returns-clause-put g c = c.put_rows.ensures.put

pub returns-clause-made : goal.returns-clause-made
returns-clause-made g c = λ runs work r i few lt.
    let f = g.E.Extremum.merge in
    let laws : IsExtremum f = record { commutes = g.met.E.Extremum.commutes; associates = g.met.E.Extremum.associates; is_idempotent = g.met.E.Extremum.is_idempotent } in
    let lanes = g.P.Laned.WIDTH in
    let n = c.args.neutral in
    let w = c.args.lent.now in
    let k = c.args.work in
    let e = k.extent in
    let p = k.plan in
    let tile = k.tile in
    let corner = c.args.corner in
    let cells = c.lay_rows.new.out in
    let lists = c.grow.new.lists in
    let q = r * p.wide + i in
    let count = (p.high - 1) * p.wide + p.width in
    let high = p.high + c.rows_after.result in
    let value = run_extremum f cells n e p.wide q in
    let place_x = ap (λ (t : Rect). t.x) c.place-place.ensures.value in
    let place_y = ap (λ (t : Rect). t.y) c.place-place.ensures.value in
    let column : ℤ = to_z w64 (of_z w64 (to_z w64 (of_z w64 c.first_column.result) +ℤ to_z w64 corner.x)) in
    let row : ℤ = to_z w64 (of_z w64 (to_z w64 (of_z w64 c.first_row.result) +ℤ to_z w64 corner.y)) in
    let block : Rect = record { x = tile.x + corner.x; y = tile.y + corner.y; width = p.width; height = p.high } in
    let high-is : high ≡ p.high + nonnegative (e.bottom -ℤ e.top) = ap (λ (t : ℕ). p.high + t) c.rows_after.ensures.value in
    let laid : IsLaidBy (λ o. unwrap_or o n) n w block e p.wide high column row cells = record {
      wide_is = work.plan.wide_is;
      high_is = high-is;
      column_is = omega (arith, ints, c.first_column.ensures.value, c.first_column.ensures.low, c.first_column.ensures.high, place_x, c.requires.across);
      row_is = omega (arith, ints, c.first_row.ensures.value, c.first_row.ensures.low, c.first_row.ensures.high, place_y, c.requires.down);
      size = omega (arith, ap (λ (t : ℕ). t * p.wide) high-is, cells_fit lanes runs k work, lists_fit lanes runs k work, c.requires.lists, c.lay_rows.ensures.size);
      cells_are = λ x y less row_less. c.lay_rows.ensures.made x y less row_less;
    } in
    let less : q < count = chunk_cells p.wide p.width p.high r i few lt in
    c.put_rows.ensures.made r i few lt
    ∙ placed_all f laws cells lists k.sizes.now p.span (p.chunks * (32 * lanes)) work.chain.chain c.grow.ensures.grown n e p.wide count q less n (laws.is_idempotent n) runs k.places.now (runs_room lanes runs k work) work.placed
    ∙ below_gathered f laws n value runs
    ∙ gather_spread f laws n w block e p.wide high column row cells laid runs work.inside i r lt few
    ∙ ap (λ (t : ℕ). fold f n (seen_under (seen_at w) (flat_map run_offsets runs) t (tile.y + corner.y + r))) (add_assoc tile.x corner.x i)
    ∙ ap (λ (t : ℕ). fold f n (seen_under (seen_at w) (flat_map run_offsets runs) (tile.x + (corner.x + i)) t)) (add_assoc tile.y corner.y r)
