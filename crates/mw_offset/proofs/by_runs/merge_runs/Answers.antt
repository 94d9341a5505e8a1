use Rattle.std.proofs.Common.{◌≡◌, ◌+◌, ◌-◌, ◌*◌, ◌-ℤ◌, ◌+ℤ◌, pos, ℕ, ℤ, List, length, get_or, to_z, of_z, w64, ap, subst, refl, ◌∙◌, arith}
use Rattle.std.specs.List.{AllByRecursion}
use Rattle.std.specs.Option.{unwrap_or}
use Rattle.std.proofs.lemmas.Int.{ints}
use Rattle.std.proofs.lemmas.Result.{on_ok_weaker}
use Rattle.mw_model.specs.declared.offsets.Rect.{Rect}
use Rattle.mw_line.proofs.Folds.{IsExtremum}
use Rattle.mw_element_runs.specs.Runs.{RunHasRoom}
use Rattle.mw_offset.proofs.Seens.{IsLaidBy, all_room, more_room, gather_spread}
use Rattle.mw_offset.proofs.by_runs.merge_runs.Goals as goal

pub merge_laid-requires-clause-room : goal.merge_laid-requires-clause-room
merge_laid-requires-clause-room g c =
    let e = c.args.looked.extent in
    let tile = c.args.looked.tile in
    let across = c.columns_after.ensures.value in
    let down = c.rows_after.ensures.value in
    let wide = tile.width + c.columns_after.result in
    let high = tile.height + c.rows_after.result in
    let count = (tile.height - 1) * wide + tile.width in
    let runs = c.args.runs.now in
    let size : high * wide + 63 ≡ length c.as_mut_slice.result.now = omega (arith, c.in_ok-cells.ensures.size) in
    subst (λ (t : ℕ). AllByRecursion (RunHasRoom e wide (count + 63) t) runs) size
    (more_room e wide count (high * wide) 63 runs
    (all_room tile.width tile.height wide high count (high * wide) e runs c.requires.some.1 (ap (λ (t : ℕ). tile.width + t) across) (ap (λ (t : ℕ). tile.height + t) down) refl refl c.requires.inside))

pub returns : goal.returns
returns g c =
    let f = g.E.Extremum.merge in
    let n = c.args.neutral in
    let laws : IsExtremum f = record { commutes = g.met.E.Extremum.commutes; associates = g.met.E.Extremum.associates; is_idempotent = g.met.E.Extremum.is_idempotent } in
    let w = c.args.window.now in
    let e = c.args.looked.extent in
    let tile = c.args.looked.tile in
    let across = c.columns_after.ensures.value in
    let down = c.rows_after.ensures.value in
    let wide = tile.width + c.columns_after.result in
    let high = tile.height + c.rows_after.result in
    let cells = c.as_mut_slice.result.now in
    let place_x = ap (λ (t : Rect). t.x) c.place-place.ensures.value in
    let place_y = ap (λ (t : Rect). t.y) c.place-place.ensures.value in
    let column : ℤ = to_z w64 (of_z w64 c.first_column-column.result) in
    let row : ℤ = to_z w64 (of_z w64 c.first_row-row.result) in
    let column-is : column ≡ pos tile.x +ℤ e.left -ℤ pos w.place.x = omega (arith, ints, c.first_column-column.ensures, place_x) in
    let row-is : row ≡ pos tile.y +ℤ e.top -ℤ pos w.place.y = omega (arith, ints, c.first_row-row.ensures, place_y) in
    let laid : IsLaidBy (λ o. unwrap_or o n) n w tile e wide high column row cells = record {
      wide_is = ap (λ (t : ℕ). tile.width + t) across;
      high_is = ap (λ (t : ℕ). tile.height + t) down;
      column_is = column-is;
      row_is = row-is;
      size = omega (arith, c.in_ok-cells.ensures.size);
      cells_are = λ x y less row_less. ap (λ (t : List g.row.P.Denot). get_or t (y * wide + x) n) c.as_mut_slice.ensures.value ∙ c.in_ok-cells.ensures.cells x y less row_less;
    } in
    on_ok_weaker c.merge_laid.result
    (λ known. λ x y less row_less. known x y less row_less ∙ gather_spread f laws n w tile e wide high column row cells laid c.args.runs.now c.requires.inside x y less row_less)
    c.merge_laid.ensures
