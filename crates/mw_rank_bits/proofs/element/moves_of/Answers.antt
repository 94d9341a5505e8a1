use Rattle.std.proofs.Common.{◌≡◌, ℕ, ◌+◌, ◌*◌, ◌<◌, ◌≤◌, ◌-ℤ◌, map, ap, subst, sym, arith, ◌∙◌}
use Rattle.std.specs.List.{AllByRecursion}
use Rattle.std.proofs.Math.Nat.{mul-le-mul_right}
use Rattle.mw_model.specs.Rectangles.{nonnegative}
use Rattle.mw_bits.specs.mw_element_runs.Runs.{start_of, RunIsInside}
use Rattle.mw_rank_bits.proofs.Around.{moves_are, all_mapped, start_below, near_few}
use Rattle.mw_rank_bits.proofs.element.moves_of.Goals as goal

pub changes_of-requires : goal.changes_of-requires
changes_of-requires c =
    let e = c.args.extent in
    let rows = c.rows_after-rows.result in
    let columns = c.columns_after-columns.result in
    let few = near_few e c.requires.near in
    let rows-is = c.rows_after-rows.ensures.value in
    let columns-is = c.columns_after-columns.ensures.value in
    let size : rows * (columns + 1) + (columns + 1) ≡ (rows + 1) * (columns + 1) = omega arith in
    let below : AllByRecursion (λ (s : ℕ). s < (rows + 1) * (columns + 1)) (map (start_of e (columns + 1)) c.args.runs.now) =
    all_mapped (RunIsInside e) (λ (s : ℕ). s < (rows + 1) * (columns + 1)) (start_of e (columns + 1)) c.args.runs.now
    (λ r inside. let lt = start_below e (columns + 1) rows columns r inside rows-is columns-is in omega (arith, lt, size)) c.requires.inside in
    let high : rows ≤ 1023 = omega (arith, few.0, rows-is) in
    let across : columns ≤ 1023 = omega (arith, few.1, columns-is) in
    let most = mul-le-mul_right (columns + 1) high in
    let wide = mul-le-mul_right c.args.wide high in
    record {
      inside = subst (AllByRecursion (λ (s : ℕ). s < (rows + 1) * (columns + 1))) (sym (c.as_slice.ensures.value ∙ c.in_ok-places.ensures)) below;
      some = omega arith;
      room = omega (arith, most, across);
      fits = omega (arith, wide, across, c.requires.narrow);
    }

pub returns : goal.returns
returns c =
    let e = c.args.extent in
    let columns = c.columns_after-columns.result + 1 in
    let wide = c.args.wide in
    let changes = c.in_ok-changes.changes in
    let limit : (c.rows_after-rows.result + 1) * wide + columns ≡ (nonnegative (e.bottom -ℤ e.top) + 1) * wide + (nonnegative (e.right -ℤ e.left) + 1) =
    ap (λ (t : ℕ). (t + 1) * wide + columns) c.rows_after-rows.ensures.value ∙ ap (λ (t : ℕ). (nonnegative (e.bottom -ℤ e.top) + 1) * wide + (t + 1)) c.columns_after-columns.ensures.value in
    record {
      seen = c.in_ok-seen.ensures;
      moves = moves_are e columns wide c.args.runs.now c.in_ok-seen.seen.items c.as_slice.result.now changes.entered.items changes.left.items c.requires.inside (ap (λ (t : ℕ). t + 1) c.columns_after-columns.ensures.value) c.in_ok-seen.ensures
          (c.as_slice.ensures.value ∙ c.in_ok-places.ensures) c.in_ok-changes.ensures.balance c.in_ok-changes.ensures.part;
      entered = subst (λ (t : ℕ). AllByRecursion (λ (s : ℕ). s < t) changes.entered.items) limit c.in_ok-changes.ensures.entered;
      left = subst (λ (t : ℕ). AllByRecursion (λ (s : ℕ). s < t) changes.left.items) limit c.in_ok-changes.ensures.left;
    }
