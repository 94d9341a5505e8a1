use Rattle.std.proofs.Common.{◌≡◌, ℕ, List, ◌+◌, ◌*◌, ◌∙◌, refl, ap, sym, arith, length, subst, replicate}
use Rattle.std.proofs.lemmas.List.{length-replicate}
use Rattle.mw_model.specs.PlanSteps.{ranked}
use Rattle.mw_model.specs.Windows.{seen_at}
use Rattle.mw_rank_counts.specs.mw_rank.Ranks.{levels_under}
use Rattle.mw_rank_rows.specs.Tables.{LanesHold}
use Rattle.mw_rank_rows.proofs.Found.{rows_more, no_rows}
use Rattle.mw_rank_rows.proofs.rows.rank_groups.Goals as goal

pub loop-done-init : goal.loop-done-init
loop-done-init g c =
    let counts : c.as_mut_slice-counts.result.now ≡ replicate (c.args.levels * 8) 0 = c.as_mut_slice-counts.ensures.value ∙ c.in_ok-table.ensures.items_if_clones_equal (λ y is. is) in
    let made : c.as_mut_slice-made.result.now ≡ replicate (8 * c.args.tile.width) c.TOP.result = c.as_mut_slice-made.ensures.value ∙ c.in_ok-eight.ensures in
    record {
      within = omega arith;
      whole = ap length made ∙ length-replicate (8 * c.args.tile.width) c.TOP.result;
      empty = subst (λ (l : List ℕ). LanesHold c.args.levels (λ v j. 0) l c.no_samples-lanes.result) (sym counts) (c.no_samples-lanes.ensures c.args.levels (λ v j. 0) c.requires.level c.requires.short (λ v j lt. refl));
      rows = no_rows g.P.Pixel.level _ c.args.tile.width c.in_ok-out.out.items c.in_ok-out.ensures.items;
    }

pub loop-done-preserved : goal.loop-done-preserved
loop-done-preserved g c =
    let tile = c.args.tile in
    let from = c.min-from.result in
    let done = c.loop-done.done in
    let made = c.rank_group.new.made in
    let value = λ (x y : ℕ). ranked c.args.wanted.k (levels_under g.P.Pixel.level (seen_at c.args.window.now) c.args.wanted.offsets.now x y) in
    record {
      within = omega arith;
      whole = c.in_ok-together.ensures.size ∙ c.loop-done.invariant.whole;
      empty = c.in_ok-together.ensures.empty c.args.levels c.requires.under c.loop-done.invariant.empty;
      rows = rows_more g.P.Pixel.level (λ x y. value (tile.x + x) (tile.y + y)) tile.width done from 8 c.loop-done.out.items made c.push_from.new.out.items (omega arith) (omega arith) (c.in_ok-together.ensures.size ∙ c.loop-done.invariant.whole)
          c.in_ok-push_from.ensures
          (λ r q e down lt. c.in_ok-together.ensures.found r q e down lt ∙ ap (value (tile.x + q)) (let y : tile.y + from + r ≡ tile.y + (from + r) = omega arith in y)) c.loop-done.invariant.rows;
    }
