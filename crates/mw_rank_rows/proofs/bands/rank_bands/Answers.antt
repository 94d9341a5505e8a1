use Rattle.std.proofs.Common.{◌≡◌, ℕ, List, Option, ◌+◌, ◌*◌, ◌∙◌, ap, arith, length, get_or, subst}
use Rattle.std.specs.Prelude.{IfSome}
use Rattle.mw_model.specs.PlanSteps.{ranked}
use Rattle.mw_model.specs.Windows.{seen_at}
use Rattle.mw_rank_counts.specs.mw_rank.Ranks.{levels_under, HasRows}
use Rattle.mw_rank_rows.proofs.Found.{rows_more, no_rows}
use Rattle.mw_rank_rows.proofs.bands.rank_bands.Goals as goal

pub loop-done-init : goal.loop-done-init
loop-done-init g c = record { within = omega arith; rows = no_rows g.P.Pixel.level _ c.args.tile.width c.in_ok-out.out.items c.in_ok-out.ensures.items }

pub loop-done-preserved : goal.loop-done-preserved
loop-done-preserved g c =
    let tile = c.args.tile in
    let from = c.min-from.result in
    let done = c.loop-done.done in
    let high = c.band_height-height.result in
    let value = λ (x y : ℕ). ranked c.args.wanted.k (levels_under g.P.Pixel.level (seen_at c.args.window.now) c.args.wanted.offsets.now x y) in
    let rows : HasRows g.P.Pixel.level (λ x y. value (tile.x + x) (tile.y + from + y)) tile.width high c.in-Some.made.items =
    subst (λ (o : Option _). IfSome o (λ v. HasRows g.P.Pixel.level (λ x y. value (tile.x + x) (tile.y + from + y)) tile.width high v.items)) c.in-Some.is c.in_ok-made.ensures in
    let made = c.deref.ensures.value in
    record {
      within = omega arith;
      rows = rows_more g.P.Pixel.level (λ x y. value (tile.x + x) (tile.y + y)) tile.width done from high c.loop-done.out.items c.deref.result.now c.push_from.new.out.items (omega arith) (omega arith) (ap length made ∙ rows.size)
          c.in_ok-push_from.ensures
          (λ r q e down lt.
          ap (λ (l : List _). g.P.Pixel.level (get_or l (r * tile.width + q) e)) made
          ∙ rows.made q r e lt down
          ∙ ap (value (tile.x + q)) (let y : tile.y + from + r ≡ tile.y + (from + r) = omega arith in y)) c.loop-done.invariant.rows;
    }
