use Rattle.std.proofs.Common.{◌≡◌, ℕ, List, Option, ◌+◌, ◌*◌, ◌∙◌, ap, arith, length, get_or, subst}
use Rattle.std.specs.Prelude.{IfSome}
use Rattle.std.proofs.lemmas.List.{length-replicate}
use Rattle.mw_model.specs.PlanSteps.{ranked}
use Rattle.mw_model.specs.Windows.{seen_at}
use Rattle.mw_rank_counts.specs.mw_rank.Ranks.{levels_under, HasRows}
use Rattle.mw_rank_rows.proofs.NumberedBlocks.{all_columns, columns_more, no_columns}
use Rattle.mw_rank_rows.proofs.bands.rank_band.Goals as goal

pub loop-done-init : goal.loop-done-init
loop-done-init g c = record {
  within = omega arith;
  columns = no_columns g.P.Pixel.level _ c.args.band.width c.args.band.height c.in_ok-out.out.items (ap length c.in_ok-out.ensures ∙ length-replicate (c.args.band.height * c.args.band.width) c.TOP.result);
}

pub loop-done-preserved : goal.loop-done-preserved
loop-done-preserved g c =
    let band = c.args.band in
    let from = c.min-from.result in
    let done = c.loop-done.done in
    let wide = c.args.cut.width in
    let value = λ (x y : ℕ). ranked c.args.wanted.k (levels_under g.P.Pixel.level (seen_at c.args.window.now) c.args.wanted.offsets.now x y) in
    let rows : HasRows g.P.Pixel.level (λ x y. value (band.x + from + x) (band.y + y)) wide band.height c.in-Some.made.items =
    subst (λ (o : Option _). IfSome o (λ v. HasRows g.P.Pixel.level (λ x y. value (band.x + from + x) (band.y + y)) wide band.height v.items)) c.in-Some.is c.in_ok-made.ensures in
    let made = c.deref.ensures.value in
    record {
      within = omega arith;
      columns = columns_more g.P.Pixel.level (λ x y. value (band.x + x) (band.y + y)) band.width band.height done from wide c.loop-done.out.items c.deref.result.now c.put_columns.new.out.items (omega arith) (omega arith) c.put_columns.ensures.size
          c.put_columns.ensures.put c.put_columns.ensures.others
          (λ x j d lt down.
          ap (λ (l : List _). g.P.Pixel.level (get_or l (j * wide + x) d)) made
          ∙ rows.made x j d lt down
          ∙ ap (λ (n : ℕ). value n (band.y + j)) (let e : band.x + from + x ≡ band.x + (from + x) = omega arith in e)) c.loop-done.invariant.columns;
    }

pub returns : goal.returns
returns g c =
    let band = c.args.band in
    all_columns g.P.Pixel.level _ band.width band.height c.loop-done.done c.loop-done.out.items (omega arith) c.loop-done.invariant.columns
