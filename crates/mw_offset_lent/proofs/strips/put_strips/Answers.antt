use Rattle.std.proofs.Common.{◌≡◌, ◌+◌, refl, fold, arith, ◌∙◌}
use Rattle.mw_model.specs.Rasters.{seen_under}
use Rattle.mw_model.specs.Windows.{seen_at}
use Rattle.mw_offset_lent.proofs.Puts.{rows_on}
use Rattle.mw_offset_lent.proofs.strips.put_strips.Goals as goal

pub by_strips-init : goal.by_strips-init
by_strips-init g c = record { within = omega arith; cells = refl; size = refl; made = λ offsets laid x y lt few. absurd (omega (arith, few)) }

pub by_strips-preserved : goal.by_strips-preserved
by_strips-preserved g c =
    let tile = c.args.work.laid.tile in
    let n = c.args.neutral in
    record {
      within = c.put_strip-made.ensures.within;
      cells = c.put_strip-made.ensures.cells ∙ c.by_strips.invariant.cells;
      size = c.put_strip-made.ensures.put.size ∙ c.by_strips.invariant.size;
      made = λ offsets laid.
          rows_on (λ x y v. v ≡ fold g.E.Extremum.merge n (seen_under (seen_at c.args.lent.now) offsets (tile.x + x) (tile.y + y))) n tile.width c.by_strips.done c.put_strip-made.result c.by_strips.out c.put_strip-made.new.out c.put_strip-made.ensures.put
          (λ r x few lt. c.put_strip-made.ensures.made offsets laid r x few lt) (c.by_strips.invariant.made offsets laid);
    }
