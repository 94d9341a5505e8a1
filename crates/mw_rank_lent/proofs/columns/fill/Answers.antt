use Rattle.std.proofs.Common.{◌≡◌, ◌<◌, length, ap, arith, ◌∙◌}
use Rattle.std.proofs.lemmas.List.{length-set}
use Rattle.mw_rank_lent.proofs.Puts.{set_more}
use Rattle.mw_rank_lent.proofs.columns.fill.Goals as goal

pub loop-i-preserved : goal.loop-i-preserved
loop-i-preserved g c =
    let i = c.loop-i.i in
    let within : i < length c.loop-i.line = omega arith in
    record {
      size = length-set c.loop-i.line i c.TOP.result ∙ c.loop-i.invariant.size;
      cells = set_more (λ j v. g.P.Pixel.level v ≡ g.P.Pixel.top_level) g.P.Pixel.TOP i c.loop-i.line c.TOP.result within (ap g.P.Pixel.level c.TOP.ensures ∙ g.met.P.Pixel.top_is_top) c.loop-i.invariant.cells;
    }
