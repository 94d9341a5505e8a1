use Rattle.std.proofs.Common.{◌≡◌, ◌+◌, ◌*◌, ◌<◌, ◌≤◌, length, get_or, arith, ◌∙◌}
use Rattle.std.proofs.lemmas.List.{get_or_default, length-set}
use Rattle.mw_rank_lent.proofs.Puts.{set_more}
use Rattle.mw_rank_lent.proofs.columns.copy_column.Goals as goal

pub loop-i-preserved : goal.loop-i-preserved
loop-i-preserved g c =
    let top = g.P.Pixel.TOP in
    let i = c.loop-i.i in
    let s = c.index-samples-from.result in
    let old = c.loop-i.line in
    let within : i < length old = omega (arith, c.loop-i.invariant.size) in
    let there = c.requires i (omega (arith, within, c.loop-i.invariant.size)) in
    record {
      size = length-set old i s ∙ c.loop-i.invariant.size;
      cells = set_more (λ j v. v ≡ get_or c.args.samples.now (c.args.from + j * c.args.stride) top) top i old s within (c.index-samples-from.is ∙ get_or_default c.args.samples.now (c.args.from + i * c.args.stride) s top there) c.loop-i.invariant.cells;
      small = set_more (λ j v. g.P.Pixel.level v ≤ g.P.Pixel.top_level) top i old s within (omega (arith, c.value-level.ensures.level, c.value-level.ensures.small)) c.loop-i.invariant.small;
    }
