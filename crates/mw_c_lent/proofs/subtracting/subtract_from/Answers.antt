use Rattle.std.proofs.Common.{arith, ◌∙◌, length-set, ap, map}
use Rattle.mw_model.proofs.mw_facts.Merged.{merged_step, merged_all}
use Rattle.mw_c_lent.proofs.Lessened.{levels_less}
use Rattle.mw_c_lent.proofs.subtracting.subtract_from.Goals as goal

pub by_one-preserved : goal.by_one-preserved
by_one-preserved g c = record {
  within = omega (arith, length-set c.by_one.row c.by_one.at c.subtract.result);
  so_far = merged_step (λ a b. g.P.Lanes.difference b a) c.by_one.at c.args.row.now c.args.other.now c.by_one.row c.index-row-at.result c.index-other-at.result c.subtract.result (omega arith) c.requires c.by_one.invariant.so_far c.index-row-at.is c.index-other-at.is c.subtract.ensures;
}

pub returns : goal.returns
returns g c =
    ap (map g.P.Pixel.level) (c.by_one.invariant.so_far ∙ merged_all (λ a b. g.P.Lanes.difference b a) c.by_one.at c.args.row.now c.args.other.now c.requires (omega arith))
    ∙ levels_less g.P.Lanes.difference g.P.Pixel.level g.met.P.Lanes.level_of_difference c.args.row.now c.args.other.now
