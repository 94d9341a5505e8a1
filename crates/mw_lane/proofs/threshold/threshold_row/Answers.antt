use Rattle.std.proofs.Common.{arith, ap, ◌∙◌, ℕ, cond}
use Rattle.std.specs.Prelude.{nat_le, if◌then◌else◌}
use Rattle.mw_model.proofs.mw_facts.Merged.{mapped_chunk, merged_all, mapped_step, mapped_all}
use Rattle.mw_lane.proofs.threshold.threshold_row.Goals as goal

pub by_block-preserved : goal.by_block-preserved
by_block-preserved g c = record {
  within = omega arith;
  so_far = mapped_chunk (λ (s : g.row.P.Denot). if nat_le c.args.k (g.P.Pixel.level s) then 1 else 0) c.by_block.at 64 _ c.args.out.now c.args.src.now c.by_block.out c.threshold_block.new.out (omega arith) c.requires c.by_block.invariant.so_far c.threshold_block.ensures;
}

pub by_one-preserved : goal.by_one-preserved
by_one-preserved g c = record {
  within = omega arith;
  so_far = mapped_step (λ (s : g.row.P.Denot). if nat_le c.args.k (g.P.Pixel.level s) then 1 else 0) c.by_one.at c.args.out.now c.args.src.now c.by_one.out c.index-src-at.result c.new.result
      (omega arith) c.requires c.by_one.invariant.so_far c.index-src-at.is (c.new.ensures ∙ ap (λ (t : ℕ). cond (nat_le c.args.k t) 1 0) c.value.ensures.level);
}

pub returns : goal.returns
returns g c =
    let mark : g.row.P.Denot → ℕ = λ (s : g.row.P.Denot). if nat_le c.args.k (g.P.Pixel.level s) then 1 else 0 in
    c.by_one.invariant.so_far ∙ merged_all (λ (_ : ℕ) (s : g.row.P.Denot). mark s) c.by_one.at c.args.out.now c.args.src.now (omega arith) (omega arith) ∙ mapped_all mark c.args.out.now c.args.src.now (omega arith)
