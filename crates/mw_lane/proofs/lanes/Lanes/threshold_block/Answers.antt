use Rattle.std.proofs.Common.{arith, ap, ◌∙◌, ℕ, cond}
use Rattle.std.specs.Prelude.{nat_le, if◌then◌else◌}
use Rattle.mw_model.proofs.mw_facts.Merged.{mapped_step, mapped_all, merged_all}
use Rattle.mw_lane.proofs.lanes.Lanes.threshold_block.Goals as goal

pub loop-i-preserved : goal.loop-i-preserved
loop-i-preserved g c = mapped_step (λ (s : g.row.Self.Denot). if nat_le c.args.k (g.Self.Pixel.level s) then 1 else 0) c.loop-i.i c.args.out.now c.args.src.now c.loop-i.out c.index-src-i.result c.new.result
    (omega arith) (omega arith) c.loop-i.invariant c.index-src-i.is (c.new.ensures ∙ ap (λ (t : ℕ). cond (nat_le c.args.k t) 1 0) c.value.ensures.level)

pub returns : goal.returns
returns g c =
    let mark : g.row.Self.Denot → ℕ = λ (s : g.row.Self.Denot). if nat_le c.args.k (g.Self.Pixel.level s) then 1 else 0 in
    c.loop-i.invariant ∙ merged_all (λ (_ : ℕ) (s : g.row.Self.Denot). mark s) c.loop-i.i c.args.out.now c.args.src.now (omega arith) (omega arith) ∙ mapped_all mark c.args.out.now c.args.src.now (omega arith)
