use Rattle.std.proofs.Common.{arith, ap, ◌∙◌, ℕ}
use Rattle.mw_model.proofs.mw_facts.Merged.{mapped_step, mapped_all, merged_all}
use Rattle.mw_bits.proofs.levels.test_row.Goals as goal

pub loop-i-preserved : goal.loop-i-preserved
loop-i-preserved g c = mapped_step (λ (s : g.row.P.Denot). g.T.LevelTest.is_in c.args.k (g.P.Pixel.level s)) c.loop-i.i c.args.line.now c.args.src.now c.loop-i.line c.index-src-i.result c.new.result
    (omega arith) (omega arith) c.loop-i.invariant c.index-src-i.is (c.new.ensures ∙ c.holds.ensures ∙ ap (g.T.LevelTest.is_in c.args.k) c.value.ensures.level)

pub returns : goal.returns
returns g c =
    let mark : g.row.P.Denot → ℕ = λ (s : g.row.P.Denot). g.T.LevelTest.is_in c.args.k (g.P.Pixel.level s) in
    c.loop-i.invariant ∙ merged_all (λ (_ : ℕ) (s : g.row.P.Denot). mark s) c.loop-i.i c.args.line.now c.args.src.now (omega arith) (omega arith) ∙ mapped_all mark c.args.line.now c.args.src.now (omega arith)
