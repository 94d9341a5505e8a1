use Rattle.std.proofs.Common.{◌≡◌, ℕ}
use Rattle.mw_model.proofs.mw_facts.Merged.{merged}
use Rattle.mw_bits.proofs.levels.test_row.Given as goal

abbrev pub invariant-loop-i : goal.invariant-loop-i
invariant-loop-i g l = l.line ≡ merged (λ (_ : ℕ) (s : g.row.P.Denot). g.T.LevelTest.is_in l.k (g.P.Pixel.level s)) l.i l.initial.line l.src
