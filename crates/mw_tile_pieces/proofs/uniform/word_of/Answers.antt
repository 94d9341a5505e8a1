use Rattle.std.proofs.Common.{Bool, cond, ap, sym, ◌∙◌}
use Rattle.std.proofs.lemmas.Nat.Bits.{bit_at_ones}
use Rattle.mw_tile_pieces.proofs.uniform.word_of.Goals as goal

pub returns-then-is_set : goal.returns-then-is_set
returns-then-is_set c = λ b lt. bit_at_ones 64 b lt ∙ sym (ap (λ (t : Bool). cond t 1 0) c.if-is_set.true)
