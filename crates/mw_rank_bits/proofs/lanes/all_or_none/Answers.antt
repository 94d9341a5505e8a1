use Rattle.std.proofs.Common.{ℕ, Bool, cond, [], ◌∷◌, ap, sym, ◌∙◌}
use Rattle.mw_bits.specs.mw_pixel_words.Packed.{bit_of}
use Rattle.mw_rank_bits.proofs.Vectors.{all_bit, no_bit}
use Rattle.mw_rank_bits.proofs.lanes.all_or_none.Goals as goal
use Rattle.mw_rank_bits.proofs.lanes.all_or_none.Goals.{then-all, else-all}

pub returns : goal.returns
returns c = λ q lt. elim c.if-all.branch [
  | then-all w ↦ ap (λ (t : ℕ). bit_of (t ∷ t ∷ []) q) w.word-is ∙ all_bit q lt ∙ ap (λ (b : Bool). cond b 1 0) (sym w.if-all.true)
  | else-all w ↦ ap (λ (t : ℕ). bit_of (t ∷ t ∷ []) q) w.word-is ∙ no_bit q lt ∙ ap (λ (b : Bool). cond b 1 0) (sym w.if-all.false)
]
