use Rattle.std.proofs.Common.{ℕ, List, ap, arith, length, ◌∙◌}
use Rattle.mw_model.proofs.mw_facts.Elements.{take-written}
use Rattle.mw_rank_numbers.specs.LevelSets.{bit_in}
use Rattle.mw_rank_numbers.specs.Numbers.{level_in_part}
use Rattle.mw_rank_numbers.proofs.numbering.set_of.Goals as goal

pub returns-clause-size : goal.returns-clause-size
returns-clause-size g c =
    ap length (take-written c.in_ok-set.set.items c.mark_part.new.words c.in_ok-set.set.len (omega (arith, c.mark_part.ensures.size, c.in_ok-set.ensures.len))) ∙ c.mark_part.ensures.size

pub returns-clause-marked : goal.returns-clause-marked
returns-clause-marked g c = λ i j across down.
    ap (λ (l : List ℕ). bit_in l (level_in_part g.P.Pixel.level g.P.Pixel.TOP c.args.window.now c.args.part i j)) (take-written c.in_ok-set.set.items c.mark_part.new.words c.in_ok-set.set.len (omega (arith, c.mark_part.ensures.size, c.in_ok-set.ensures.len))) ∙ c.mark_part.ensures.marked i j across down

pub returns-clause-lowest : goal.returns-clause-lowest
returns-clause-lowest g c =
    ap (λ (l : List ℕ). bit_in l 0) (take-written c.in_ok-set.set.items c.mark_part.new.words c.in_ok-set.set.len (omega (arith, c.mark_part.ensures.size, c.in_ok-set.ensures.len))) ∙ c.mark_part.ensures.lowest
