use Rattle.std.proofs.Common.{ℕ, ◌≡◌, arith, inl, inr, ap, ◌∙◌, subst}
use Rattle.std.proofs.lemmas.Bool.{cases_lt}
use Rattle.mw_rank_numbers.specs.LevelSets.{bit_in}
use Rattle.mw_rank_numbers.specs.Numbers.{level_in_part}
use Rattle.mw_rank_numbers.proofs.numbering.mark_part.Goals as goal

pub loop-j-preserved : goal.loop-j-preserved
loop-j-preserved g c =
    let level-in = level_in_part g.P.Pixel.level g.P.Pixel.TOP c.args.window.now c.args.part in
    let known = c.loop-j.invariant in
    let n = c.loop-j.j in
    record {
      size = c.mark_samples.ensures.size;
      marked = λ i k across down. elim (cases_lt k n) [
        | inl early ↦ c.mark_samples.ensures.kept (level-in i k) (known.marked i k across early)
        | inr here ↦
            subst (λ (v : ℕ). bit_in c.mark_samples.new.words v ≡ 1) (c.part_row.ensures.levels i across ∙ ap (level-in i) (let e : n ≡ k = omega arith in e))
            (c.mark_samples.ensures.marked i (omega (arith, c.part_row.ensures.size)))
      ];
      lowest = c.mark_samples.ensures.kept 0 known.lowest;
    }

pub returns-clause-marked : goal.returns-clause-marked
returns-clause-marked g c = λ i j across down. c.loop-j.invariant.marked i j across (omega arith)
