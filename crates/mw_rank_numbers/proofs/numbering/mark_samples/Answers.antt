use Rattle.std.proofs.Common.{ℕ, ◌≡◌, arith, inl, inr, ap, ◌∙◌, subst, get_or}
use Rattle.std.proofs.lemmas.Bool.{cases_lt}
use Rattle.mw_rank_numbers.specs.LevelSets.{bit_in}
use Rattle.mw_rank_numbers.proofs.Backs.{sample_level}
use Rattle.mw_rank_numbers.proofs.numbering.mark_samples.Goals as goal

pub loop-sample-preserved : goal.loop-sample-preserved
loop-sample-preserved g c =
    let level = g.P.Pixel.level in
    let samples = c.args.samples.now in
    let n = c.loop-sample.sample-index in
    let known = c.loop-sample.invariant in
    record {
      size = c.mark.ensures.size;
      marked = λ i lt. elim (cases_lt i n) [
        | inl early ↦ c.mark.ensures.kept (level (get_or samples i g.P.Pixel.TOP)) (known.marked i early)
        | inr here ↦
            let level-is = sample_level level g.P.Pixel.TOP samples n c.sample-item.result c.value.result (omega arith) c.sample-item.is c.value.ensures.level in
            subst (λ (v : ℕ). bit_in c.mark.new.words v ≡ 1) (level-is ∙ ap (λ (p : ℕ). level (get_or samples p g.P.Pixel.TOP)) (let e : n ≡ i = omega arith in e)) c.mark.ensures.marked
      ];
      kept = λ v had. c.mark.ensures.kept v (known.kept v had);
    }

pub returns-clause-marked : goal.returns-clause-marked
returns-clause-marked g c = λ i lt. c.loop-sample.invariant.marked i (omega arith)
