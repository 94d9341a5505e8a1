use Rattle.std.proofs.Common.{ℕ, ◌≡◌, ◌∙◌, refl, arith, ltb, cond, replicate, ap, get_or, min}
use Rattle.std.specs.Int.{w16}
use Rattle.std.proofs.lemmas.Bool.Decides.{nat_tests}
use Rattle.std.proofs.lemmas.List.{get_or-replicate}
use Rattle.mw_rank_counts.proofs.Lanes.{chosen}
use Rattle.mw_rank_rows.proofs.vectors.at_most.Goals as goal

pub returns-clause-size : goal.returns-clause-size
returns-clause-size c =
    let n = c.args.n in
    (chosen 8 w16 ltb c.args.a (replicate 8 n) c.args.a (replicate 8 n) c.requires refl c.requires refl).size

pub returns-clause-lanes : goal.returns-clause-lanes
returns-clause-lanes c = λ j lt.
    let n = c.args.n in
    let a = get_or c.args.a j 0 in
    (chosen 8 w16 ltb c.args.a (replicate 8 n) c.args.a (replicate 8 n) c.requires refl c.requires refl).lanes j lt
    ∙ ap (λ (t : ℕ). cond (ltb a t) a t) (get_or-replicate 8 j n 0 lt)
    ∙ least a n
  where
    least : (a n : ℕ) → cond (ltb a n) a n ≡ min n a
    least a n = grind (arith, nat_tests)
