use Rattle.std.proofs.Common.{ℕ, List, ◌+◌, ◌∙◌, refl, arith, ltb, cond, replicate, ap, get_or}
use Rattle.std.specs.Int.{w16}
use Rattle.mw_rank_rows.proofs.Eights.{one_if-le}
use Rattle.std.proofs.lemmas.List.{get_or-replicate}
use Rattle.mw_rank_counts.proofs.Lanes.{chosen}
use Rattle.mw_rank_rows.proofs.vectors.one_more_below.Goals as goal

pub plus-requires-clause-second : goal.plus-requires-clause-second
plus-requires-clause-second c = (chosen 8 w16 ltb c.args.sums c.args.n (replicate 8 1) (replicate 8 0) c.requires.sums c.requires.n refl refl).size

pub returns-clause-lanes : goal.returns-clause-lanes
returns-clause-lanes c = λ j lt room.
    let test = ltb (get_or c.args.sums j 0) (get_or c.args.n j 0) in
    let ones : List ℕ = replicate 8 1 in
    let zeros : List ℕ = replicate 8 0 in
    let one = (chosen 8 w16 ltb c.args.sums c.args.n ones zeros c.requires.sums c.requires.n refl refl).lanes j lt
    ∙ ap (λ (t : ℕ). cond test t (get_or zeros j 0)) (get_or-replicate 8 j 1 0 lt)
    ∙ ap (λ (t : ℕ). cond test 1 t) (get_or-replicate 8 j 0 0 lt) in
    c.plus.ensures.lanes j lt (omega (arith, one, one_if-le test, room)) ∙ ap (λ (t : ℕ). get_or c.args.levels j 0 + t) one
