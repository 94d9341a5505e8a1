use Rattle.std.proofs.Common.{◌≡◌, ◌+◌, ◌∙◌, ℕ, ap, arith}
use Rattle.mw_offset_lent.specs.Places.{merged_at}
use Rattle.mw_offset_lent.proofs.Written.{both_lanes}
use Rattle.mw_offset_lent.proofs.blocks.put_block.Goals as goal

pub returns-clause-made : goal.returns-clause-made
returns-clause-made g c = λ i lt.
    let f = g.E.Extremum.merge in
    let n = c.args.neutral in
    let cells = c.args.cells.now in
    let from = c.args.from in
    let places = c.args.places.now in
    let w = g.P.Laned.WIDTH in
    both_lanes w (λ i v. v ≡ merged_at f cells n (from + i) n places) n c.args.at c.store_both.new.out
    (λ i less. c.store_both.ensures.first i n less ∙ c.merge_places-best.ensures.first i n less ∙ ap (λ (t : g.row.P.Denot). merged_at f cells n (from + i) t places) (c.all-start.ensures i less))
    (λ i less.
    let here : from + w + i ≡ from + (w + i) = omega arith in
    c.store_both.ensures.second i n less ∙ c.merge_places-best.ensures.second i n less ∙ ap (λ (t : g.row.P.Denot). merged_at f cells n (from + w + i) t places) (c.all-start.ensures i less) ∙ ap (λ (t : ℕ). merged_at f cells n t n places) here) i lt
