use Rattle.std.proofs.Common.{◌≡◌, ℕ, ◌+◌, ◌<◌, List, ◌++◌, map, length, get_or, Option, ap, sym, arith, subst, ◌∙◌}
use Rattle.std.specs.Prelude.{IfSome}
use Rattle.mw_model.specs.PlanSteps.{ranked}
use Rattle.mw_model.specs.Windows.{seen_at}
use Rattle.mw_rank_counts.specs.mw_rank.Ranks.{levels_under, HasRows}
use Rattle.mw_rank_numbers.specs.Numbers.{IsNumbering}
use Rattle.mw_rank_rows.proofs.NumberedBlocks.{all_under, columns_few, block_ranked}
use Rattle.mw_rank_rows.proofs.Rectangular.{length-offsets_in}
use Rattle.mw_rank_rows.proofs.blocks.rank_block.Goals as goal

pub part_under-part-requires-clause-wide : goal.part_under-part-requires-clause-wide
part_under-part-requires-clause-wide g c =
    let t = c.args.wanted.rectangle in
    let few = columns_few t.columns t.rows (length c.args.wanted.offsets.now) (sym (length-offsets_in t t.rows) ∙ ap length c.requires.rectangle.is) c.requires.some c.requires.few in
    omega (arith, few)

pub numbers_of-requires-clause-across : goal.numbers_of-requires-clause-across
numbers_of-requires-clause-across g c = c.part_under-part.ensures.columns.inside

pub numbers_of-requires-clause-down : goal.numbers_of-requires-clause-down
numbers_of-requires-clause-down g c = c.part_under-part.ensures.rows.inside

pub rank_eights-requires-clause-level : goal.rank_eights-requires-clause-level
rank_eights-requires-clause-level g c = omega (arith, c.in_ok-found.ensures.some, c.len-count.ensures)

pub rank_eights-requires-clause-under : goal.rank_eights-requires-clause-under
rank_eights-requires-clause-under g c =
    all_under c.len-count.result c.in_ok-found.found.numbers.items c.window_of-seen.result.cells c.window_of-seen.ensures.cells
    (λ p lt. subst (λ (n : ℕ). get_or c.in_ok-found.found.numbers.items p 0 < n) (let same : length c.in_ok-found.found.levels.items ≡ c.len-count.result = omega (arith, c.len-count.ensures) in same) (c.in_ok-found.ensures.under p lt))

pub returns : goal.returns
returns g c =
    let level = g.P.Pixel.level in
    let top = g.P.Pixel.TOP in
    let w = c.args.window.now in
    let n = c.window_of-seen.result in
    let t = c.args.wanted.rectangle in
    let place = c.args.place in
    let part = c.part_under-part.result in
    let offsets = c.args.wanted.offsets.now in
    let k = c.args.wanted.k in
    let found = c.in_ok-found.ensures.numbers in
    let ranks = c.in-Some.ranks.items in
    let rows : HasRows (λ (s : ℕ). s) (λ x y. ranked k (levels_under (λ (s : ℕ). s) (seen_at n) offsets (place.x + x) (place.y + y))) place.width place.height ranks =
    subst (λ (o : Option _). IfSome o (λ v. HasRows (λ (s : ℕ). s) (λ x y. ranked k (levels_under (λ (s : ℕ). s) (seen_at n) offsets (place.x + x) (place.y + y))) place.width place.height v.items)) c.in-Some.is c.in_ok-ranks.ensures in
    let numbering = subst (λ (l : List ℕ). IsNumbering level top found.0 c.in_ok-found.found.levels.items w part l) (sym c.window_of-seen.ensures.cells) found.1 in
    block_ranked level top found.0 c.in_ok-found.found.levels.items w n t place part offsets k ranks c.in_ok-out.out.items c.push_levels.new.out.items c.window_of-seen.ensures.whole c.window_of-seen.ensures.place c.part_under-part.ensures numbering c.requires.rectangle rows c.in_ok-out.ensures.items
    (c.in_ok-push_levels.ensures ∙ ap (λ (l : List _). c.in_ok-out.out.items ++ map (λ (r : ℕ). get_or l r top) c.deref-2.result.now) c.deref.ensures.value ∙ ap (λ (l : List ℕ). c.in_ok-out.out.items ++ map (λ (r : ℕ). get_or c.in_ok-found.found.levels.items r top) l) c.deref-2.ensures.value)
