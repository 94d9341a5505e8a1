use Rattle.std.proofs.Common.{ℕ, ◌≡◌, ◌+◌, ◌∙◌, List, length, arith, ap, subst}
use Rattle.mw_model.specs.declared.offsets.Offset.{Offset}
use Rattle.mw_rank.specs.Runs.{element_of}
use Rattle.mw_model.specs.PlanSteps.{ranked}
use Rattle.mw_model.specs.Windows.{seen_at}
use Rattle.mw_rank.specs.Ranks.{levels_under, HasRows}
use Rattle.mw_rank.proofs.Rows.{has_rows_more}
use Rattle.mw_rank.proofs.Elements.{element_of-runs}
use Rattle.mw_rank.proofs.moving.rank_samples.Goals as goal

pub loop-j-preserved : goal.loop-j-preserved
loop-j-preserved g c =
    let level = g.P.Pixel.level in
    let sight = seen_at c.args.window.now in
    let tile = c.args.tile in
    let row : c.from.result + c.from-in-loop-j.result ≡ tile.y + c.loop-j.j = omega (arith, c.from.ensures, c.from-in-loop-j.ensures) in
    let element : element_of c.deref-in-loop-j.result.now ≡ c.args.offsets.now = ap element_of c.deref-in-loop-j.ensures.value ∙ element_of-runs _ c.in_ok-runs.ensures.runs ∙ c.in_ok-runs.ensures.offsets in
    record {
      empty = c.in_ok-push_whole_row.ensures.empty;
      rows = has_rows_more level (λ x y. ranked c.args.k (levels_under level sight c.args.offsets.now (tile.x + x) (tile.y + y)))
          (λ x. ranked c.args.k (levels_under level sight (element_of c.deref-in-loop-j.result.now) (c.from-x.result + x) (c.from.result + c.from-in-loop-j.result)))
          tile.width c.loop-j.j c.loop-j.out.items c.push_whole_row.new.out.items (λ x. ap (λ (t : ℕ). ranked c.args.k (levels_under level sight (element_of c.deref-in-loop-j.result.now) (t + x) (c.from.result + c.from-in-loop-j.result))) c.from-x.ensures ∙ ap (λ (t : ℕ). ranked c.args.k (levels_under level sight (element_of c.deref-in-loop-j.result.now) (tile.x + x) t)) row ∙ ap (λ (t : List Offset). ranked c.args.k (levels_under level sight t (tile.x + x) (tile.y + c.loop-j.j))) element)
          c.in_ok-push_whole_row.ensures.row c.loop-j.invariant.rows;
    }

pub push_whole_row-requires-clause-few : goal.push_whole_row-requires-clause-few
push_whole_row-requires-clause-few g c =
    let element : element_of c.deref-in-loop-j.result.now ≡ c.args.offsets.now = ap element_of c.deref-in-loop-j.ensures.value ∙ element_of-runs _ c.in_ok-runs.ensures.runs ∙ c.in_ok-runs.ensures.offsets in
    omega (arith, ap length element, c.requires.few)

pub returns : goal.returns
returns g c =
    let level = g.P.Pixel.level in
    let sight = seen_at c.args.window.now in
    let tile = c.args.tile in
    let all : c.loop-j.j ≡ tile.height = omega arith in
    subst (λ (n : ℕ). HasRows level (λ x y. ranked c.args.k (levels_under level sight c.args.offsets.now (tile.x + x) (tile.y + y))) tile.width n c.loop-j.out.items) all c.loop-j.invariant.rows
