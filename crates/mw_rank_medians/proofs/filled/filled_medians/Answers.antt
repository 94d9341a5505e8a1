use Rattle.std.proofs.Common.{ℕ, ◌+◌, ◌-◌, ◌*◌, ◌≡◌, ◌<◌, ◌∙◌, List, ap, arith, refl, subst, length, get_or}
use Rattle.mw_model.specs.Windows.{seen_at}
use Rattle.mw_rank.specs.Ranks.{HasRows}
use Rattle.mw_rank.proofs.Rows.{has_rows_more}
use Rattle.mw_rank_medians.specs.Columns.{block_below}
use Rattle.mw_rank_medians.specs.Filled.{filled_rank, line_x, line_y}
use Rattle.mw_rank_medians.specs.Numbered.{IsNthLevel}
use Rattle.mw_rank_medians.proofs.Beyond.{lines_fit, median_filled}
use Rattle.mw_rank_medians.proofs.Joined.{slice_gained}
use Rattle.mw_rank_medians.proofs.Medians.{median_some}
use Rattle.mw_rank_medians.proofs.filled.filled_medians.Goals as goal

pub medians_of_rows-requires-clause-inside : goal.medians_of_rows-requires-clause-inside
medians_of_rows-requires-clause-inside g c =
    let lines = c.args.lines in
    let side = c.args.side in
    lines_fit c.loop-line.line side lines.count lines.length (lines.length + side - 1) (length c.as_slice.result.now) (length c.loop-line.medians) (ap length c.as_slice.ensures.value ∙ c.in_ok-samples.ensures.size) (omega arith)
    (median_some side c.args.k c.requires.median).0 refl c.loop-line.invariant.whole

pub loop-line-preserved : goal.loop-line-preserved
loop-line-preserved g c =
    let level = g.P.Pixel.level in
    let lines = c.args.lines in
    let side = c.args.side in
    let k = c.args.k in
    let line = c.loop-line.line in
    let stride = lines.length + side - 1 in
    let value = λ (i r : ℕ). filled_rank level g.P.Pixel.top_level (seen_at c.args.window.now) c.args.first side k (line_x lines.down lines.x i r) (line_y lines.down lines.y i r) in
    let some = median_some side k c.requires.median in
    record {
      whole = c.medians_of_rows.ensures.size ∙ c.loop-line.invariant.whole;
      rows =
          has_rows_more level value (λ i. value i line) lines.length line c.loop-line.out.items c.extend_from_slice.new.self.items (λ i. refl)
          (slice_gained level g.P.Pixel.TOP (λ i. value i line) lines.length c.medians_of_rows.new.out c.loop-line.out.items c.extend_from_slice.new.self.items (c.medians_of_rows.ensures.size ∙ c.loop-line.invariant.whole)
          (λ i lt.
          let within : i < length c.loop-line.medians = omega (arith, c.loop-line.invariant.whole) in
          median_filled level g.P.Pixel.TOP g.P.Pixel.top_level (seen_at c.args.window.now) c.args.first lines.down lines.x lines.y stride (lines.count + side - 1) side k i line _ c.in_ok-samples.samples.items c.in_ok-samples.ensures
          (omega (arith, some.0)) (omega (arith, some.0)) some.1
          (subst (λ (l : List _). IsNthLevel (block_below level g.P.Pixel.TOP l (line * stride) stride side i) k (level (get_or c.medians_of_rows.new.out i g.P.Pixel.TOP))) c.as_slice.ensures.value (c.medians_of_rows.ensures.medians i within)))
          c.in_ok-extend_from_slice.ensures.items)
          c.loop-line.invariant.rows;
    }

pub returns : goal.returns
returns g c =
    let lines = c.args.lines in
    let all : c.loop-line.line ≡ lines.count = omega arith in
    subst (λ (n : ℕ). HasRows g.P.Pixel.level (λ i r. filled_rank g.P.Pixel.level g.P.Pixel.top_level (seen_at c.args.window.now) c.args.first c.args.side c.args.k (line_x lines.down lines.x i r) (line_y lines.down lines.y i r)) lines.length n c.loop-line.out.items) all c.loop-line.invariant.rows
