use Rattle.std.proofs.Common.{ℕ, ◌≡◌, ◌+◌, ◌*◌, ◌∙◌, refl, arith, ap, sym}
use Rattle.mw_rank_rows.specs.Columns.{column_count}
use Rattle.mw_rank_rows.proofs.Marked.{sample_is, enters_more}
use Rattle.mw_rank_rows.proofs.column.enter_column.Goals as goal

pub loop-i-preserved : goal.loop-i-preserved
loop-i-preserved g c = record {
  size = c.enter_one-below.ensures.size ∙ c.loop-i.invariant.size;
  lanes = c.enter_one-below.ensures.lanes;
  counts = λ levels u w t under more few.
      let i = c.loop-i.i in
      let samples = c.args.sheet.samples.now in
      let p = i * c.args.sheet.width + c.args.at in
      let level = g.P.Pixel.level in
      let d = g.P.Pixel.TOP in
      let s-is = sample_is level d samples p c.value-s.result c.index-sheet-i.result (c.requires.inside i (omega arith)) c.value-s.ensures.level in
      let more-here = enters_more level d samples c.args.sheet.width c.args.at c.args.sheet.marks.now c.lanes_at-marks.result i c.value-s.result u w c.lanes_at-marks.ensures.lanes s-is more in
      let before = λ (v j : ℕ). u v j + column_count level d samples c.args.sheet.width c.args.at c.args.sheet.marks.now v j i in
      c.enter_one-below.ensures.counts levels before w
      (c.loop-i.invariant.counts levels u before t under (λ v j lt. refl) (λ j lt. omega (arith, few j lt, more-here levels j lt)))
      (omega (arith, s-is, under p (c.requires.inside i (omega arith)))) more-here few;
}

pub returns-clause-counts : goal.returns-clause-counts
returns-clause-counts g c = λ levels u w t under more few.
    let all : c.loop-i.i ≡ c.args.sheet.rows = omega arith in
    c.loop-i.invariant.counts levels u w t under (λ v j lt. more v j lt ∙ ap (λ (n : ℕ). u v j + column_count g.P.Pixel.level g.P.Pixel.TOP c.args.sheet.samples.now c.args.sheet.width c.args.at c.args.sheet.marks.now v j n) (sym all)) few
