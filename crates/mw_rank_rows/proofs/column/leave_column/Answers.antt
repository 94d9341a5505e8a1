use Rattle.std.proofs.Common.{ℕ, ◌≡◌, ◌+◌, ◌*◌, ◌∙◌, refl, arith, cond, get_or, ap, sym}
use Rattle.std.specs.Prelude.{nat_lt}
use Rattle.mw_rank_rows.specs.Columns.{column_count}
use Rattle.mw_rank_rows.proofs.Marked.{sample_is, leaves_more, rises_more, counts_same}
use Rattle.mw_rank_rows.proofs.column.leave_column.Goals as goal

pub loop-i-init : goal.loop-i-init
loop-i-init g c = record {
  size = refl;
  lanes = c.requires.below;
  counts = λ levels u w t under more up. counts_same levels u w c.args.counts.now c.args.front.level c.args.front.below (λ v j lt. omega (arith, more v j lt)) t;
}

pub leave_one-below-requires-clause-room : goal.leave_one-below-requires-clause-room
leave_one-below-requires-clause-room g c =
    let i = c.loop-i.i in
    let inside = c.requires.inside i (omega arith) in
    let p = i * c.args.sheet.width + c.args.at in
    let levels = c.requires.levels in
    let s-is = sample_is g.P.Pixel.level g.P.Pixel.TOP c.args.sheet.samples.now p c.value-s.result c.index-sheet-i.result inside c.value-s.ensures.level in
    omega (arith, s-is, levels.1, levels.2 p inside, c.loop-i.invariant.size)

pub loop-i-preserved : goal.loop-i-preserved
loop-i-preserved g c = record {
  size = c.leave_one-below.ensures.size ∙ c.loop-i.invariant.size;
  lanes = c.leave_one-below.ensures.lanes;
  counts = λ levels u w t under more up.
      let i = c.loop-i.i in
      let samples = c.args.sheet.samples.now in
      let p = i * c.args.sheet.width + c.args.at in
      let level = g.P.Pixel.level in
      let d = g.P.Pixel.TOP in
      let s = c.value-s.result in
      let lanes = c.lanes_at-marks.result in
      let s-is = sample_is level d samples p s c.index-sheet-i.result (c.requires.inside i (omega arith)) c.value-s.ensures.level in
      let before = λ (v j : ℕ). w v j + get_or lanes j 0 * cond (nat_lt s v) 1 0 in
      c.leave_one-below.ensures.counts levels before w
      (c.loop-i.invariant.counts levels u before t under (leaves_more level d samples c.args.sheet.width c.args.at c.args.sheet.marks.now lanes i s u w c.lanes_at-marks.ensures.lanes s-is more) (rises_more s lanes w up))
      (omega (arith, s-is, under p (c.requires.inside i (omega arith)))) (λ v j lt. refl) up;
}

pub returns-clause-counts : goal.returns-clause-counts
returns-clause-counts g c = λ levels u w t under more up.
    let all : c.loop-i.i ≡ c.args.sheet.rows = omega arith in
    c.loop-i.invariant.counts levels u w t under (λ v j lt. more v j lt ∙ ap (λ (n : ℕ). w v j + column_count g.P.Pixel.level g.P.Pixel.TOP c.args.sheet.samples.now c.args.sheet.width c.args.at c.args.sheet.marks.now v j n) (sym all)) up
