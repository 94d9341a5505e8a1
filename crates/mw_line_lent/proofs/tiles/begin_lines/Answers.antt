use Rattle.std.proofs.Common.{ℕ, ◌+◌, refl, arith, ◌∙◌, inl, inr}
use Rattle.mw_line_lent.specs.Boxes.{wide_of}
use Rattle.mw_line_lent.proofs.LineCells.{line_begun}
use Rattle.mw_line_lent.proofs.tiles.begin_lines.Goals as goal

pub loop-r-init : goal.loop-r-init
loop-r-init g c = record { size = refl; before = λ r x lt early. absurd (omega (arith, lt)); after = λ r x lt late across. absurd (omega (arith, lt)) }

pub loop-r-preserved : goal.loop-r-preserved
loop-r-preserved g c =
    let b = c.args.boxes in
    let n = c.args.neutral in
    let q = c.loop-r.r in
    let end : ℕ = b.part.behind + b.part.count in
    let old = c.loop-r.lines in
    let mid = c.fill.new.out in
    let new = c.fill-in-loop-r.new.out in
    record {
      size = c.fill-in-loop-r.ensures.put.size ∙ c.fill.ensures.put.size ∙ c.loop-r.invariant.size;
      before = λ r x lt early. line_begun n (wide_of b) b.part.behind end q r x old mid new (omega arith) c.fill.ensures.put (λ i less. c.fill.ensures.made i n less) c.fill-in-loop-r.ensures.put (λ i less. c.fill-in-loop-r.ensures.made i n less) lt (omega (arith, early, c.requires.part)) (inl early)
          (λ above. c.loop-r.invariant.before r x above early);
      after = λ r x lt late across. line_begun n (wide_of b) b.part.behind end q r x old mid new (omega arith) c.fill.ensures.put (λ i less. c.fill.ensures.made i n less) c.fill-in-loop-r.ensures.put (λ i less. c.fill-in-loop-r.ensures.made i n less) lt across (inr late)
          (λ above. c.loop-r.invariant.after r x above late across);
    }

pub returns : goal.returns
returns g c = record { size = c.loop-r.invariant.size ∙ c.requires.size; before = λ r x lt. c.loop-r.invariant.before r x (omega (arith, lt)); after = λ r x lt. c.loop-r.invariant.after r x (omega (arith, lt)) }
