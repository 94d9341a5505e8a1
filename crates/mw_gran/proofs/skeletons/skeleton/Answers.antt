use Rattle.std.proofs.Common.{◌≡◌, ◌+◌, ◌*◌, ℕ, length, arith, subst}
use Rattle.mw_plan.specs.Seen.{source}
use Rattle.mw_gran.specs.Turns.{MarksResidues}
use Rattle.mw_gran.proofs.Turns.{skeleton_begins, skeleton_ends}
use Rattle.mw_gran.proofs.skeletons.skeleton.Goals as goal

pub loop-n-init : goal.loop-n-init
loop-n-init c = record {
  count = (let all = c.in_ok-plan.ensures.count in omega arith);
  marks = λ b slides. skeleton_begins b c.args.levels c.in_ok-plan.plan (c.in_ok-plan.ensures.erodes b slides);
}

pub loop-n-preserved : goal.loop-n-preserved
loop-n-preserved c = record {
  count = (let more = c.in_ok-more.ensures.count in let before = c.loop-n.invariant.count in omega arith);
  marks = λ b slides. c.in_ok-more.ensures.marks b slides (c.loop-n.invariant.marks b slides);
}

pub returns : goal.returns
returns c = λ b slides.
    let same : c.loop-n.n ≡ c.args.levels = omega arith in
    let count : length c.marks_or_blank.new.plan ≡ 3 * c.args.levels + 1 = (let more = c.in_ok-marks.ensures.count in let before = c.loop-n.invariant.count in omega arith) in
    let at = subst (λ (n : ℕ). MarksResidues b c.args.levels n c.loop-n.plan c.loop-n.last) same (c.loop-n.invariant.marks b slides) in
    let last = c.in_ok-marks.ensures.shows b c.args.levels at.are_marks in
    skeleton_ends b c.args.levels c.loop-n.plan c.marks_or_blank.new.plan c.add.new.plan (source c.eroded.result) (source c.in_ok-marks.marks) (source c.in_ok-add.field-0) c.loop-n.last count at
    c.in_ok-marks.ensures.goes_on last c.eroded.ensures c.in_ok-add.ensures
