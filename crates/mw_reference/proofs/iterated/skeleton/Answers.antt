use Rattle.std.proofs.Common.{◌≡◌, arith, ap, subst, IfOk}
use Rattle.mw_model.specs.Pictures.{Picture}
use Rattle.mw_reference.proofs.Iterates.{once_more, marked_more, marks_bounded, skeleton_from_marks}
use Rattle.mw_model.specs.Flat.{erosion}
use Rattle.mw_reference.proofs.iterated.skeleton.Goals as goal

pub with_residue-requires : goal.with_residue-requires
with_residue-requires c = let top = ap (λ (t : Picture). t.maxval) c.loop-n.invariant.marked in omega arith

pub loop-n-init : goal.loop-n-init
loop-n-init c = record { marked = c.in_ok-marks.ensures; eroded = c.in_ok-eroded.ensures }

pub loop-n-preserved : goal.loop-n-preserved
loop-n-preserved c = record {
  marked = marked_more c.args.element.now c.args.image.now c.args.depth c.loop-n.n c.loop-n.eroded c.loop-n.marks c.in_ok-marks-2.marks c.loop-n.invariant.eroded c.loop-n.invariant.marked
      c.in_ok-marks-2.ensures;
  eroded = once_more (erosion c.args.element.now) c.loop-n.n c.args.image.now c.loop-n.eroded c.in_ok-eroded-2.eroded c.in_ok-eroded-2.ensures c.loop-n.invariant.eroded;
}

pub redraw-requires : goal.redraw-requires
redraw-requires c = record { bounded = marks_bounded c.args.depth c.loop-n.eroded c.loop-n.marks (ap (λ (t : Picture). t.maxval) c.loop-n.invariant.marked) }

pub returns : goal.returns
returns c =
    let whole = skeleton_from_marks c.args.element.now c.args.image.now c.args.depth c.loop-n.n c.loop-n.eroded c.loop-n.marks (omega arith) c.loop-n.invariant.eroded c.loop-n.invariant.marked in
    subst (λ (t : Picture). IfOk c.redraw.result (λ r. r ≡ t)) whole c.redraw.ensures
