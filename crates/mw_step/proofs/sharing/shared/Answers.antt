use Rattle.std.specs.Arc.{arc_value}
use Rattle.mw_model.specs.declared.shapes.Kind.TheVariants as kind
use Rattle.mw_step.proofs.Shared.{joint_size, whole_is}
use Rattle.mw_step.proofs.sharing.shared.Goals as goal

pub returns-in_err-plane-in-Bits-clause-size : goal.returns-in_err-plane-in-Bits-clause-size
returns-in_err-plane-in-Bits-clause-size c = joint_size c.args.window.now kind.Bit 1 c.in-Bits.pieces.now c.in-Bits.ensures.0

pub returns-in-Some-clause-size : goal.returns-in-Some-clause-size
returns-in-Some-clause-size c = joint_size c.args.window.now kind.Bit 1 c.in-Bits.pieces.now c.in-Bits.ensures.0

pub returns-in-None-clause-size : goal.returns-in-None-clause-size
returns-in-None-clause-size c = joint_size c.args.window.now kind.Bit 1 c.in-Bits.pieces.now c.in-Bits.ensures.0

pub returns-in-Some-clause-held : goal.returns-in-Some-clause-held
returns-in-Some-clause-held c = whole_is c.args.window.now kind.Bit 1 c.in-Bits.pieces.now (arc_value c.in-Some.plane) c.in-Bits.ensures.0 c.in-Bits.ensures.1 (rw c.in-Some.is at c.in_ok-plane-in-Bits.ensures)

pub returns-in_err-plane-in-Grey8-clause-size : goal.returns-in_err-plane-in-Grey8-clause-size
returns-in_err-plane-in-Grey8-clause-size c = joint_size c.args.window.now kind.Grey c.in-Grey8.maxval c.in-Grey8.pieces.now c.in-Grey8.ensures.0

pub returns-in-Some-2-clause-size : goal.returns-in-Some-2-clause-size
returns-in-Some-2-clause-size c = joint_size c.args.window.now kind.Grey c.in-Grey8.maxval c.in-Grey8.pieces.now c.in-Grey8.ensures.0

pub returns-in-None-2-clause-size : goal.returns-in-None-2-clause-size
returns-in-None-2-clause-size c = joint_size c.args.window.now kind.Grey c.in-Grey8.maxval c.in-Grey8.pieces.now c.in-Grey8.ensures.0

pub returns-in-Some-2-clause-held : goal.returns-in-Some-2-clause-held
returns-in-Some-2-clause-held c = (whole_is c.args.window.now kind.Grey c.in-Grey8.maxval c.in-Grey8.pieces.now (arc_value c.in-Some-2.plane) c.in-Grey8.ensures.0 c.in-Grey8.ensures.1 (rw c.in-Some-2.is at c.in_ok-plane-in-Grey8.ensures), c.in-Grey8.ensures.2)

pub returns-in_err-plane-in-Grey16-clause-size : goal.returns-in_err-plane-in-Grey16-clause-size
returns-in_err-plane-in-Grey16-clause-size c = joint_size c.args.window.now kind.Grey c.in-Grey16.maxval c.in-Grey16.pieces.now c.in-Grey16.ensures.0

pub returns-in-Some-3-clause-size : goal.returns-in-Some-3-clause-size
returns-in-Some-3-clause-size c = joint_size c.args.window.now kind.Grey c.in-Grey16.maxval c.in-Grey16.pieces.now c.in-Grey16.ensures.0

pub returns-in-None-3-clause-size : goal.returns-in-None-3-clause-size
returns-in-None-3-clause-size c = joint_size c.args.window.now kind.Grey c.in-Grey16.maxval c.in-Grey16.pieces.now c.in-Grey16.ensures.0

pub returns-in-Some-3-clause-held : goal.returns-in-Some-3-clause-held
returns-in-Some-3-clause-held c = (whole_is c.args.window.now kind.Grey c.in-Grey16.maxval c.in-Grey16.pieces.now (arc_value c.in-Some-3.plane) c.in-Grey16.ensures.0 c.in-Grey16.ensures.1 (rw c.in-Some-3.is at c.in_ok-plane-in-Grey16.ensures), c.in-Grey16.ensures.2)
