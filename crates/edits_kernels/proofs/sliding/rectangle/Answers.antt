use Rattle.edits_kernels.proofs.sliding.rectangle.Goals as goal

pub returns-clause-over_window : goal.returns-clause-over_window
returns-clause-over_window g c = c.rectangle.ensures.over_window

pub returns-clause-over_frame : goal.returns-clause-over_frame
returns-clause-over_frame g c = c.rectangle.ensures.over_frame

pub returns-clause-small : goal.returns-clause-small
returns-clause-small g c = c.rectangle.ensures.small
