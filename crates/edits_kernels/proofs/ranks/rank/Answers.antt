use Rattle.edits_kernels.proofs.ranks.rank.Goals as goal

pub rank-requires : goal.rank-requires
rank-requires g c = c.requires

pub returns-clause-over_window : goal.returns-clause-over_window
returns-clause-over_window g c = c.rank.ensures.over_window

pub returns-clause-over_frame : goal.returns-clause-over_frame
returns-clause-over_frame g c = c.rank.ensures.over_frame
