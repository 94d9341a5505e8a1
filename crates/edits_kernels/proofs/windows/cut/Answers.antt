use Rattle.edits_kernels.proofs.windows.cut.Goals as goal

pub cut-requires : goal.cut-requires
cut-requires g c = c.requires

pub returns-clause-width : goal.returns-clause-width
returns-clause-width g c = c.cut.ensures.width

pub returns-clause-height : goal.returns-clause-height
returns-clause-height g c = c.cut.ensures.height

pub returns-clause-cells : goal.returns-clause-cells
returns-clause-cells g c = c.cut.ensures.cells
