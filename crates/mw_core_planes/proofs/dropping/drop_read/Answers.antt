use Rattle.std.proofs.Common.{Bool, not, ◌&&◌, ap, ◌∙◌, arith}
use Rattle.mw_grid.specs.Blocks.{in_block, sees}
use Rattle.mw_ready.specs.Boards.{step_reads}
use Rattle.mw_core_planes.specs.StepPlanes.{is_read}
use Rattle.mw_core_planes.proofs.Sources.{and_three}
use Rattle.mw_core_planes.proofs.Swept.{all-same}
use Rattle.mw_core_planes.proofs.dropping.drop_read.Goals as goal

pub drop_in_sources-requires-clause-steps : goal.drop_in_sources-requires-clause-steps
drop_in_sources-requires-clause-steps c = λ k e.
    let r = c.requires.steps k e in
    (omega (arith, r.0, c.requires.size), r.0, r.1)

pub returns : goal.returns
returns c =
    let a = c.args in
    all-same a.grid (λ k v. step_reads a.need k && (in_block a.grid c.met_by-block.result v && not (is_read a.ready.now.board k v)))
    (λ k v. step_reads a.need k && sees a.grid a.need.reach a.tile v && not (is_read a.ready.now.board k v)) a.places.now c.drop_in_sources.new.places
    (λ k v k-lt v-lt.
    ap (λ (b : Bool). step_reads a.need k && (b && not (is_read a.ready.now.board k v))) (c.met_by-block.ensures.meets v (omega (arith, v-lt, c.requires.counts k)))
    ∙ and_three (step_reads a.need k) (sees a.grid a.need.reach a.tile v) (not (is_read a.ready.now.board k v)))
    c.drop_in_sources.ensures
