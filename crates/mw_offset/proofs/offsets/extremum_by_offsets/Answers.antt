use Rattle.std.proofs.Common.{◌≡◌, ◌*◌, ◌+◌, ap, ◌∙◌, arith, List, length, get_or, fold}
use Rattle.mw_model.proofs.mw_facts.Elements.{take-written, get_or-replicate_same}
use Rattle.mw_model.specs.Rasters.{seen_under}
use Rattle.mw_model.specs.Windows.{seen_at}
use Rattle.mw_offset.proofs.offsets.extremum_by_offsets.Goals as goal

pub returns-clause-cells : goal.returns-clause-cells
returns-clause-cells g c =
    let f = g.E.Extremum.merge in
    let n = c.args.neutral in
    let tile = c.args.tile in
    let w = c.args.window.now in
    let out = c.combine_tile.new.out in
    let items = c.in_ok-samples.samples.items in
    let whole : length out ≡ c.in_ok-samples.samples.len = omega arith in
    λ x y less row_less.
    ap (λ (t : List g.row.P.Denot). get_or t (y * tile.width + x) n) (take-written items out c.in_ok-samples.samples.len whole)
    ∙ c.combine_tile.ensures x y n less row_less
    ∙ ap (λ (t : List g.row.P.Denot). fold f (get_or t (y * tile.width + x) n) (seen_under (seen_at w) c.args.offsets.now (tile.x + x) (tile.y + y))) (c.as_mut_slice.ensures.value ∙ c.in_ok-samples.ensures)
    ∙ ap (λ (t : g.row.P.Denot). fold f t (seen_under (seen_at w) c.args.offsets.now (tile.x + x) (tile.y + y))) (get_or-replicate_same (tile.height * tile.width) (y * tile.width + x) n)
