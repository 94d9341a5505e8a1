use Rattle.std.proofs.Common.{◌≡◌, ◌+◌, ◌*◌, ◌∙◌, List, length, get_or, ap, arith}
use Rattle.mw_model.proofs.mw_facts.Elements.{take-written, get_or-replicate_same}
use Rattle.mw_offset.proofs.strips.extremum_by_strips.Goals as goal

pub merge_strips-requires-clause-blank : goal.merge_strips-requires-clause-blank
merge_strips-requires-clause-blank g c = λ q.
    ap (λ (t : List g.row.P.Denot). get_or t q c.args.neutral) (c.as_mut_slice.ensures.value ∙ c.in_ok-samples.ensures) ∙ get_or-replicate_same (c.args.tile.height * c.args.tile.width) q c.args.neutral

pub returns-clause-cells : goal.returns-clause-cells
returns-clause-cells g c = λ x y less row_less.
    let items = c.in_ok-samples.samples.items in
    let out = c.merge_strips.new.out in
    let whole : length out ≡ c.in_ok-samples.samples.len = omega arith in
    ap (λ (t : List g.row.P.Denot). get_or t (y * c.args.tile.width + x) c.args.neutral) (take-written items out c.in_ok-samples.samples.len whole) ∙ c.in_ok-merge_strips.ensures x y less row_less
