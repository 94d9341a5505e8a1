use Rattle.std.proofs.Common.{ℕ, ◌+◌, ◌-◌, ◌*◌, List, length, get_or, ap, ◌∙◌}
use Rattle.std.proofs.lemmas.List.{length-replicate}
use Rattle.mw_model.proofs.mw_facts.Elements.{get_or-replicate_same}
use Rattle.mw_line_lent.proofs.LineCells.{blank_first}
use Rattle.mw_line_lent.proofs.differences.put_boxes.Goals as goal

pub put_all-requires-clause-upper_blank : goal.put_all-requires-clause-upper_blank
put_all-requires-clause-upper_blank g c =
    let b = c.args.boxes in
    let n = c.args.ends.bottom in
    let count : ℕ = 4 * (b.width + (b.across - 1)) in
    let is = c.as_mut_slice.ensures.value ∙ c.in_ok-uppers.ensures in
    blank_first n b c.as_mut_slice.result.now (ap length is ∙ length-replicate count n) (λ p. ap (λ (t : List g.row.P.Denot). get_or t p n) is ∙ get_or-replicate_same count p n)

pub put_all-requires-clause-lower_blank : goal.put_all-requires-clause-lower_blank
put_all-requires-clause-lower_blank g c =
    let b = c.args.boxes in
    let n = c.args.ends.top in
    let count : ℕ = 4 * (b.width + (b.across - 1)) in
    let is = c.as_mut_slice-2.ensures.value ∙ c.in_ok-lowers.ensures in
    blank_first n b c.as_mut_slice-2.result.now (ap length is ∙ length-replicate count n) (λ p. ap (λ (t : List g.row.P.Denot). get_or t p n) is ∙ get_or-replicate_same count p n)
