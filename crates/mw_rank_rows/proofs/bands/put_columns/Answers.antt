use Rattle.std.proofs.Common.{◌+◌, ◌*◌, List, ap, arith, length, get_or, ◌∙◌}
use Rattle.mw_model.proofs.mw_facts.Elements.{take-written}
use Rattle.mw_rank_rows.proofs.bands.put_columns.Goals as goal

pub returns-clause-size : goal.returns-clause-size
returns-clause-size g c =
    let size = c.put_block.ensures.size ∙ ap length c.as_mut_slice.ensures.value in
    ap length (take-written c.args.out.now.items c.put_block.new.out c.args.out.now.len (omega (arith, size))) ∙ size

pub returns-clause-put : goal.returns-clause-put
returns-clause-put g c = λ x j d lt down.
    let size = c.put_block.ensures.size ∙ ap length c.as_mut_slice.ensures.value in
    ap (λ (l : List _). get_or l (j * c.args.width + (c.args.from + x)) d) (take-written c.args.out.now.items c.put_block.new.out c.args.out.now.len (omega (arith, size))) ∙ c.put_block.ensures.put x j d lt down

pub returns-clause-others : goal.returns-clause-others
returns-clause-others g c = λ x j d lt.
    let size = c.put_block.ensures.size ∙ ap length c.as_mut_slice.ensures.value in
    ap (λ (l : List _). get_or l (j * c.args.width + x) d) (take-written c.args.out.now.items c.put_block.new.out c.args.out.now.len (omega (arith, size)))
    ∙ c.put_block.ensures.others x j d lt
    ∙ ap (λ (l : List _). get_or l (j * c.args.width + x) d) c.as_mut_slice.ensures.value
