use Rattle.std.proofs.Common.{◌≡◌, ℕ, ◌+◌, ◌*◌, ◌/◌, ◌∙◌, inl, inr, length, get_or, ap, arith}
use Rattle.std.proofs.lemmas.Bool.{cases_lt}
use Rattle.mw_line.proofs.pairs.merge_row.Goals as goal

pub returns-then-at-out : goal.returns-then-at-out
returns-then-at-out g c = λ q d e lt.
    let f = g.E.Extremum.merge in
    let cells = c.args.cells.now in
    let out = c.args.out.now in
    let near = get_or cells (c.args.from + q) e in
    let far = get_or cells (c.args.from + c.args.shift + q) e in
    let place : c.args.from + c.args.shift + q ≡ c.args.from + q + c.args.shift = omega arith in
    elim (cases_lt q (length out / 64 * 64)) [
      | inl below ↦ c.merge_rest-then-at-out.ensures.below q d below ∙ c.merge_rest.ensures.below q d below ∙ c.merge_blocks.ensures.within q d e below
      | inr after ↦
          c.merge_rest-then-at-out.ensures.within q d e after (omega arith)
          ∙ ap (λ (t : _). f t far) (c.merge_rest.ensures.within q d e after (omega arith) ∙ ap (λ (t : _). f t near) (c.merge_blocks.ensures.past q d after))
          ∙ g.met.E.Extremum.associates (get_or out q d) near far
          ∙ ap (λ (t : ℕ). f (get_or out q d) (f near (get_or cells t e))) place
    ]
