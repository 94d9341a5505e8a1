use Rattle.std.proofs.Common.{◌≡◌, ◌+◌, ◌-◌, ◌*◌, ◌∙◌, ℕ, ap, sym, arith, get_or, inl, inr}
use Rattle.std.proofs.lemmas.Bool.{cases_lt}
use Rattle.mw_offset_lent.proofs.Puts.{put_none, put_part}
use Rattle.mw_offset_lent.proofs.CellsOfEdges.{edge_beside, edge_between}
use Rattle.mw_offset_lent.proofs.edge_cells.lay_edge_row.Goals as goal

pub returns-clause-put : goal.returns-clause-put
returns-clause-put g c =
    let at = c.args.at in
    let w = g.P.Laned.WIDTH in
    let old = c.args.cells.now in
    let mid = c.store_both.new.out in
    put_part at (4 * w) (at + 2 * c.WIDTH-2.result) (2 * w) old mid c.store_both-2.new.out (omega arith) (omega (arith, c.WIDTH-2.ensures)) (put_part at (4 * w) at (2 * w) old old mid (omega arith) (omega arith) (put_none at (4 * w) old) c.store_both.ensures.put) c.store_both-2.ensures.put

pub returns-clause-made : goal.returns-clause-made
returns-clause-made g c = λ i lt.
    let n = c.args.neutral in
    let at = c.args.at in
    let from = c.args.from in
    let w = g.P.Laned.WIDTH in
    let samples = c.args.samples.now in
    let new = c.store_both-2.new.out in
    elim (cases_lt i w) [
      | inl before ↦
          c.store_both-2.ensures.put.before (at + i) n (omega (arith, before, c.WIDTH-2.ensures)) ∙ c.store_both.ensures.first i n before ∙ c.all-beside.ensures i before ∙ sym (edge_beside n samples w from i (inl before))
      | inr from_first ↦ elim (cases_lt i (2 * w)) [
        | inl first ↦
            let here : at + i ≡ at + w + (i - w) = omega (arith, from_first) in
            c.store_both-2.ensures.put.before (at + i) n (omega (arith, first, c.WIDTH-2.ensures))
            ∙ ap (λ (t : ℕ). get_or c.store_both.new.out t n) here
            ∙ c.store_both.ensures.second (i - w) n (omega (arith, first, from_first))
            ∙ c.load-first.ensures (i - w) n (omega (arith, first, from_first))
            ∙ sym (edge_between n samples w from i from_first (omega (arith, first)))
        | inr from_second ↦ elim (cases_lt i (3 * w)) [
          | inl second ↦
              let here : at + i ≡ at + 2 * c.WIDTH-2.result + (i - 2 * w) = omega (arith, from_second, c.WIDTH-2.ensures) in
              let there : from + c.WIDTH.result + (i - 2 * w) ≡ from + (i - w) = omega (arith, from_second, c.WIDTH.ensures) in
              ap (λ (t : ℕ). get_or new t n) here
              ∙ c.store_both-2.ensures.first (i - 2 * w) n (omega (arith, second, from_second))
              ∙ c.load-second.ensures (i - 2 * w) n (omega (arith, second, from_second))
              ∙ ap (λ (t : ℕ). get_or samples t n) there
              ∙ sym (edge_between n samples w from i (omega (arith, from_second)) second)
          | inr behind ↦
              let here : at + i ≡ at + 2 * c.WIDTH-2.result + w + (i - 3 * w) = omega (arith, behind, c.WIDTH-2.ensures) in
              ap (λ (t : ℕ). get_or new t n) here
              ∙ c.store_both-2.ensures.second (i - 3 * w) n (omega (arith, behind, lt))
              ∙ c.all-beside.ensures (i - 3 * w) (omega (arith, behind, lt))
              ∙ sym (edge_beside n samples w from i (inr behind))
        ]
      ]
    ]
