use Rattle.std.proofs.Common.{◌-◌, ◌*◌, refl, arith, inl, inr, ◌∙◌}
use Rattle.std.proofs.lemmas.Bool.{cases_lt}
use Rattle.mw_offset_lent.proofs.Puts.{put_part}
use Rattle.mw_offset_lent.proofs.in_place.put_in_place.Goals as goal

pub overflow_sub-last : goal.overflow_sub-last
overflow_sub-last g c = let work = c.requires.work in omega (arith, work.split.room, work.width, c.WIDTH.ensures)

pub put_edge-requires-clause-from : goal.put_edge-requires-clause-from
put_edge-requires-clause-from g c = inl refl

pub put_edge-requires-clause-room : goal.put_edge-requires-clause-room
put_edge-requires-clause-room g c = c.put_between.ensures.put.size ∙ c.requires.room

pub put_edge-requires-2-clause-from : goal.put_edge-requires-2-clause-from
put_edge-requires-2-clause-from g c = let work = c.requires.work in inr (omega (arith, work.split.room, work.width, c.WIDTH.ensures))

pub put_edge-requires-2-clause-room : goal.put_edge-requires-2-clause-room
put_edge-requires-2-clause-room g c = c.put_edge.ensures.put.size ∙ c.put_between.ensures.put.size ∙ c.requires.room

pub put_edge-requires-2-clause-cells : goal.put_edge-requires-2-clause-cells
put_edge-requires-2-clause-cells g c = omega (arith, c.put_edge.ensures.cells, c.requires.cells)

pub returns-clause-cells : goal.returns-clause-cells
returns-clause-cells g c = c.put_edge-2.ensures.cells ∙ c.put_edge.ensures.cells

pub returns-clause-put : goal.returns-clause-put
returns-clause-put g c =
    let w = c.args.work.laid.tile.width in
    let at = c.args.strip.y * w in
    let n = c.args.strip.high * w in
    let old = c.args.out.now in
    let one = c.put_between.new.out in
    let two = c.put_edge.new.out in
    put_part at n at n old two c.put_edge-2.new.out (omega arith) (omega arith) (put_part at n at n old one two (omega arith) (omega arith) c.put_between.ensures.put c.put_edge.ensures.put) c.put_edge-2.ensures.put

pub returns-clause-made : goal.returns-clause-made
returns-clause-made g c = λ offsets laid r x few lt.
    let work = c.requires.work in
    let lines = work.lines c.requires.lines.some in
    let w = c.args.work.laid.tile.width in
    let block = g.P.Laned.WIDTH in
    elim (cases_lt x (w - block)) [
      | inr last ↦ c.put_edge-2.ensures.made offsets laid r x few (omega (arith, last, c.WIDTH.ensures)) (omega (arith, lt, work.split.room, work.width, c.WIDTH.ensures))
      | inl before ↦
          c.put_edge-2.ensures.kept r x few lt (inl (omega (arith, before, c.WIDTH.ensures)))
          ∙ elim (cases_lt x block) [
            | inl low ↦ c.put_edge.ensures.made offsets laid r x few (omega arith) (omega (arith, low))
            | inr high ↦ c.put_edge.ensures.kept r x few lt (inr (omega (arith, high))) ∙ c.put_between.ensures.made offsets laid r x few (omega (arith, high, lines.across)) (omega (arith, before, lines.across))
          ]
    ]
