use Rattle.std.proofs.Common.{◌≡◌, ℕ, ◌+◌, ◌-◌, ◌*◌, get_or, refl, subst, arith, ◌∙◌}
use Rattle.mw_line.specs.Cells.{merged_cell}
use Rattle.mw_line.specs.Extrema.{over_box}
use Rattle.mw_line.proofs.Folds.{IsExtremum}
use Rattle.mw_line_lent.specs.Boxes.{HasLine}
use Rattle.mw_line_lent.specs.Sheets.{HasParts}
use Rattle.mw_line_lent.proofs.Bests.{best_box}
use Rattle.mw_line_lent.proofs.Puts.{rows_le, rows_on}
use Rattle.mw_line_lent.proofs.SheetLines.{line_alone}
use Rattle.mw_line_lent.proofs.tall.put_tall.Goals as goal

pub by_lines-init : goal.by_lines-init
by_lines-init g c = record {
  within = omega arith;
  few = omega arith;
  sheet = c.requires.sheet;
  parts = λ lt. absurd (omega (arith, lt));
  blank = c.requires.blank;
  spare = refl;
  size = refl;
  made = λ x y less lt. absurd (omega (arith, lt));
}

pub by_lines-preserved : goal.by_lines-preserved
by_lines-preserved g c =
    let f = g.E.Extremum.merge in
    let laws : IsExtremum f = record { commutes = g.met.E.Extremum.commutes; associates = g.met.E.Extremum.associates; is_idempotent = g.met.E.Extremum.is_idempotent } in
    let b = c.args.tall.boxes in
    let n = c.args.neutral in
    let w = c.args.lent.now in
    let y = c.by_lines.y in
    let wide = b.width + (b.across - 1) in
    let lines = c.put_tall_line.new.lines in
    let cell = merged_cell f n w b.column b.row in
    let suited = c.requires.tall.suited in
    let turn = c.place_in_block-turn in
    let line : HasLine f n w b y 0 lines = subst (λ (t : ℕ). HasLine f n w b t 0 lines) turn.ensures.line c.put_tall_line.ensures.line in
    record {
      within = omega arith;
      few = omega (arith, c.place_in_block-turn.ensures.few);
      sheet = c.put_tall_line.ensures.sheet;
      parts = λ lt. subst (λ (t : ℕ). HasParts f n w b (t + 1) (turn.result.at + 1) c.put_tall_line.new.sheet) turn.ensures.line c.put_tall_line.ensures.parts;
      blank = c.put_tall_line.ensures.blank;
      spare = c.put_rows.ensures.spare ∙ c.by_lines.invariant.spare;
      size = c.put_rows.ensures.put.size ∙ c.by_lines.invariant.size;
      made = rows_on (λ x y v. v ≡ over_box f cell b.across b.down x y) n b.width y 1 c.by_lines.out c.put_rows.new.out c.put_rows.ensures.put
          (λ r x lt less. best_box f laws cell (λ j. get_or lines (r * wide + j) n) x (y + r) b.across b.down _ suited.across suited.down
          (λ j from to. line_alone f n w b y r lines lt line j (omega (arith, to, less, suited.across)))
          (c.put_rows.ensures.made r x n lt less))
          c.by_lines.invariant.made;
    }

pub put_rows-requires-clause-lines : goal.put_rows-requires-clause-lines
put_rows-requires-clause-lines g c = omega (arith, c.put_tall_line.ensures.blank.size)

pub put_rows-requires-clause-spare : goal.put_rows-requires-clause-spare
put_rows-requires-clause-spare g c = omega (arith, c.by_lines.invariant.spare, c.requires.spare)

pub put_rows-requires-clause-room : goal.put_rows-requires-clause-room
put_rows-requires-clause-room g c =
    let b = c.args.tall.boxes in
    let y = c.by_lines.y in
    omega (arith, rows_le (y + 1) b.height b.width (omega arith), c.requires.room, c.by_lines.invariant.size)
