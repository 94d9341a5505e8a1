use Rattle.std.proofs.Common.{◌≡◌, ℕ, ◌+◌, ◌*◌, ◌≤◌, get_or, ap, subst, arith, ◌∙◌}
use Rattle.mw_line.specs.Cells.{merged_cell}
use Rattle.mw_line.proofs.Folds.{IsExtremum}
use Rattle.mw_line_lent.specs.Bests.{IsBest}
use Rattle.mw_line_lent.specs.Boxes.{IsPutAt, wide_of}
use Rattle.mw_line_lent.proofs.LineCells.{blank_kept, line_made}
use Rattle.mw_line_lent.proofs.Puts.{rows_le}
use Rattle.mw_line_lent.proofs.SheetLines.{parts_joined, parts_more, sheet_kept}
use Rattle.mw_line_lent.proofs.tall.put_tall_line.Goals as goal

pub returns-clause-blank : goal.returns-clause-blank
returns-clause-blank g c = blank_kept c.args.neutral c.args.tall.boxes 0 c.args.tall.boxes.part.behind c.args.lines.now c.put_between.new.out (omega arith) c.requires.tall.part.within c.requires.blank c.put_between.ensures.line_put

pub returns-clause-sheet : goal.returns-clause-sheet
returns-clause-sheet g c =
    let b = c.args.tall.boxes in
    let old = c.args.sheet.now in
    let new = c.put_between.new.sheet in
    let at = c.args.turn.at in
    let place : at * b.part.count + b.part.count ≡ (at + 1) * b.part.count = omega arith in
    sheet_kept c.args.neutral b (at + 1) old new (omega arith) (omega (arith, c.requires.few)) c.requires.sheet (subst (λ (t : ℕ). IsPutAt t b.part.count old new) place c.put_between.ensures.put)

pub returns-clause-parts : goal.returns-clause-parts
returns-clause-parts g c =
    let f = g.E.Extremum.merge in
    let laws : IsExtremum f = record { commutes = g.met.E.Extremum.commutes; associates = g.met.E.Extremum.associates; is_idempotent = g.met.E.Extremum.is_idempotent } in
    let n = c.args.neutral in
    let b = c.args.tall.boxes in
    let old = c.args.sheet.now in
    let new = c.put_between.new.sheet in
    let at = c.args.turn.at in
    let row = c.row_of-row.result in
    let place : at * b.part.count + b.part.count ≡ (at + 1) * b.part.count = omega arith in
    parts_more f laws n c.args.lent.now b c.args.turn.y at (λ i. get_or row.samples.now (row.from + i) n) old new c.requires.parts (subst (λ (t : ℕ). IsPutAt t b.part.count old new) place c.put_between.ensures.put)
    (λ i lt. ap (λ (t : ℕ). get_or new (t + i) n) (let back : (at + 1) * b.part.count ≡ at * b.part.count + b.part.count = omega arith in back) ∙ c.put_between.ensures.made i n lt)
    c.row_of-row.ensures.cells

pub returns-clause-line : goal.returns-clause-line
returns-clause-line g c =
    let f = g.E.Extremum.merge in
    let laws : IsExtremum f = record { commutes = g.met.E.Extremum.commutes; associates = g.met.E.Extremum.associates; is_idempotent = g.met.E.Extremum.is_idempotent } in
    let n = c.args.neutral in
    let w = c.args.lent.now in
    let b = c.args.tall.boxes in
    let y = c.args.turn.y in
    let at = c.args.turn.at in
    let old = c.args.sheet.now in
    let lines = c.put_between.new.out in
    line_made f laws n w b y 0 0 lines (omega arith) c.requires.tall.suited.down (omega arith) c.requires.tall.part (returns-clause-blank g c)
    (λ i lt.
    let place : b.part.behind + i ≡ 0 * wide_of b + b.part.behind + i = omega arith in
    let third : at * b.part.count + b.part.count + b.part.count + i ≡ (at + 2) * b.part.count + i = omega arith in
    subst (λ (t : ℕ). IsBest f (merged_cell f n w b.column b.row (b.part.behind + i)) y (y + b.down) (get_or lines t n)) place
    (parts_joined f laws n w b y at i old (get_or lines (b.part.behind + i) n) c.requires.few lt c.requires.parts
    (c.put_between.ensures.line i n lt ∙ ap (λ (t : ℕ). f (get_or old (at * b.part.count + i) n) (get_or old t n)) third)))

pub put_between-requires-clause-room : goal.put_between-requires-clause-room
put_between-requires-clause-room g c =
    let b = c.args.tall.boxes in
    let fits : (c.args.turn.at + 3) * b.part.count ≤ (b.down + 3) * b.part.count = rows_le (c.args.turn.at + 3) (b.down + 3) b.part.count (omega (arith, c.requires.few)) in
    omega (arith, fits, c.requires.sheet.size)

pub put_between-requires-clause-line : goal.put_between-requires-clause-line
put_between-requires-clause-line g c = omega (arith, c.requires.tall.part.within, c.requires.blank.size)
