use Rattle.std.proofs.Common.{◌≡◌, ℕ, ◌+◌, ◌-◌, ◌*◌, ◌≤◌, get_or, subst, arith}
use Rattle.mw_line.proofs.Folds.{IsExtremum}
use Rattle.mw_line_lent.specs.Sheets.{HasTails}
use Rattle.mw_line_lent.proofs.Puts.{rows_le}
use Rattle.mw_line_lent.proofs.SheetLines.{sheet_kept, tail_none, tails_more}
use Rattle.mw_line_lent.proofs.tall.put_tails.Goals as goal

pub by_rows-init : goal.by_rows-init
by_rows-init g c =
    let f = g.E.Extremum.merge in
    let laws : IsExtremum f = record { commutes = g.met.E.Extremum.commutes; associates = g.met.E.Extremum.associates; is_idempotent = g.met.E.Extremum.is_idempotent } in
    record {
      few = omega arith;
      sheet = c.requires.sheet;
      tails = tail_none f laws c.args.neutral c.args.lent.now c.args.tall.boxes c.args.first c.args.sheet.now c.requires.sheet;
    }

pub by_rows-preserved : goal.by_rows-preserved
by_rows-preserved g c =
    let f = g.E.Extremum.merge in
    let laws : IsExtremum f = record { commutes = g.met.E.Extremum.commutes; associates = g.met.E.Extremum.associates; is_idempotent = g.met.E.Extremum.is_idempotent } in
    let n = c.args.neutral in
    let w = c.args.lent.now in
    let b = c.args.tall.boxes in
    let first = c.args.first in
    let left : ℕ = c.by_rows.left - 1 in
    let row = c.row_of-row.result in
    let old = c.by_rows.sheet in
    let new = c.put_before.new.sheet in
    let more : c.by_rows.left ≡ left + 1 = omega arith in
    record {
      few = omega (arith, c.by_rows.invariant.few);
      sheet = sheet_kept n b (left + 2) old new (omega arith) (omega (arith, c.by_rows.invariant.few)) c.by_rows.invariant.sheet c.put_before.ensures.put;
      tails = tails_more f laws n w b first left (λ i. get_or row.samples.now (row.from + i) n) old new (omega (arith, c.by_rows.invariant.few)) (subst (λ (t : ℕ). HasTails f n w b first t old) more c.by_rows.invariant.tails) c.put_before.ensures.put
          (λ i lt. c.put_before.ensures.made i n lt) c.row_of-row.ensures.cells;
    }

pub put_before-requires-clause-room : goal.put_before-requires-clause-room
put_before-requires-clause-room g c =
    let b = c.args.tall.boxes in
    let left : ℕ = c.by_rows.left - 1 in
    let fits : (left + 4) * b.part.count ≤ (b.down + 3) * b.part.count = rows_le (left + 4) (b.down + 3) b.part.count (omega (arith, c.by_rows.invariant.few)) in
    omega (arith, fits, c.by_rows.invariant.sheet.size)
