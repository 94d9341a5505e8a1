use Rattle.std.proofs.Common.{◌≡◌, ℕ, ◌+◌, ◌*◌, arith, refl, ◌∙◌}
use Rattle.mw_line.specs.Cells.{spread_cell}
use Rattle.mw_offset_lent.proofs.Puts.{rows_le}
use Rattle.mw_offset_lent.proofs.Written.{row_behind}
use Rattle.mw_offset_lent.proofs.layout.lay_rows.Goals as goal

next : (a m : ℕ) → (a + 1) * m ≡ a * m + m
next a m = omega arith

pub loop-y-init : goal.loop-y-init
loop-y-init g c = record { size = refl; made = λ y x few lt. absurd (omega (arith, few)) }

pub loop-y-preserved : goal.loop-y-preserved
loop-y-preserved g c =
    let rows = c.args.rows in
    let n = c.args.neutral in
    record {
      size = c.lay_row.ensures.put.size ∙ c.loop-y.invariant.size;
      made = λ y x few lt.
          row_behind (λ y x v. v ≡ spread_cell n c.args.lent.now rows.column rows.row x y) n rows.wide c.loop-y.y c.loop-y.cells c.lay_row.new.cells c.lay_row.ensures.put (λ x lt. c.lay_row.ensures.made x lt) c.loop-y.invariant.made y x few lt;
    }

pub lay_row-requires-clause-room : goal.lay_row-requires-clause-room
lay_row-requires-clause-room g c = omega (arith, rows_le (c.loop-y.y + 1) c.args.rows.high c.args.rows.wide (omega arith), c.loop-y.invariant.size, c.requires.room)

pub returns-clause-made : goal.returns-clause-made
returns-clause-made g c = λ x y lt few. c.loop-y.invariant.made y x (omega (arith, few)) lt
