use Rattle.std.proofs.Common.{◌≡◌, ℕ, ◌+◌, ◌-◌, ◌*◌, ap, refl, subst, sym, arith, ◌∙◌, get_or}
use Rattle.mw_line_lent.specs.Boxes.{IsPutAt}
use Rattle.mw_offset_lent.specs.EdgeCells.{edge_cell}
use Rattle.mw_offset_lent.proofs.Puts.{rows_le}
use Rattle.mw_offset_lent.proofs.Written.{row_behind}
use Rattle.mw_offset_lent.proofs.edge_cells.lay_edge_rows.Goals as goal

next : (a m : ℕ) → (a + 1) * m ≡ a * m + m
next a m = omega arith

pub loop-q-init : goal.loop-q-init
loop-q-init g c = record { size = refl; made = λ q i few lt. absurd (omega (arith, few)) }

pub loop-q-preserved : goal.loop-q-preserved
loop-q-preserved g c =
    let n = c.args.neutral in
    let s = c.args.source in
    let samples = c.args.samples.now in
    let w = g.P.Laned.WIDTH in
    let q = c.loop-q.q in
    let at-is : q * (4 * c.WIDTH.result) ≡ q * (4 * w) = ap (λ (t : ℕ). q * (4 * t)) c.WIDTH.ensures in
    let put : IsPutAt (q * (4 * w)) (4 * w) c.loop-q.cells c.lay_edge_row.new.cells = subst (λ (t : ℕ). IsPutAt t (4 * w) c.loop-q.cells c.lay_edge_row.new.cells) at-is c.lay_edge_row.ensures.put in
    record {
      size = c.lay_edge_row.ensures.put.size ∙ c.loop-q.invariant.size;
      made = row_behind (λ q i v. v ≡ edge_cell n samples w (s.from + q * s.stride) i) n (4 * w) q c.loop-q.cells c.lay_edge_row.new.cells put
          (λ i lt. ap (λ (t : ℕ). get_or c.lay_edge_row.new.cells (t + i) n) (sym at-is) ∙ c.lay_edge_row.ensures.made i lt) c.loop-q.invariant.made;
    }

pub overflow_mul-from : goal.overflow_mul-from
overflow_mul-from g c = omega (arith, rows_le c.loop-q.q (c.args.source.high - 1) c.args.source.stride (omega arith), c.requires.samples)

pub overflow_add-from : goal.overflow_add-from
overflow_add-from g c = omega (arith, rows_le c.loop-q.q (c.args.source.high - 1) c.args.source.stride (omega arith), c.requires.samples)

pub overflow_mul-at : goal.overflow_mul-at
overflow_mul-at g c =
    let w = g.P.Laned.WIDTH in
    let q = c.loop-q.q in
    let at-is : q * (4 * c.WIDTH.result) ≡ q * (4 * w) = ap (λ (t : ℕ). q * (4 * t)) c.WIDTH.ensures in
    omega (arith, rows_le (q + 1) c.args.source.high (4 * w) (omega arith), next q (4 * w), at-is, c.requires.room)

pub lay_edge_row-requires-clause-samples : goal.lay_edge_row-requires-clause-samples
lay_edge_row-requires-clause-samples g c = omega (arith, rows_le c.loop-q.q (c.args.source.high - 1) c.args.source.stride (omega arith), c.requires.samples)

pub lay_edge_row-requires-clause-room : goal.lay_edge_row-requires-clause-room
lay_edge_row-requires-clause-room g c =
    let w = g.P.Laned.WIDTH in
    let q = c.loop-q.q in
    let at-is : q * (4 * c.WIDTH.result) ≡ q * (4 * w) = ap (λ (t : ℕ). q * (4 * t)) c.WIDTH.ensures in
    omega (arith, rows_le (q + 1) c.args.source.high (4 * w) (omega arith), next q (4 * w), at-is, c.loop-q.invariant.size, c.requires.room)

pub returns-clause-made : goal.returns-clause-made
returns-clause-made g c = λ q i few lt. c.loop-q.invariant.made q i (omega (arith, few)) lt
