use Rattle.std.proofs.Common.{◌≡◌, ℕ, ◌+◌, ◌*◌, arith}
use Rattle.mw_offset_lent.proofs.Puts.{put_longer, put_none, put_part, rows_le}
use Rattle.mw_offset_lent.specs.Places.{merged_at}
use Rattle.mw_offset_lent.proofs.Written.{rows_behind}
use Rattle.mw_offset_lent.proofs.rows.put_rows.Goals as goal

spread : (a m s : ℕ) → (a + m) * s ≡ a * s + m * s
spread a m s = omega arith

pub by_rows-init : goal.by_rows-init
by_rows-init g c = record { within = omega arith; put = put_none c.args.rows.at (0 * c.args.split.width) c.args.out.now; made = λ r i few lt. absurd (omega (arith, few)) }

pub by_rows-preserved : goal.by_rows-preserved
by_rows-preserved g c =
    let s = c.args.split in
    let n = c.args.neutral in
    let rows = c.args.rows in
    let done = c.by_rows.done in
    let made = c.put_some-made.result in
    let mid = c.by_rows.out in
    let new = c.put_some-made.new.out in
    record {
      within = c.put_some-made.ensures.within;
      put = put_part rows.at ((done + made) * s.width) (rows.at + done * s.width) (made * s.width) c.args.out.now mid new (omega arith) (omega (arith, spread done made s.width))
          (put_longer rows.at (done * s.width) ((done + made) * s.width) c.args.out.now mid (omega (arith, spread done made s.width)) c.by_rows.invariant.put) c.put_some-made.ensures.put;
      made = rows_behind (λ r i v. v ≡ merged_at g.E.Extremum.merge c.args.cells.now n (r * s.wide + i) n s.all.now) n rows.at s.width done made mid new c.put_some-made.ensures.put
          (λ r i few lt. c.put_some-made.ensures.made r i few lt) c.by_rows.invariant.made;
    }

pub put_some-made-requires-clause-room : goal.put_some-made-requires-clause-room
put_some-made-requires-clause-room g c = omega (arith, c.requires.room, c.by_rows.invariant.put.size)

pub returns-clause-put : goal.returns-clause-put
returns-clause-put g c = put_longer c.args.rows.at (c.by_rows.done * c.args.split.width) (c.args.rows.high * c.args.split.width) c.args.out.now c.by_rows.out (rows_le c.by_rows.done c.args.rows.high c.args.split.width c.by_rows.invariant.within) c.by_rows.invariant.put

pub returns-clause-made : goal.returns-clause-made
returns-clause-made g c = λ r i few lt. c.by_rows.invariant.made r i (omega (arith, few)) lt
