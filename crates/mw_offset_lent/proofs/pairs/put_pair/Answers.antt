use Rattle.std.proofs.Common.{◌≡◌, ℕ, ◌+◌, ◌-◌, ◌*◌, length, arith, inl, inr}
use Rattle.mw_offset_lent.proofs.Puts.{put_part}
use Rattle.mw_offset_lent.specs.Places.{merged_at}
use Rattle.mw_offset_lent.proofs.Written.{rows_put}
use Rattle.mw_offset_lent.proofs.TwoRows.{ends_done, row_columns}
use Rattle.mw_offset_lent.proofs.Rooms.{all_fit}
use Rattle.mw_offset_lent.proofs.pairs.put_pair.Goals as goal

pub put_columns-requires-clause-inside : goal.put_columns-requires-clause-inside
put_columns-requires-clause-inside g c =
    let s = c.args.split in
    let split = c.requires.split in
    all_fit s.all.now (c.args.from + s.left + s.ahead + (s.width - s.left - s.right)) (c.args.from + s.wide + s.width) (length c.args.cells.now) (omega (arith, split.ahead, split.room, split.left, split.right)) c.requires.inside

pub put_columns-requires-clause-apart : goal.put_columns-requires-clause-apart
put_columns-requires-clause-apart g c = let split = c.requires.split in omega (arith, split.room, split.left, split.right)

pub put_columns-requires-clause-room : goal.put_columns-requires-clause-room
put_columns-requires-clause-room g c = let split = c.requires.split in omega (arith, split.room, split.left, split.right, c.requires.room)

pub returns-then-left-gt0-clause-put : goal.returns-then-left-gt0-clause-put
returns-then-left-gt0-clause-put g c =
    let s = c.args.split in
    let split = c.requires.split in
    let at = c.args.at in
    let mid = c.put_columns.new.out in
    put_part at (2 * s.width) at (2 * s.width) c.args.out.now mid c.put_ends.new.out (omega arith) (omega arith)
    (rows_put at (2 * s.width) (at + s.left) (s.width - s.left - s.right) (s.width + s.right - s.left) c.args.out.now mid (omega arith) (omega (arith, split.room, split.left, split.right)) c.put_columns.ensures.put) c.put_ends.ensures.put

pub returns-then-left-gt0-clause-made : goal.returns-then-left-gt0-clause-made
returns-then-left-gt0-clause-made g c = λ r i few lt.
    let s = c.args.split in
    let split = c.requires.split in
    let n = c.args.neutral in
    let at = c.args.at in
    let from = c.args.from in
    let w = 2 * g.P.Laned.WIDTH in
    let value = λ (p : ℕ). merged_at g.E.Extremum.merge c.args.cells.now n p n s.all.now in
    let none : s.right ≡ 0 = elim split.side [ inl left_none ↦ absurd (omega (arith, left_none)) | inr right_none ↦ right_none ] in
    ends_done value n at from s.width s.wide s.left s.right w 0 (s.width - 2 * c.WIDTH.result) c.put_columns.new.out c.put_ends.new.out (omega (arith, split.room)) (omega (arith, split.room, c.WIDTH.ensures))
    (λ i lt. c.put_ends.ensures.upper i lt) (λ i lt. c.put_ends.ensures.lower i (omega (arith, lt))) (λ i out_of_upper out_of_lower. c.put_ends.ensures.kept i n out_of_upper out_of_lower)
    (λ i lt out. elim out [ inl low ↦ absurd (omega (arith, low)) | inr high ↦ (omega (arith, high, split.lanes, split.left), omega (arith, lt, none)) ])
    (λ i lt out. elim out [ inl low ↦ (omega (arith, none), omega (arith, low, split.lanes, split.left, split.room, c.WIDTH.ensures)) | inr high ↦ absurd (omega (arith, high, lt, split.room, c.WIDTH.ensures)) ])
    (λ r i few upper lower. row_columns value n at from s.width s.wide s.left s.right s.ahead (s.width + s.right - s.left) r c.put_columns.new.out few (omega (arith, split.room, split.left)) (omega (arith, split.room, split.left)) split.ahead (λ i lt. c.put_columns.ensures.made r i few lt) i upper lower) r i few lt

pub returns-then-right-gt0-clause-put : goal.returns-then-right-gt0-clause-put
returns-then-right-gt0-clause-put g c =
    let s = c.args.split in
    let split = c.requires.split in
    let at = c.args.at in
    let mid = c.put_columns.new.out in
    put_part at (2 * s.width) at (2 * s.width) c.args.out.now mid c.put_ends-then-right-gt0.new.out (omega arith) (omega arith)
    (rows_put at (2 * s.width) (at + s.left) (s.width - s.left - s.right) (s.width + s.right - s.left) c.args.out.now mid (omega arith) (omega (arith, split.room, split.left, split.right)) c.put_columns.ensures.put) c.put_ends-then-right-gt0.ensures.put

pub returns-then-right-gt0-clause-made : goal.returns-then-right-gt0-clause-made
returns-then-right-gt0-clause-made g c = λ r i few lt.
    let s = c.args.split in
    let split = c.requires.split in
    let n = c.args.neutral in
    let at = c.args.at in
    let from = c.args.from in
    let w = 2 * g.P.Laned.WIDTH in
    let value = λ (p : ℕ). merged_at g.E.Extremum.merge c.args.cells.now n p n s.all.now in
    let none : s.left ≡ 0 = elim split.side [ inl left_none ↦ left_none | inr right_none ↦ absurd (omega (arith, right_none)) ] in
    ends_done value n at from s.width s.wide s.left s.right w (s.width - 2 * c.WIDTH.result) 0 c.put_columns.new.out c.put_ends-then-right-gt0.new.out (omega (arith, split.room, c.WIDTH.ensures)) (omega (arith, split.room))
    (λ i lt. c.put_ends-then-right-gt0.ensures.upper i lt) (λ i lt. c.put_ends-then-right-gt0.ensures.lower i lt) (λ i out_of_upper out_of_lower. c.put_ends-then-right-gt0.ensures.kept i n out_of_upper out_of_lower)
    (λ i lt out. elim out [ inl low ↦ (omega (arith, none), omega (arith, low, split.lanes, split.right, split.room, c.WIDTH.ensures)) | inr high ↦ absurd (omega (arith, high, lt, split.room, c.WIDTH.ensures)) ])
    (λ i lt out. elim out [ inl low ↦ absurd (omega (arith, low)) | inr high ↦ (omega (arith, high, split.lanes, split.right), omega (arith, lt, none)) ])
    (λ r i few upper lower. row_columns value n at from s.width s.wide s.left s.right s.ahead (s.width + s.right - s.left) r c.put_columns.new.out few (omega (arith, split.room, split.left)) (omega (arith, split.room, split.left)) split.ahead (λ i lt. c.put_columns.ensures.made r i few lt) i upper lower) r i few lt

pub returns-clause-put : goal.returns-clause-put
returns-clause-put g c =
    let s = c.args.split in
    let split = c.requires.split in
    let at = c.args.at in
    rows_put at (2 * s.width) (at + s.left) (s.width - s.left - s.right) (s.width + s.right - s.left) c.args.out.now c.put_columns.new.out (omega arith) (omega (arith, split.room, split.left, split.right)) c.put_columns.ensures.put

pub returns-clause-made : goal.returns-clause-made
returns-clause-made g c = λ r i few lt.
    let s = c.args.split in
    let split = c.requires.split in
    let n = c.args.neutral in
    let value = λ (p : ℕ). merged_at g.E.Extremum.merge c.args.cells.now n p n s.all.now in
    let no_left : s.left ≡ 0 = omega arith in
    let no_right : s.right ≡ 0 = omega arith in
    row_columns value n c.args.at c.args.from s.width s.wide s.left s.right s.ahead (s.width + s.right - s.left) r c.put_columns.new.out few (omega (arith, split.room, split.left)) (omega (arith, split.room, split.left)) split.ahead (λ i lt. c.put_columns.ensures.made r i few lt) i
    (λ is. (omega (arith, no_left), omega (arith, no_right, lt))) (λ is. (omega (arith, no_right), omega (arith, no_left, lt)))

pub put_columns-requires-clause-cells : goal.put_columns-requires-clause-cells
put_columns-requires-clause-cells g c = let split = c.requires.split in omega (arith, split.ahead, split.room, split.left, split.right, c.requires.cells)
