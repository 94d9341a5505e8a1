use Rattle.std.proofs.Common.{◌≡◌, ℕ, ◌+◌, ◌*◌, ◌<◌, ◌≤◌, length, get_or}
use Rattle.mw_line_lent.specs.Boxes.{wide_of}
use Rattle.mw_line_lent.proofs.tiles.begin_lines.Given as goal

abbrev pub invariant-loop-r : goal.invariant-loop-r
invariant-loop-r g l = record {
  size : length l.lines ≡ length l.initial.lines;
  before : (r x : ℕ) → r < l.r → x < l.fn.boxes.part.behind → get_or l.lines (r * wide_of l.fn.boxes + x) l.neutral ≡ l.neutral;
  after : (r x : ℕ) → r < l.r → l.fn.boxes.part.behind + l.fn.boxes.part.count ≤ x → x < wide_of l.fn.boxes → get_or l.lines (r * wide_of l.fn.boxes + x) l.neutral ≡ l.neutral;
}
