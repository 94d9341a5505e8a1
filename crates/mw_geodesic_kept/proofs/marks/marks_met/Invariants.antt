use Rattle.std.proofs.Common.{◌≡◌, ◌+◌, length, get_or}
use Rattle.mw_pixel.specs.Images.{set_of}
use Rattle.mw_geodesic_kept.specs.Keeping.{LieHeld, HasPixelOf, AreMarked}
use Rattle.mw_geodesic_kept.proofs.marks.marks_met.Given as goal

abbrev pub invariant-loop-y : goal.invariant-loop-y
invariant-loop-y l = record {
  size : length l.marks.items ≡ l.count + 1;
  marked : (held : LieHeld l.marker.width l.marker.height (l.count + 1) l.spans l.starts l.numbers) → AreMarked (HasPixelOf (set_of l.marker)) held.runs l.numbers (get_or l.starts l.y 0) l.marks.items;
}

abbrev pub invariant-loop-k : goal.invariant-loop-k
invariant-loop-k l = record {
  size : length l.marks.items ≡ l.count + 1;
  marked : (held : LieHeld l.marker.width l.marker.height (l.count + 1) l.spans l.starts l.numbers) → AreMarked (HasPixelOf (set_of l.marker)) held.runs l.numbers l.k l.marks.items;
}
