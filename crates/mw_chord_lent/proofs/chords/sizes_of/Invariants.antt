use Rattle.std.proofs.Common.{◌≡◌, ℕ, ◌+◌, ◌-◌, ◌*◌, ◌<◌, ◌≤◌, length, get_or}
use Rattle.mw_chord_lent.specs.Sizes.{AreSizes}
use Rattle.mw_chord_lent.proofs.chords.sizes_of.Given as goal

abbrev pub invariant-sizes : goal.invariant-sizes
invariant-sizes l = record {
  chain : AreSizes l.sizes.items;
  within : (j : ℕ) → j < length l.sizes.items → get_or l.sizes.items j 0 ≤ l.longest;
  last : (j : ℕ) → j + 1 ≡ length l.sizes.items → get_or l.sizes.items j 0 ≡ l.size;
  some : 0 < l.size;
  small : l.size ≤ l.longest;
  more : l.size < l.next;
  twice : l.next ≤ 2 * l.size;
}

abbrev pub decreases-sizes : goal.decreases-sizes
decreases-sizes l = l.longest + 1 - l.size
