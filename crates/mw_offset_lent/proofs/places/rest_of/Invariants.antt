use Rattle.std.proofs.Common.{◌⊎◌, ℕ, ◌+◌, take}
use Rattle.std.specs.List.{Contains}
use Rattle.mw_offset_lent.proofs.places.rest_of.Given as goal

abbrev pub invariant-loop-place : goal.invariant-loop-place
invariant-loop-place l = record {
  rest : (p : ℕ) → Contains l.rest.items p → Contains l.all p;
  whole : (p : ℕ) → Contains (take l.place-index l.all) p → (Contains l.shared (p + l.ahead)) ⊎ (Contains l.rest.items p);
}
