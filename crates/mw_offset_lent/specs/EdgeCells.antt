-- Cells of an edge.
use Rattle.std.specs.Prelude.{ℕ, ◌+◌, ◌-◌, ◌*◌, List, nat_lt, cond, slice_index_or}

-- in a row: so many times n, twice as many samples from a place on, and n again
abbrev pub edge_cell : {A : Type 0} → A → List A → ℕ → ℕ → ℕ → A
edge_cell n samples w from i = cond (nat_lt i w) n (cond (nat_lt i (3 * w)) (slice_index_or samples (from + (i - w)) n) n)
