-- Places of cells.
use Rattle.std.specs.Prelude.{ℕ, ◌+◌, List, fold, slice_index_or}

-- a value merged with the cells that stand q places after each of the places
abbrev pub merged_at : {A : Type 0} → (A → A → A) → List A → A → ℕ → A → List ℕ → A
merged_at merge cells d q best places = fold (λ b p. merge b (slice_index_or cells (p + q) d)) best places
