-- The levels of an image as they are looked at.
use Rattle.std.specs.Prelude.{ℕ, ◌-◌, Bool, List, map, slice_index, if◌then◌else◌}

-- the levels of samples by their numbers, or of an image that is turned over what the maxval is over them
unfoldable pub level_seen : {A : Type 0} → (A → ℕ) → Bool → ℕ → List A → ℕ → ℕ
level_seen level turned maxval samples i = slice_index (if turned then map (λ s. maxval - s) (map level samples) else map level samples) i
