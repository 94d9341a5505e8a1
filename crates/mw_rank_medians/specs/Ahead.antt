-- Vectors that begin some lanes further on in two vectors behind one another.
use Rattle.std.specs.Prelude.{◌≡◌, ℕ, ◌+◌, ◌-◌, ◌<◌, ◌≤◌}

-- the lanes from number `by` on, as far as the first vector has them, and behind them the first ones of the next vector
abbrev pub IsAhead : {V : Type 0} → {L : Type 0} → (V → ℕ → L) → ℕ → ℕ → V → V → V → Type 0
IsAhead lanes width by here next result = (i : ℕ) → i < width → (i + by < width → lanes result i ≡ lanes here (i + by)) × (width ≤ i + by → lanes result i ≡ lanes next (i + by - width))
