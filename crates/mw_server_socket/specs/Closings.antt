-- What is done at the end of a connection (own).
use Rattle.std.specs.Prelude.{◌≡◌, ◌≤◌, ◌⊎◌, ℕ, Bool, true, List, Option}
use Rattle.std.specs.Io.KnownBytes.{Consumes, IsAtEnd}

-- some bytes were read and dropped
abbrev pub Drops : Option (List ℕ) → Option (List ℕ) → Type 0
Drops old new = (bytes : List ℕ) × Consumes old new bytes

-- nothing is left to read, or reading failed, or there were so many reads
abbrev pub IsDone : Option (List ℕ) → Bool → ℕ → ℕ → Type 0
IsDone left failed most reads = IsAtEnd left ⊎ ((failed ≡ true) ⊎ (most ≤ reads))
