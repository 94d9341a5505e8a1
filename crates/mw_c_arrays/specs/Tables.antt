-- Tables of the pixels of each byte (own).
use Rattle.std.specs.Prelude.{◌≡◌, ℕ, ◌/◌, ◌%◌, ◌<◌, List, length, slice_index}
use Rattle.std.specs.Int.{bit_at}

-- eight pixels for each byte, the lowest bit first
pub record IsTable (cells : List ℕ) : Type 0 where
  pub size : length cells ≡ 2048
  pub bits : (k : ℕ) → k < 2048 → slice_index cells k ≡ bit_at (k / 8) (k % 8)
