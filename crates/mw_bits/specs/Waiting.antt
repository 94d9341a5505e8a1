-- Bits that wait to be merged.
use Rattle.std.specs.Prelude.{ℕ, ◌+◌, List, Option, Some, None}
use Rattle.mw_offset.specs.mw_pixel_words.Packed.{bit_of}

-- a bit once the one that waits is merged into it
abbrev pub with_waiting : (ℕ → ℕ → ℕ) → List ℕ → ℕ → Option ℕ → ℕ → ℕ
with_waiting merge cells q None best = best
with_waiting merge cells q (Some start) best = merge best (bit_of cells (start + q))
