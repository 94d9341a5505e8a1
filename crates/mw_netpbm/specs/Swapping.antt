-- Words in the order of the processor, which has the lower byte first.
use Rattle.std.specs.Prelude.{ℕ, ◌+◌, ◌*◌, ◌/◌, ◌%◌}

-- a word of two bytes with its bytes swapped
abbrev pub swap : ℕ → ℕ
swap s = s % 256 * 256 + s / 256
