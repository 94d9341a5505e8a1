-- Sets as words of 64 pixels, and their bytes in a file.
use Rattle.std.specs.Prelude.{ℕ, ◌+◌, ◌*◌, ◌/◌, ◌%◌, List}
use Rattle.std.specs.Simd.Lanes.{digits_l}

-- a byte with its bits turned round
abbrev pub turn : ℕ → ℕ
turn b = b / 128 % 2 + 2 * (b / 64 % 2) + 4 * (b / 32 % 2) + 8 * (b / 16 % 2) + 16 * (b / 8 % 2) + 32 * (b / 4 % 2) + 64 * (b / 2 % 2) + 128 * (b % 2)

-- the pixels of a word, the lowest first
unfoldable pub pixels_of : ℕ → List ℕ
pixels_of word = digits_l 2 64 word
