-- Rows of words, and the bits of all words as one list.
use Rattle.std.specs.Prelude.{ℕ, ◌-◌, ◌*◌, ◌^◌, List, length, map, cond, nat_lt, Option, Some, None, ℤ, pos, negsuc}
use Rattle.std.specs.List.{range_with_len, sum_by}
use Rattle.std.specs.Int.RustNames.{count_ones}
use Rattle.mw_line.specs.mw_pixel_words.Packed.{bit_of}

-- the pixel at a place of a row of so many, where the row has that place
abbrev pub pixel_at : List ℕ → ℕ → ℤ → Option ℕ
pixel_at row width (pos x) = cond (nat_lt x width) (Some (bit_of row x)) None
pixel_at row width (negsuc x) = None

-- how many words the code thinks of before each row
abbrev pub words_before : ℕ
words_before = 2 ^ 35

-- the bits of all words but the last, which is there to be shifted in
unfoldable pub laid_bits : List ℕ → List ℕ
laid_bits words = map (bit_of words) (range_with_len 0 (64 * (length words - 1)))

-- how many bits of the words are set
abbrev pub bits_in : List ℕ → ℕ
bits_in words = sum_by count_ones words
