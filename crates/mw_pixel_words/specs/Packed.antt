-- Sets packed in words of 64 pixels.
use Rattle.std.specs.Prelude.{◌≡◌, ℕ, ◌+◌, ◌*◌, ◌/◌, ◌%◌, ◌<◌, ◌≤◌, List, length, map, slice_index}
use Rattle.std.specs.List.{range_with_len}
use Rattle.std.specs.Int.{bit_at}

-- the bit at a place of a list of words, in each word the lowest bit first
unfoldable pub bit_of : List ℕ → ℕ → ℕ
bit_of words place = bit_at (slice_index words (place / 64)) (place % 64)

-- how many words a row of so many pixels has
abbrev pub stride_of : ℕ → ℕ
stride_of width = (width + 63) / 64

-- the samples, by rows: each row begins with a word of its own
unfoldable pub samples_of : ℕ → ℕ → List ℕ → List ℕ
samples_of width height words =
    map (λ i. bit_of words (i / width * (64 * stride_of width) + i % width)) (range_with_len 0 (height * width))

-- each row has its words, and their bits past the width are 0
pub record IsPacked (width height : ℕ) (words : List ℕ) : Type 0 where
  pub size : length words ≡ height * stride_of width
  pub clean : (x y : ℕ) → y < height → width ≤ x → x < 64 * stride_of width → bit_of words (y * (64 * stride_of width) + x) ≡ 0
