-- Sets as words of 64 pixels.
use Rattle.std.specs.Prelude.{ℕ, zero, suc, ◌+◌, ◌/◌, List, [], ◌∷◌, ◌++◌, take, drop, Result, Ok}
use Rattle.std.specs.Simd.Lanes.{number_l}
use Rattle.mw_netpbm_plain.specs.declared.fault.ReadFault.{ReadFault}
use Rattle.mw_netpbm_plain.specs.Reading.{◌>>=◌}
use Rattle.mw_netpbm_plain.specs.Plain.{front_at}

-- so many words, 64 pixels to each, the first one lowest
unfoldable pub in_words : ℕ → List ℕ → List ℕ
in_words zero bits = []
in_words (suc n) bits = number_l 2 (take 64 bits) ∷ in_words n (drop 64 bits)

-- each row in words of its own
unfoldable pub in_rows : ℕ → ℕ → List ℕ → List ℕ
in_rows width zero samples = []
in_rows width (suc height) samples = in_words ((width + 63) / 64) (take width samples) ++ in_rows width height (drop width samples)

-- so many pixels at the front as a word, and what follows them
abbrev pub word_at : ℕ → List ℕ → Result (ℕ × List ℕ) ReadFault
word_at count bytes = front_at count bytes >>= λ f. Ok (number_l 2 f.0, f.1)

-- the words so far with those of a row, and what follows it
abbrev pub row_at : List ℕ → ℕ → List ℕ → Result (List ℕ × List ℕ) ReadFault
row_at out width bytes = front_at width bytes >>= λ f. Ok (out ++ in_words ((width + 63) / 64) f.0, f.1)

-- the words of the rows that are read
abbrev pub words_from : ℕ → ℕ → Result (List ℕ) ReadFault → Result (List ℕ) ReadFault
words_from width height read = read >>= λ xs. Ok (in_rows width height xs)
