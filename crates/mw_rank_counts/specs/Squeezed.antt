-- Samples as bytes.
use Rattle.std.specs.Prelude.{◌≡◌, ℕ, ◌-◌, ◌*◌, ◌/◌, ◌<◌, ◌^◌, length, min, slice_index_or}
use Rattle.mw_rank_counts.specs.declared.squeezed.Bytes.{Bytes}

-- how far a sample is above a level, without its low bits, and at most 255
abbrev pub squeezed : ℕ → ℕ → ℕ → ℕ
squeezed rest v s = min ((s - v) / 2 ^ rest) 255

-- room for 32 bytes of each place, and for 32 ranks
pub record BytesHaveRoom (b : Bytes) : Type 0 where
  pub size : length b.samples.items ≡ length b.places.items * 32
  pub places : (q : ℕ) → q < length b.places.items → slice_index_or b.places.items q 0 ≡ q * 32
  pub ranks : length b.ranks.items ≡ 32
