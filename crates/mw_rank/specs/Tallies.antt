-- What a histogram counts.
use Rattle.std.specs.Prelude.{◌≡◌, ℕ, ◌+◌, ◌<◌, ◌≤◌, List, ◌++◌, length, nat_lt, count_by, slice_index}
use Rattle.mw_rank.specs.declared.histogram.Histogram.{Histogram}

-- how many of the numbers are below the limit
abbrev pub count_under : ℕ → List ℕ → ℕ
count_under limit ns = count_by (λ s. nat_lt s limit) ns

-- the histogram has counted these levels, none of them above the top
pub record Tallies (top : ℕ) (h : Histogram) (ns : List ℕ) : Type 0 where
  pub short : top < 65536
  pub size : length h.counts.items ≡ top + 1
  pub each : (v : ℕ) → count_under (v + 1) ns ≡ slice_index h.counts.items v + count_under v ns
  pub all : count_under (top + 1) ns ≡ length ns
  pub below : h.below ≡ count_under h.level ns
  pub held : h.held ≡ length ns
  pub level : h.level ≤ top

-- the histogram has counted some levels, fewer than a counter can count
pub record HistogramHasRoom (top : ℕ) (h : Histogram) : Type 0 where
  pub levels : List ℕ
  pub tallies : Tallies top h levels
  pub few : length levels < 65535

-- the histogram has counted so few levels that n more can be counted
pub record HasRoomFor (top : ℕ) (h : Histogram) (n : ℕ) : Type 0 where
  pub levels : List ℕ
  pub tallies : Tallies top h levels
  pub few : length levels + n < 65536

-- the histogram has counted these levels, and perhaps others
pub record HistogramHolds (top : ℕ) (h : Histogram) (ns : List ℕ) : Type 0 where
  pub others : List ℕ
  pub tallies : Tallies top h (ns ++ others)
  pub few : length (ns ++ others) < 65536

-- the histogram has counted the second levels in place of the first, whatever others it has counted
abbrev pub Exchanges : ℕ → List ℕ → List ℕ → Histogram → Histogram → Type 0
Exchanges top left entered old new = (ns : List ℕ) → Tallies top old (left ++ ns) → Tallies top new (entered ++ ns)
