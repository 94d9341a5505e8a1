-- Eight histograms side by side.
use Rattle.std.specs.Prelude.{◌≡◌, ℕ, ◌+◌, ◌*◌, ◌<◌, ◌≤◌, ◌⊎◌, List, length, slice_index_or}
use Rattle.mw_rank_rows.specs.declared.search.Front.{Front}

-- of so many levels, lane j has counted u v j samples below v; below the front's level it has as many as the front says
pub record Counts (levels : ℕ) (u : ℕ → ℕ → ℕ) (counts : List ℕ) (level : ℕ) (below : List ℕ) : Type 0 where
  pub short : levels < 65536
  pub size : length counts ≡ levels * 8
  pub each : (v j : ℕ) → v < levels → j < 8 → u (v + 1) j ≡ slice_index_or counts (v * 8 + j) 0 + u v j
  pub none : (j : ℕ) → j < 8 → u 0 j ≡ 0
  pub few : (j : ℕ) → j < 8 → u levels j < 65536
  pub inside : level < levels
  pub lanes : length below ≡ 8
  pub under : (j : ℕ) → j < 8 → slice_index_or below j 0 ≡ u level j

-- lane j has fewer than n samples below the level, and n or more not above it; it is the lowest where n is 0
pub record IsFound (levels : ℕ) (u : ℕ → ℕ → ℕ) (n j level : ℕ) : Type 0 where
  pub few : (u level j < n) ⊎ (level ≡ 0)
  pub enough : n ≤ u (level + 1) j
  pub within : level < levels

-- more samples are below a higher level
abbrev pub CountsRise : (ℕ → ℕ → ℕ) → Type 0
CountsRise w = (v j : ℕ) → w v j ≤ w (v + 1) j

-- each lane has fewer samples below the front than its number, or the front is at the lowest level
abbrev pub HasFewBelow : Front → List ℕ → Type 0
HasFewBelow front n = (j : ℕ) → j < 8 → (slice_index_or front.below j 0 < slice_index_or n j 0) ⊎ (front.level ≡ 0)

-- below v, lane j has `more v j` samples more
abbrev pub CountsMore : (ℕ → ℕ → ℕ) → (ℕ → ℕ → ℕ) → (ℕ → ℕ → ℕ) → Type 0
CountsMore more u w = (v j : ℕ) → j < 8 → w v j ≡ u v j + more v j

-- counters of 16 bits have room for all that the lanes have counted
abbrev pub CountersFit : ℕ → (ℕ → ℕ → ℕ) → Type 0
CountersFit levels w = (j : ℕ) → j < 8 → w levels j < 65536

-- some samples enter: whatever the lanes had counted, they have counted more, where all are among the levels and the counters have room
abbrev pub CountsEnter : (ℕ → Type 0) → (ℕ → ℕ → ℕ) → Front → List ℕ → List ℕ → List ℕ → Type 0
CountsEnter among more front old new below = (levels : ℕ) (u w : ℕ → ℕ → ℕ) → Counts levels u old front.level front.below → among levels → CountsMore more u w
    → CountersFit levels w → Counts levels w new front.level below

-- some samples leave: whatever the lanes had counted, they have counted less, where all are among the levels
abbrev pub CountsLeave : (ℕ → Type 0) → (ℕ → ℕ → ℕ) → Front → List ℕ → List ℕ → List ℕ → Type 0
CountsLeave among more front old new below = (levels : ℕ) (u w : ℕ → ℕ → ℕ) → Counts levels u old front.level front.below → among levels → CountsMore more w u → CountsRise w
    → Counts levels w new front.level below
