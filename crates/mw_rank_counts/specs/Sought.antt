-- The ranks that a search is wanted for in a tile.
use Rattle.std.specs.Prelude.{ℕ, ◌+◌, List}
use Rattle.mw_model.specs.PlanSteps.{ranked}
use Rattle.mw_model.specs.Rasters.{Sight}
use Rattle.mw_rank.specs.Ranks.{levels_under, GainsRanks, HasRows}
use Rattle.mw_rank_counts.specs.declared.counting.Wanted.{Wanted}

-- the list has got the wanted ranks of n places of a row of the tile, from column x of the frame on
abbrev pub GainsSought : {A : Type 0} → (A → ℕ) → Sight A → Wanted → ℕ → ℕ → ℕ → List A → List A → Type 0
GainsSought level sight wanted x row n old new = GainsRanks level wanted.search.k sight wanted.offsets.now x (wanted.tile.y + row) n old new

-- the list has the wanted ranks of all rows of the tile, in w columns from column x of the frame on
abbrev pub HasSought : {A : Type 0} → (A → ℕ) → Sight A → Wanted → ℕ → ℕ → List A → Type 0
HasSought level sight wanted x w cells = HasRows level (λ i j. ranked wanted.search.k (levels_under level sight wanted.offsets.now (x + i) (wanted.tile.y + j))) w wanted.tile.height cells
