-- The medians that are wanted in a tile.
use Rattle.std.specs.Prelude.{◌≡◌, ℕ, ◌+◌, ◌<◌, List}
use Rattle.mw_model.specs.Windows.{seen_at}
use Rattle.mw_rank.specs.Ranks.{GainsRanks, HasRows}
use Rattle.mw_rank_medians.specs.Filled.{filled_rank}
use Rattle.mw_rank_medians.specs.declared.tiles.Wanted.{Wanted}

-- the list has got the wanted ranks of n places of a row of the tile, from column x of the frame on
abbrev pub GainsWanted : {A H : Type 0} → (A → ℕ) → Wanted A H → ℕ → ℕ → ℕ → List A → List A → Type 0
GainsWanted level wanted x row n old new = GainsRanks level wanted.k (seen_at wanted.window.now) wanted.offsets.now x (wanted.tile.y + row) n old new

-- the level is the filled rank at column x of row y, if it is below the greatest one
abbrev pub IsFilled : {A H : Type 0} → (A → ℕ) → ℕ → Wanted A H → ℕ → ℕ → A → Type 0
IsFilled level top wanted x y s = level s < top → level s ≡ filled_rank level top (seen_at wanted.window.now) wanted.first wanted.side wanted.k x y

-- the list has the filled ranks of columns from column x of the frame on, column after column: of each the first n rows from the tile's on
abbrev pub HasFilledColumns : {A H : Type 0} → (A → ℕ) → ℕ → Wanted A H → ℕ → ℕ → ℕ → List A → Type 0
HasFilledColumns level top wanted x n columns cells = HasRows level (λ i r. filled_rank level top (seen_at wanted.window.now) wanted.first wanted.side wanted.k (x + r) (wanted.tile.y + i)) n columns cells
