-- Columns of a place as lines (own).
use Rattle.std.specs.Prelude.{◌≡◌, ℕ, ℤ, ◌+◌, ◌<◌, List, map, pos, ◌+ℤ◌, ◌-ℤ◌}
use Rattle.std.specs.Option.{option_to_list}
use Rattle.mw_model.specs.declared.offsets.Offset.{Offset}
use Rattle.mw_model.specs.Rasters.{raster, cell_at}
use Rattle.mw_model.specs.Windows.{View, seen_at}
use Rattle.mw_rank_medians.specs.mw_rank.Ranks.{levels_at}
use Rattle.mw_rank_medians.specs.mw_rank.Tallies.{count_under}

-- the level in a column and row of the view's place, if it has that
abbrev pub levels_in : {A : Type 0} → (A → ℕ) → View A → ℤ → ℤ → List ℕ
levels_in level w column row = map level (option_to_list (cell_at (raster w.place.width w.place.height w.cells) column row))

-- one level is seen, and it is no more than the top
abbrev pub IsOne : ℕ → List ℕ → Type 0
IsOne top seen = count_under (top + 1) seen ≡ 1

-- where the first of lines is in a column of the place, one level is seen at each of its places, and so in the lines behind it
abbrev pub AreSeen : {A : Type 0} → (A → ℕ) → ℕ → View A → Offset → ℕ → ℕ → ℕ → ℕ → Type 0
AreSeen level top w b x y n count =
    (q i c : ℕ) → q < count → i < n → pos (x + q) +ℤ b.dx -ℤ pos w.place.x ≡ pos c → c < w.place.width → IsOne top (levels_at level (seen_at w) b (x + q) (y + i))
