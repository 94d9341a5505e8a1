-- What is seen under a square, with the greatest level where nothing is seen.
use Rattle.std.specs.Prelude.{ℕ, ◌+◌, Bool, cond, List, [], ◌∷◌}
use Rattle.mw_model.specs.PlanSteps.{ranked}
use Rattle.mw_model.specs.declared.offsets.Offset.{Offset}
use Rattle.mw_model.specs.Rasters.{Sight}
use Rattle.mw_rank.specs.Ranks.{levels_at}
use Rattle.mw_rank_medians.specs.declared.filled.Lines.{Lines}
use Rattle.mw_rank_medians.specs.Squares.{offset_rows}

-- the first level, or the greatest one where there is none
abbrev pub or_top : ℕ → List ℕ → ℕ
or_top top [] = top
or_top top (v ∷ vs) = v

-- the level at an offset from column x of row y, or the greatest one where nothing is seen there
abbrev pub filled_at : {A : Type 0} → (A → ℕ) → ℕ → Sight A → Offset → ℕ → ℕ → ℕ
filled_at level top sight b x y = or_top top (levels_at level sight b x y)

-- the levels at the offsets from column x of row y
abbrev pub filled_under : {A : Type 0} → (A → ℕ) → ℕ → Sight A → List Offset → ℕ → ℕ → List ℕ
filled_under level top sight [] x y = []
filled_under level top sight (b ∷ bs) x y = filled_at level top sight b x y ∷ filled_under level top sight bs x y

-- number k of the levels under a square that begins at an offset from column x of row y
abbrev pub filled_rank : {A : Type 0} → (A → ℕ) → ℕ → Sight A → Offset → ℕ → ℕ → ℕ → ℕ → ℕ
filled_rank level top sight b side k x y = ranked k (filled_under level top sight (offset_rows b side side) x y)

-- the column of place i of line r, where lines are rows, or columns if they go down
abbrev pub line_x : Bool → ℕ → ℕ → ℕ → ℕ
line_x down x i r = cond down (x + r) (x + i)

-- the row of place i of line r
abbrev pub line_y : Bool → ℕ → ℕ → ℕ → ℕ
line_y down y i r = cond down (y + i) (y + r)

-- of values at columns and rows, the one at place i of line r
abbrev pub on_lines : Lines → (ℕ → ℕ → ℕ) → ℕ → ℕ → ℕ
on_lines lines value = λ i r. value (line_x lines.down lines.x i r) (line_y lines.down lines.y i r)
