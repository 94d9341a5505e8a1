-- A row that is merged with another, shifted against it.
use Rattle.std.specs.Prelude.{ℤ, pos, negsuc, List, Option, Some, None, slice_get}

-- the sample at a place of a row, where the row has that place
abbrev pub at_place : {A : Type 0} → List A → ℤ → Option A
at_place row (pos n) = slice_get row n
at_place row (negsuc n) = None

-- a sample merged with another, where there is one
abbrev pub merge_at : {A : Type 0} → (A → A → A) → A → Option A → A
merge_at merge best None = best
merge_at merge best (Some sample) = merge best sample
