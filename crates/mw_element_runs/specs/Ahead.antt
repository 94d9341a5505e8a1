-- Offsets that continue a run, several at a time.
use Rattle.std.specs.Prelude.{ℕ, ◌+◌, ◌<◌, List}
use Rattle.mw_model.specs.declared.offsets.Offset.{Offset}
use Rattle.mw_element_runs.specs.Runs.{offset_at, Continues}

-- from so many offsets that begin at a place of the list, so many more continue the run
abbrev pub AllContinue : List Offset → ℕ → ℕ → ℕ → Type 0
AllContinue offsets from count more = (i : ℕ) → i < more → Continues (record { dx = (offset_at offsets from).dx; dy = (offset_at offsets from).dy; count = count + i }) (offset_at offsets (from + count + i))
