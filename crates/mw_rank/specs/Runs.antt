-- Elements as horizontal runs of offsets.
use Rattle.std.specs.Prelude.{ℕ, ℤ, zero, suc, ◌-◌, List, [], ◌∷◌, pos, ◌+ℤ◌}
use Rattle.std.specs.List.{flat_map}
use Rattle.mw_model.specs.declared.offsets.Offset.{Offset}
use Rattle.mw_element_runs.specs.declared.runs.Run.{Run}
use Rattle.mw_element_runs.specs.Runs.{start_offset}

-- the run of these parts
abbrev pub run_at : ℤ → ℤ → ℕ → Run
run_at dx dy count = record { dx = dx; dy = dy; count = count }

-- the offset to the right
abbrev pub next_offset : Offset → Offset
next_offset b = record { dx = b.dx +ℤ pos 1; dy = b.dy }

-- so many offsets of one row, from this one to the right
abbrev pub offsets_from : Offset → ℕ → List Offset
offsets_from b zero = []
offsets_from b (suc n) = b ∷ offsets_from (next_offset b) n

-- all offsets of a run, which has one at least
abbrev pub offsets_of_run : Run → List Offset
offsets_of_run r = offsets_from (start_offset r) (suc (r.count - 1))

-- the offsets of all runs
abbrev pub element_of : List Run → List Offset
element_of runs = flat_map offsets_of_run runs
