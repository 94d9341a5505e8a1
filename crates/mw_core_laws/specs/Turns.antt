-- Which ready task START takes (own).
use Rattle.std.specs.Prelude.{ℕ, ◌+◌, ◌<◌, ◌≤◌, map, sum}
use Rattle.std.specs.List.{range_with_len}
use Rattle.mw_model.specs.Stands.{CoreView, ready_under}

-- how many tasks of the tickets before this one are ready
abbrev pub ready_before : CoreView → ℕ → ℕ
ready_before c t = sum (map (ready_under c) (range_with_len 0 t))

-- Ready tasks are counted in ticket order: the one of this place is of the ticket.
pub record IsAt (c : CoreView) (place t : ℕ) : Type 0 where
  pub from : ready_before c t ≤ place
  pub below : place < ready_before c t + ready_under c t
