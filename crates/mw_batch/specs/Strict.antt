-- The status of a strict batch (own).
use Rattle.std.specs.Prelude.{ℕ, Bool, ◌&&◌, ◌==◌, if◌then◌else◌}

-- where a batch that is not strict has this status: 3 in the place of 0 where a reply was a refusal, and else the same
abbrev pub strict_status : ℕ → Bool → ℕ
strict_status status refused = if (status == 0) && refused then 3 else status
