-- One value written over places of an array.
use Rattle.std.specs.Prelude.{◌≡◌, ℕ, ◌<◌, ◌≤◌, List, length, slice_index_or}

-- the places from the start up to the end have the value, and those before are as they were
pub record IsOverwritten {A : Type 0} (start end : ℕ) (value : A) (old new : List A) : Type 0 where
  pub size : length new ≡ length old
  pub here : (k : ℕ) (d : A) → start ≤ k → k < end → slice_index_or new k d ≡ value
  pub before : (k : ℕ) (d : A) → k < start → slice_index_or new k d ≡ slice_index_or old k d
