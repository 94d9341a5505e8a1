-- Counters that are lowered and raised; no public contract speaks of it.
use Rattle.std.specs.Prelude.{◌≡◌, ℕ, ◌+◌, ◌<◌, Bool, true, false, List, length, slice_index}
use Rattle.mw_model.specs.Tasks.{flag}
use Rattle.mw_grid.specs.Counts.{bit}
use Rattle.mw_ready_queue.specs.Queues.{Queued}

-- each place where this is true is one lower
pub record Lowers (here : ℕ → Bool) (old now : List ℕ) : Type 0 where
  pub size : length now ≡ length old
  pub each : (t : ℕ) → t < length old → slice_index now t + bit (here t) ≡ slice_index old t

-- each place is higher by so much
pub record Raises (more : ℕ → ℕ) (old now : List ℕ) : Type 0 where
  pub size : length now ≡ length old
  pub each : (t : ℕ) → t < length old → slice_index now t ≡ slice_index old t + more t

-- no place is 0 where this is true
abbrev pub NoneIsZero : (ℕ → Bool) → List ℕ → Type 0
NoneIsZero here counts = (t : ℕ) → t < length counts → here t ≡ true → 0 < slice_index counts t

-- the tasks where this is true wait and are idle
abbrev pub AreWaiting : (ℕ → Bool) → Queued → Type 0
AreWaiting here q = (t : ℕ) → t < length q.waiting → here t ≡ true → (0 < slice_index q.waiting t) × (flag q.started t ≡ false)

-- apart from counters and lists the queue is as it was
pub record SameTiles (old now : Queued) : Type 0 where
  pub started : now.started ≡ old.started
  pub tiles : now.tiles ≡ old.tiles
