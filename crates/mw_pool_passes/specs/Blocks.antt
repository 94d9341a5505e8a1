-- Counting receipts, place by place, over a stretch of the log.
use Rattle.std.specs.Prelude.{◌≡◌, ℕ, ◌+◌, ◌<◌, ◌==◌, List, length, Some, slice_get, slice_index, count_by, min}
use Rattle.mw_model.specs.declared.calls.Call.{Call}
use Rattle.mw_model.specs.declared.calls.Reply.{Reply}
use Rattle.mw_model.specs.declared.calls.LogItem.{LogItem}
use Rattle.mw_model.specs.declared.calls.LogItem.TheVariants as item
use Rattle.mw_model.specs.declared.receipts.Receipt.{Receipt}
use Rattle.mw_model.specs.Receipts.{count_at}

-- how many of these receipts are of this place
abbrev pub of_place : List Receipt → ℕ → ℕ
of_place receipts place = count_by (λ (r : Receipt). r.place == place) receipts

-- what stands at the k-th of 4,096 places from a base on, as a byte: all from 255 on is 255
pub record IsTally (bytes : List ℕ) (base : ℕ) (count : ℕ → ℕ) : Type 0 where
  pub size : length bytes ≡ 4096
  pub each : (k : ℕ) → k < 4096 → slice_index bytes k ≡ min 255 (count (base + k))

-- a call that stands at this place has exactly one receipt
abbrev pub IsOnceAt : List LogItem → List (List Receipt) → ℕ → Type 0
IsOnceAt log passes place = (c : Call) (r : Reply) → slice_get log place ≡ Some (item.Call c r) → count_at passes place ≡ 1
