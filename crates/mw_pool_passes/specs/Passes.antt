-- What a call adds to a pass.
use Rattle.std.specs.Prelude.{◌≡◌, ℕ, List, [], ◌∷◌, ◌++◌}
use Rattle.mw_model.specs.declared.calls.Call.{Call}
use Rattle.mw_model.specs.declared.calls.Reply.{Reply}
use Rattle.mw_model.specs.declared.receipts.Receipt.{Receipt}

-- the receipts, and that of this call with this reply, which stands at this place of the log
abbrev pub with_receipt : List Receipt → ℕ → Call → Reply → List Receipt
with_receipt receipts place c r = receipts ++ record { place = place; call = c; reply = r } ∷ []

-- one receipt more, of this call with this reply, wherever it stands in the log
abbrev pub AddsReceipt : List Receipt → List Receipt → Call → Reply → Type 0
AddsReceipt old new c r = (place : ℕ) × (new ≡ with_receipt old place c r)
